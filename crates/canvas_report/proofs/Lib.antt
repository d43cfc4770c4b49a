pub mod Identifiers
pub mod ReportLines
pub mod Pieces
pub mod RowLines
pub mod RowLaws
pub mod ReadBack
mod WorkedRows
pub mod EdgeParts
pub mod NodeParts
pub mod NodeLaw
pub mod MessageParts
mod Blocks
