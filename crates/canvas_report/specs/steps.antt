pub mod ReportRows
pub mod EdgeLists
pub mod PieceLists
