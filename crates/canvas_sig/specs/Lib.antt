pub mod steps
pub mod Datum
