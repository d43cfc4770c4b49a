pub mod Nest
pub mod TreeCode
pub mod LineCode
