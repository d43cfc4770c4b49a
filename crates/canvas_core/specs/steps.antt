pub mod Lasts
pub mod Members
