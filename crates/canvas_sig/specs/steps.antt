pub mod Clean
pub mod Names
pub mod Members
pub mod Alone
pub mod Plain
pub mod Place
pub mod Source
