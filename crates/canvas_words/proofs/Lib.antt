pub mod AllCommands
pub mod Making
pub mod Added
pub mod Simplicity
pub mod Parsed
mod Taken
