-- What a core does, and what ends it.
pub mod FoundMembers
pub mod CoreLaw
pub mod Stores
pub mod ScriptsMade
pub mod Sound
pub mod Located
pub mod CorePasts
pub mod EndLaw
pub mod ShownAsks
pub mod Settling
pub mod Resting
pub mod Counts
pub mod Opened
