mod AdaptedExamples
mod Names
pub mod RenamedLaws
mod Settled
pub mod Naming
pub mod Stubbing
