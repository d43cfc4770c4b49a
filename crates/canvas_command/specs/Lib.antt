pub mod Runs
pub mod Messages
pub mod Asked
pub mod Worded
pub mod Each
pub mod Failing
pub mod Paged
pub mod steps
