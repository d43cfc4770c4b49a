pub mod States
pub mod Walks
pub mod Gathering
