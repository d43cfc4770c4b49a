pub mod Budget
pub mod Ending
pub mod LineReach
pub mod Reading
pub mod Tokens
