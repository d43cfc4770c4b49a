pub mod Options
pub mod steps
