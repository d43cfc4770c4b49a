pub mod Writers
pub mod Named
