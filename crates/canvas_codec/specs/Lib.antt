pub mod FrozenParts
pub mod steps
