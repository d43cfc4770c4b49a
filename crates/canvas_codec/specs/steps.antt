pub mod FrozenReading
pub mod Reading
pub mod Elements
