pub mod LineView
pub mod FrozenView
pub mod Runnable
pub mod Planned
pub mod Utf8
pub mod Ends
pub mod steps
