-- What every run keeps, and what a closed one has done.
pub mod Meaning
pub mod Run
pub mod MoreAsks
pub mod GoodRuns
pub mod Right
pub mod OnceEach
pub mod StoredOnce
pub mod Finish
pub mod Tables
pub mod Drained
pub mod Delivered
