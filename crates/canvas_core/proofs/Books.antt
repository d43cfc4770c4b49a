-- The knowledge of a book, and facts about it.
pub mod KnownLines
pub mod FirstKnown
pub mod KnownFollowed
pub mod Sendable
pub mod Opening
pub mod Dues
pub mod KnownJobs
pub mod KnownScripts
