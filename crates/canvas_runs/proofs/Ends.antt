-- How many calls a run makes, and that it goes on.
pub mod TaskSums
pub mod FewCalls
pub mod PartsDue
pub mod Ongoing
pub mod Progress
pub mod Starting
