-- What a run on threads promises, and what its records show.
pub mod WorkerSlots
pub mod ThreadRuns
pub mod Wanted
pub mod RecordLaws
pub mod EnvelopeTasks
pub mod Headlines
pub mod HeadlineMisses
pub mod SeatRows
pub mod Crosses
