-- What a turn of a worker leaves, and what its record says of all of them.
pub mod Stepping
pub mod Redelivering
pub mod ToldAnswers
pub mod GivenEnvelope
pub mod PollsFollowed
pub mod Held
pub mod Finishing
