-- What legal histories of the queue and of the table are to the proofs: lists of calls.
pub mod Replay
pub mod Bridges
pub mod CallsOf
pub mod Accords
pub mod Histories
pub mod Splits
