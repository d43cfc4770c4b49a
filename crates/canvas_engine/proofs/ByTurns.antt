-- What a run by turns leaves, step by step, turn by turn and as a whole.
pub mod TurnRunSteps
pub mod TurnRunAsks
pub mod TurnRunTurns
pub mod TurnRunAgain
pub mod Noting
pub mod Delivering
pub mod EntryPlaces
pub mod RoundTurns
pub mod Opening
pub mod ReadRows
pub mod WholeRuns
pub mod Portions
