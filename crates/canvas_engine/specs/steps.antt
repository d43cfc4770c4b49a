pub mod PlanTexts
pub mod Gathering
pub mod WorkerSlots
pub mod Noting
pub mod TurnRuns
pub mod AgainRuns
