pub mod Crosses
pub mod Joins
pub mod RuleSteps
pub mod Begins
pub mod Batches
pub mod Made
