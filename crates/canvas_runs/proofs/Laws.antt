-- The laws of runs, and the facts about a plan that they need.
pub mod Facts
pub mod FactsOnce
pub mod FirstLaw
pub mod SecondLaw
pub mod EventStates
pub mod Causes
pub mod Bodies
pub mod ProgramOrder
