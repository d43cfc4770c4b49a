pub mod Walks
pub mod SameCalls
pub mod KnownNames
pub mod StoreCauses
pub mod FrontNumbers
pub mod FrontEvents
pub mod AfterEnds
