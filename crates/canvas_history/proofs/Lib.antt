pub mod Histories
pub mod Calls
pub mod CallerLaws
pub mod TableLaws
pub mod Rosters
