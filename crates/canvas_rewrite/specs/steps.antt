pub mod Kept
pub mod NameTexts
pub mod Growing
pub mod Weight
