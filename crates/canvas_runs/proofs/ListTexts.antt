pub mod CommaTexts
pub mod EntryTexts
