pub mod PassKnowledge
pub mod Rule
