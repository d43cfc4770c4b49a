pub mod Books
pub mod Cores
pub mod Rights
