-- Words on lists, and sums over them.
pub mod Words
pub mod Sums
