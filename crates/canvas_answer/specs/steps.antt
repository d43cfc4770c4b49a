pub mod Classes
pub mod First
pub mod Pieces
pub mod BlamedLists
