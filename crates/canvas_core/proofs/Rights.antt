-- What a backend lets a seat do.
pub mod Asking
pub mod Seats
