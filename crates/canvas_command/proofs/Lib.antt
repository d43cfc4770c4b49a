pub mod Pictures
pub mod Wording
pub mod Printed
pub mod Cases
mod Paging
pub mod Batches
