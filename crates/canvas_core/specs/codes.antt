pub mod CoreCode
