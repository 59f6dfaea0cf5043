pub mod Ended
pub mod Options
pub mod Picturing
