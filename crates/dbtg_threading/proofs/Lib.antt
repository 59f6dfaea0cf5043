pub mod Gone
pub mod Crosses
pub mod Again
pub mod Around
mod Found
pub mod InTurn
