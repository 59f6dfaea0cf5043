mod Rows
pub mod Crosses
pub mod TheRule
pub mod Units
pub mod Together
