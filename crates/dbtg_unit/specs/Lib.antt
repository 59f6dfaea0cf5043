pub mod Database
pub mod Hands
pub mod Inside
