pub mod Turns
pub mod Goings
pub mod Texts
pub mod Spelled
pub mod Inside
