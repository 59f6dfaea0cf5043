pub mod Lists
pub mod Reaching
pub mod Carrying
pub mod Matching
pub mod Numbering
pub mod Rooted
mod Rows
pub mod Public
