pub mod Rows
mod Lists
mod Database
mod Hands
pub mod Public
