mod Keeping
mod Entering
mod Trees
mod Changed
mod Places
mod Several
mod Rows
pub mod Public
