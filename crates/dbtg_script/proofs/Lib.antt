mod Fitting
mod Reading
mod Printing
mod Rows
pub mod Public
