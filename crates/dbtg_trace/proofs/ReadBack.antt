-- What is printed of a history is read back unchanged.
pub mod Grammar
pub mod Bytes
pub mod Periods
pub mod Words
pub mod Spelled
pub mod Said
pub mod Lines
pub mod Sayable
pub mod Scripts
