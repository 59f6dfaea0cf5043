pub mod Kept
pub mod Arrays
pub mod Laws
pub mod Inside
