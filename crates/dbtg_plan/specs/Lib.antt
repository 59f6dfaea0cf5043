pub mod AtOnce
pub mod Locality
pub mod Inside
