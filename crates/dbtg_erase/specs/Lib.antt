pub mod WorkList
pub mod NextCell
pub mod Course
pub mod Locality
pub mod Inside
