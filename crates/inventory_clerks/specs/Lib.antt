pub mod Orders
pub mod Staff
pub mod Inside
