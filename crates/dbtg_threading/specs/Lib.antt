pub mod Threading
pub mod Inside
