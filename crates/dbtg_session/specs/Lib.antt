pub mod Asking
pub mod Replies
pub mod Sessions
pub mod UnitWords
pub mod Inside
