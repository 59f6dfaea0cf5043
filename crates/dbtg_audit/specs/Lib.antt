pub mod Auditing
pub mod Telling
pub mod Reported
pub mod Laws
pub mod Inside
