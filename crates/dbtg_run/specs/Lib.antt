pub mod Views
pub mod Entries
pub mod UnitView
pub mod Drawn
pub mod Outcomes
pub mod Settling
pub mod Running
pub mod Inside
