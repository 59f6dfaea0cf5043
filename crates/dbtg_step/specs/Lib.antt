pub mod Laws
pub mod Machine
pub mod Core
pub mod Inside
