pub mod Obstacles
pub mod Said
pub mod Sentences
pub mod Laws
pub mod Inside
