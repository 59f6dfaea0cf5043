pub mod EachDetermined
pub mod Find
pub mod Connect
pub mod Store
pub mod Modify
pub mod Needs
pub mod Plans
