mod EachEvent
mod Runs
mod Network
mod TheCore
mod MadeWhole
pub mod Public
