mod Hints
mod Rows
mod SessionSteps
mod ShellReplies
mod TakingBack
pub mod Public
