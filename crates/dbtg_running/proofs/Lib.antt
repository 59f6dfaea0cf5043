mod ProgramsRead
mod Echoed
pub mod Rows
mod Shown
mod ReadBack
mod ScriptsOnThreads
mod SavedTurns
mod TextsAtHand
mod RunAgain
