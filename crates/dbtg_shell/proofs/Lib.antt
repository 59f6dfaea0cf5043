mod ProgramSteps
mod Rows
mod SessionTurns
