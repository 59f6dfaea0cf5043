mod HistoryShown
mod LinesGrow
mod ThreeParts
pub mod Public
