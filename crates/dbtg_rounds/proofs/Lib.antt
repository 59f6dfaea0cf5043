pub mod Walks
pub mod Leading
pub mod Ranks
pub mod Rows
pub mod SameEdges
pub mod Graphs
pub mod Reached
