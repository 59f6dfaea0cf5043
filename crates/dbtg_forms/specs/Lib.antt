pub mod Graphs
pub mod Forms
pub mod Laws
