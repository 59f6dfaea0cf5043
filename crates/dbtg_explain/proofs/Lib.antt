mod Rows
mod Labels
mod Said
mod OfferedRows
