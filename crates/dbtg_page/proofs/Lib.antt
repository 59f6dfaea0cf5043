mod ChangesLead
mod CoreShown
mod PartsSplit
mod Positions
mod Telling
mod UnitsShown
mod Rows
