-- The state: the database, its units with their currents and kept records, its image, its cells; and when it is legal.
-- May use: keys, values and cells of dbtg_cells.
-- Promises: nothing of statements; a database is four functions, and a unit what is current for it and what it keeps.
pub mod Base
pub mod Belongs
pub mod CellNames
pub mod Cells
pub mod Image
pub mod Kept
pub mod Legal
pub mod LegalWith
pub mod Units
pub mod Versions
