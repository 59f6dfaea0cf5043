-- The second half of this crate: what a statement holds, what it needs next, what it has prepared, and how that is made.
-- It uses the first half, `Database`, which does not cite it. `Needs` and `Prepared` are what the crates of the statements are
-- held to; `Local` says what binds hands and databases together.
-- May use: the first half, and the cells of dbtg_cells.
-- Promises: what is read from held cells (`InHand`) is so in each database that agrees with them, and edits (`Edits`) are
-- all that changes cells.
pub mod CanEdit
pub mod Edits
pub mod EditsOf
pub mod Erasing
pub mod Guesses
pub mod Hands
pub mod InHand
pub mod Lends
pub mod Local
pub mod Locality
pub mod Making
pub mod NeedOrder
pub mod Needs
pub mod PlanOf
pub mod Prepared
pub mod Reserving
