-- The lemmas that other crates cite. All others are this crate's own, free to change.

-- WHAT IS KEPT OF A COURSE

-- what is kept is right when more is held
pub use Rattle.dbtg_erase.proofs.CourseStays.{kept_stays}
-- nothing kept is right
pub use Rattle.dbtg_erase.proofs.CourseStays.{nothing_kept}
-- hands with one cell more have all that they had
pub use Rattle.dbtg_erase.proofs.CourseStays.{one_more_cell}
-- hands with the same cells have all of them
pub use Rattle.dbtg_erase.proofs.CourseStays.{same_cells}
