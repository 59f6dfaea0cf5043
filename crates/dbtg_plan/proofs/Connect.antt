-- INSERT and REMOVE, and where a record may be placed.
-- May use: `Plans`, and how edits change cells.
-- Promises: the plans of INSERT and REMOVE are their effects, and can be made.
pub mod InsertIsEffect
pub mod PlacesDecide
pub mod RemoveIsEffect
