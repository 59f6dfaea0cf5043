-- Lemmas that lead from a text without faults to a schema that is within its limits and sound.
-- They may use those of `Forms`. `Soundness` and `Keeps` are what the reader's contract rests on.
-- May use: `Forms`, for what a derivation has.
-- Promises: `Soundness`: parts that fit together; `Limits`, `Keeps`: limits and ranges; `NamesSpelled`: names as they are
-- spelled.
pub mod Closings
pub mod Distinct
pub mod Fit
pub mod Keeps
pub mod KeyNumbers
pub mod KeyPictures
pub mod Limits
pub mod MembersFit
pub mod NamesDiffer
pub mod NamesSpelled
pub mod Soundness
pub mod TextParts
