-- Lemmas on lists, numbers and tests, which both halves of the crate use. They cite nothing of what is held.
-- May use: the standard library, and words on lists from the first half such as `pairwise`.
-- Promises: each lemma is over lists of anything.
pub mod Agreeing
pub mod Ascending
pub mod BitsBelow16
pub mod FirstCauses
pub mod LentElement
pub mod Listing
pub mod Membership
pub mod NoAnswer
pub mod Numbered
pub mod PlacedMaps
pub mod QuestionsJoined
pub mod RangeFilters
pub mod SideBySide
pub mod WithANewMember
