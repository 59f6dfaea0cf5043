-- The worked rows of a shop that grows, item by item, at any capacity.
-- May use: lemmas on lists, since these rows go by induction.
-- Promises: what is there after any number of items.
pub mod ItemsInTurn
pub mod ManyMembers
pub mod OpenedShop
