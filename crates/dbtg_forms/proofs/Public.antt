-- The lemmas that other crates cite. All others are this crate's own, free to change.
-- two graphs have the same number just if they are isomorphic
pub use Rattle.dbtg_forms.proofs.Numbering.{numbers_tell}
-- a graph keeps its number when others are entered
pub use Rattle.dbtg_forms.proofs.Numbering.{numbers_remain}
-- lists that begin with lists of one length have the same beginning and the same rest
pub use Rattle.dbtg_forms.proofs.Matching.{split}
-- where one was found, or else the end
pub use Rattle.dbtg_forms.proofs.Lists.{position_found}
-- one number more
pub use Rattle.dbtg_forms.proofs.Lists.{range_more}
-- what the numbers below another are
pub use Rattle.dbtg_forms.proofs.Lists.{has_range, from_range}
-- what a list has
pub use Rattle.dbtg_forms.proofs.Lists.{has_cases, has_first, has_left, has_right, map_along}
