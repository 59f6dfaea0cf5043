-- The key of a list that is chosen, from a current that may be none.
use Rattle.std.proofs.Common.{◌≡◌, refl, sym, ap, true, false, List, Option, Some, None}
use Rattle.std.specs.Prelude.{filter, is_some}
use Rattle.std.proofs.lemmas.Bool.{false≢true}
use Rattle.dbtg_schema.specs.Lookups.{final, first}
use Rattle.dbtg_cells.specs.declared.key.DbKey.{DbKey}
use Rattle.dbtg_unit.specs.declared.statement.Which.TheVariants.{Last, Next, Prior}
use Rattle.dbtg_unit.specs.Database.Statements.Found.{chosen_by_key}
use Rattle.dbtg_unit.proofs.Public.{filter_all}
use Rattle.dbtg_plan.specs.Inside.Finding.{is_above, is_below}
use Rattle.dbtg_plan.proofs.Find.NumberedKeys.{none_kept}

pub last_chosen : (current : Option DbKey) (keys : List DbKey) → final (filter (is_below None) keys) ≡ chosen_by_key Last current keys
last_chosen current keys = ap final (filter_all keys)

pub next_chosen : (current : Option DbKey) (keys : List DbKey) → is_some current ≡ true → first (filter (is_above current) keys) ≡ chosen_by_key Next current keys
next_chosen None keys h = absurd (false≢true h)
next_chosen (Some c) keys h = refl

pub prior_chosen : (current : Option DbKey) (keys : List DbKey) → is_some current ≡ true → final (filter (is_below current) keys) ≡ chosen_by_key Prior current keys
prior_chosen None keys h = absurd (false≢true h)
prior_chosen (Some c) keys h = refl

pub no_next : (current : Option DbKey) (keys : List DbKey) → is_some current ≡ false → None ≡ chosen_by_key Next current keys
no_next None keys h = ap first (sym (none_kept keys))
no_next (Some c) keys h = absurd (false≢true (sym h))

pub no_prior : (current : Option DbKey) (keys : List DbKey) → is_some current ≡ false → None ≡ chosen_by_key Prior current keys
no_prior None keys h = ap final (sym (none_kept keys))
no_prior (Some c) keys h = absurd (false≢true (sym h))
