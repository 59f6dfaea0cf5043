-- What it means that no record has a CALC key.
use Rattle.std.proofs.Common.{◌≡◌, sym, ◌∙◌, subst, ℕ, Bool, true, false, not, ◌&&◌, List, [], ◌∷◌, Option, Some, None, ⊎_elim}
use Rattle.std.specs.List.{list_any}
use Rattle.std.proofs.lemmas.Bool.{or_cases, or_left, or_right, false≢true, false_from_ne_true, not_from_false}
use Rattle.dbtg_schema.specs.Lists.{Lists}
use Rattle.dbtg_schema.specs.declared.shape.Calc.{Calc}
use Rattle.dbtg_schema.specs.Lookups.{some_and}
use Rattle.dbtg_schema.specs.Structure.{calc_of}
use Rattle.dbtg_cells.specs.declared.key.DbKey.{DbKey}
use Rattle.dbtg_cells.specs.declared.key.Value.{Value}
use Rattle.dbtg_cells.specs.Keys.{values_eq}
use Rattle.dbtg_cells.specs.Members.{is_left_out}
use Rattle.dbtg_cells.proofs.Public.{key_eq_refl, same_key}
use Rattle.dbtg_unit.specs.Database.State.Base.{Database, is_live, items_of, is_member, calc_items, live_keys}
use Rattle.dbtg_unit.specs.Database.Statements.Found.{with_calc}
use Rattle.dbtg_unit.specs.Database.Statements.Conditions.{calc_taken}
use Rattle.dbtg_unit.specs.Database.Statements.StoredFacts.{whole}
use Rattle.dbtg_unit.specs.Database.State.Legal.{Legal}
use Rattle.dbtg_unit.proofs.Database.Legal.LegalParts.{unique_calc}
use Rattle.dbtg_unit.proofs.Database.Legal.ListsChanged.{keeps_member}
use Rattle.dbtg_unit.proofs.Database.Records.LiveKeys.{in_member, live_in}

-- some member passes, where one does
pub any_member : (p : DbKey → Bool) (xs : List DbKey) (x : DbKey) → is_member x xs ≡ true → p x ≡ true → list_any p xs ≡ true
any_member p [] x h g = absurd (false≢true h)
any_member p (y ∷ ys) x h g = ⊎_elim (λ e. or_left _ _ (subst (λ (z : DbKey). p z ≡ true) (same_key x y e) g)) (λ r. or_right _ _ (any_member p ys x r g)) (or_cases _ _ h)

pub member_of_any : (p : DbKey → Bool) (xs : List DbKey) → list_any p xs ≡ true → (x : DbKey) × (is_member x xs ≡ true) × (p x ≡ true)
member_of_any p [] h = absurd (false≢true h)
member_of_any p (y ∷ ys) h = ⊎_elim (λ e. (y, or_left _ _ (key_eq_refl y), e)) (λ r. let m = member_of_any p ys r in (m.0, or_right _ _ m.1, m.2)) (or_cases _ _ h)

none_where_unique : (calc : Option Calc) (taken : Bool) → some_and (λ c. not c.duplicates_allowed && taken) calc ≡ false → some_and (λ c. not c.duplicates_allowed) calc ≡ true → taken ≡ false
none_where_unique None taken h g = absurd (false≢true g)
none_where_unique (Some c) taken h g = at (not c.duplicates_allowed) h g where
  at : (b : Bool) → (b && taken) ≡ false → b ≡ true → taken ≡ false
  at true h g = h
  at false h g = absurd (false≢true g)

-- if a CALC key is not taken, no live record has it except those left out
pub not_taken : (schema : Lists) (capacity : ℕ) (db : Database) (t : ℕ) (items : List Value) (left : Option DbKey) → Legal schema capacity db → calc_taken schema (whole schema capacity db) t items left ≡ false → unique_calc schema t ≡ true
    → (x : DbKey) → is_live db x ≡ true → x.rtype ≡ t → is_left_out left x ≡ false → values_eq (calc_items schema t (items_of db x)) (calc_items schema t items) ≡ false
not_taken schema capacity db t items left legal free unique x live of_type stays =
    false_from_ne_true _ (λ same. false≢true
    (sym (none_where_unique (calc_of schema t) (list_any (λ k. not (is_left_out left k)) (with_calc schema capacity db t (calc_items schema t items))) free unique)
    ∙ any_member (λ k. not (is_left_out left k)) (with_calc schema capacity db t (calc_items schema t items)) x
    (keeps_member x (λ k. values_eq (calc_items schema t (items_of db k)) (calc_items schema t items)) (live_keys capacity db t) (subst (λ u. is_member x (live_keys capacity db u) ≡ true) of_type (in_member x (live_keys capacity db x.rtype) (live_in schema capacity db legal x live))) same)
    (not_from_false _ stays)))
