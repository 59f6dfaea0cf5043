-- What a DELETE needs next by the held cells is what it needs on each database that agrees with them.
use Rattle.std.proofs.Common.{◌≡◌, refl, sym, ◌∙◌, ap, ℕ, false, cond, not, ◌&&◌, [], Option, Some, None}
use Rattle.std.specs.Prelude.{◌==◌, is_some}
use Rattle.std.specs.List.{find, list_any}
use Rattle.std.proofs.lemmas.Bool.{and_right}
use Rattle.dbtg_schema.specs.Lists.{Lists}
use Rattle.dbtg_schema.specs.Lookups.{at, some_and}
use Rattle.dbtg_cells.specs.declared.key.DbKey.{DbKey}
use Rattle.dbtg_cells.specs.declared.name.CellName.{CellName}
use Rattle.dbtg_cells.specs.Names.{name_eq}
use Rattle.dbtg_unit.specs.declared.held.Need.TheVariants.{Area, Ready}
use Rattle.dbtg_unit.specs.declared.statement.Erase.{Erase}
use Rattle.dbtg_unit.specs.declared.statement.Statement.TheVariants.{Delete}
use Rattle.dbtg_unit.specs.declared.unit.Cause.{Cause}
use Rattle.dbtg_unit.specs.declared.unit.Unit.{Unit}
use Rattle.dbtg_unit.specs.Database.State.Base.{Database, is_live, owner_of}
use Rattle.dbtg_unit.specs.Database.Statements.Checks.{refused_at_once}
use Rattle.dbtg_unit.specs.Hands.Erasing.{delete_cells_of}
use Rattle.dbtg_unit.specs.Hands.Hands.{Hands}
use Rattle.dbtg_unit.specs.Hands.Local.{Agrees}
use Rattle.dbtg_unit.specs.Hands.Needs.{areas_in_order, cells_of, is_stale, is_wrong_guess, need, need_of_cells, next_of}
use Rattle.dbtg_unit.proofs.Public.{holds_any}
use Rattle.dbtg_erase.specs.Inside.NextCell.{need_of, next_cell_of}
use Rattle.dbtg_erase.proofs.NextCell.{next_cell_is}

module _ (schema : Lists) (capacity : ℕ) (unit : Unit) (option : Erase) (hands : Hands) (db : Database) where
  pub ready_refused : (cause : Cause) → refused_at_once schema capacity unit (Delete option) ≡ Some cause → Ready ≡ need schema capacity db unit hands (Delete option)
  unfolding need
  ready_refused cause e = sym (ap (λ (o : Option Cause). cond (is_some o) Ready (need_of_cells schema capacity db unit hands (Delete option))) e)

  abbrev wanted_area : Option ℕ
  wanted_area = find (λ a. not (list_any (λ b. b == a) hands.areas)) (areas_in_order schema unit (Delete option))

  passes : refused_at_once schema capacity unit (Delete option) ≡ None → need_of_cells schema capacity db unit hands (Delete option) ≡ need schema capacity db unit hands (Delete option)
  unfolding need
  passes e = ap (λ (o : Option Cause). cond (is_some o) Ready (need_of_cells schema capacity db unit hands (Delete option))) (sym e)

  pub area_wanted : (a : ℕ) → refused_at_once schema capacity unit (Delete option) ≡ None → wanted_area ≡ Some a → Area a ≡ need schema capacity db unit hands (Delete option)
  area_wanted a e h =
      sym (ap (λ w. next_of w (find (λ c. not (list_any (λ e. name_eq c e.0) hands.cells)) (cells_of schema capacity db unit hands.guesses (Delete option))) (is_stale schema capacity db unit hands.guesses (Delete option))) h)
      ∙ passes e

  fresh : (r : Option DbKey) → some_and (λ k. is_live db k && list_any (λ s. is_wrong_guess (owner_of schema capacity db s k) (at hands.guesses s)) []) r ≡ false
  fresh None = refl
  fresh (Some k) = and_right (is_live db k) false refl

  cell_is : Agrees schema capacity db hands unit → (r : Option DbKey) → find (λ c. not (list_any (λ e. name_eq c e.0) hands.cells)) (delete_cells_of schema capacity db unit option r) ≡ next_cell_of schema capacity hands unit option r
  cell_is agrees None = refl
  cell_is agrees (Some k) = (λ i. find (λ c. not (holds_any hands.cells c i)) (delete_cells_of schema capacity db unit option (Some k))) ∙ sym (next_cell_is schema capacity db hands unit agrees option k)

  next_parts : (c : Option CellName) → next_of None c false ≡ need_of c
  next_parts None = refl
  next_parts (Some c) = refl

  pub cell_wanted : Agrees schema capacity db hands unit → refused_at_once schema capacity unit (Delete option) ≡ None → wanted_area ≡ None
      → need_of (next_cell_of schema capacity hands unit option unit.currency.run_unit) ≡ need schema capacity db unit hands (Delete option)
  cell_wanted agrees e h =
      sym (next_parts (next_cell_of schema capacity hands unit option unit.currency.run_unit))
      ∙ (λ i. next_of (sym h i) (sym (cell_is agrees unit.currency.run_unit) i) (sym (fresh unit.currency.run_unit) i))
      ∙ passes e
