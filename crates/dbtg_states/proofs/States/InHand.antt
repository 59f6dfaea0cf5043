-- Copies of cells that are held, one more at a time; the names of what is held; and what the statement of a unit looks at that needs these.
-- c is the name of a cell, db a database, d one with its history, u a unit, x a statement.
use Rattle.std.proofs.Common.{◌≡◌, refl, ℕ, suc, ◌-◌, Bool, true, false, cond, List, [], ◌∷◌, ◌++◌, Option, Some, None, Bor, sym, ◌∙◌, ap, subst, inl, inr, ⊎_elim, slice_get}
use Rattle.std.specs.Prelude.{◌||◌, is_some}
use Rattle.std.specs.Option.{option_copied}
use Rattle.std.specs.List.{list_all, list_any}
use Rattle.std.proofs.lemmas.Bool.{true≢false, cases_Bool, false≢true}
use Rattle.std.proofs.lemmas.Option.{same_Some}
use Rattle.dbtg_schema.specs.Lists.{Lists}
use Rattle.dbtg_schema.specs.Sound.{IsSound}
use Rattle.dbtg_cells.specs.CellNumbers.{is_cell}
use Rattle.dbtg_cells.specs.Cells.{shown}
use Rattle.dbtg_cells.specs.Names.{name_eq}
use Rattle.dbtg_cells.specs.declared.cell.Cell.{Cell}
use Rattle.dbtg_cells.specs.declared.name.CellName.{CellName}
use Rattle.dbtg_cells.proofs.Public.{name_eq_refl, same_name}
use Rattle.dbtg_unit.specs.Database.State.Base.{Database}
use Rattle.dbtg_unit.specs.Database.State.Cells.{cell}
use Rattle.dbtg_unit.specs.Hands.Hands.{cell_of}
use Rattle.dbtg_unit.specs.Hands.Local.{AllAgree, holds, names_of}
use Rattle.dbtg_unit.specs.Database.State.LegalWith.{IsUnitIn}
use Rattle.dbtg_unit.specs.Database.Laws.Replay.{IsHistoryOf}
use Rattle.dbtg_unit.specs.declared.statement.Statement.{Statement}
use Rattle.dbtg_unit.specs.declared.unit.Unit.{Unit}
use Rattle.dbtg_unit.proofs.Public.{In}
use Rattle.dbtg_step.specs.Core.Whole.{Making, state_now}
use Rattle.dbtg_states.specs.Looked.{AreLookedAt, IsReadyWith}
use Rattle.dbtg_states.proofs.States.Spelled.{legal_making}

-- a cell that is not found is not held
pub not_held : (cells : List (CellName × Cell)) (c : CellName) → is_some (cell_of c cells) ≡ false → list_any (λ e. name_eq c e.0) cells ≡ false
not_held [] c none = refl
not_held (e ∷ es) c none = by (name_eq c e.0) none (not_held es c) where
  by : (b : Bool) → is_some (cond b (Some e.1) (cell_of c es)) ≡ false → (is_some (cell_of c es) ≡ false → list_any (λ d. name_eq c d.0) es ≡ false) → (b || list_any (λ d. name_eq c d.0) es) ≡ false
  by true h f = absurd (true≢false h)
  by false h f = f h

-- one more cell that the database has so
pub agree_more : (schema : Lists) (capacity : ℕ) (db : Database) (cells : List (CellName × Cell)) (c : CellName) (x : Cell) → AllAgree schema capacity db cells → shown x ≡ cell schema capacity db c → AllAgree schema capacity db (cells ++ (c, x) ∷ [])
agree_more schema capacity db [] c x h e = (e, tt)
agree_more schema capacity db (d ∷ ds) c x h e = (h.0, agree_more schema capacity db ds c x h.1 e)

-- what is read through a reference is there just where the reference is
pub copied_some : (r : Option (Bor Cell)) → is_some (option_copied r) ≡ is_some r
copied_some None = refl
copied_some (Some r) = refl

-- NAMES

pub held_in : (cells : List (CellName × Cell)) (c : CellName) → holds cells c ≡ true → In c (names_of cells)
held_in [] c h = absurd (false≢true h)
held_in (e ∷ es) c h =
    elim (cases_Bool (name_eq c e.0)) [
      | inl same ↦ inl (sym (same_name c e.0 same))
      | inr apart ↦ inr (held_in es c (subst (λ b. cond b true (holds es c) ≡ true) apart h))
    ]

pub in_held : (cells : List (CellName × Cell)) (c : CellName) → In c (names_of cells) → holds cells c ≡ true
in_held [] c i = absurd i
in_held (e ∷ es) c i =
    ⊎_elim
    (λ same. subst (λ (d : CellName). holds (e ∷ es) d ≡ true) same (ap (λ b. cond b true (holds es e.0)) (name_eq_refl e.0)))
    (λ j. elim (name_eq c e.0) as (λ b. cond b true (holds es c) ≡ true) [ true ↦ refl | false ↦ in_held es c j ])
    i

-- WHERE A STATEMENT IS MADE

-- the unit that stands at its place in a database on which statements were made
module _ (d : Making) (sound : IsSound d.schema) (history : IsHistoryOf d.schema d.capacity d.units d.history) (units : List Unit) (units_are : units ≡ (state_now d).units) (u : ℕ) (unit : Unit) (found : slice_get units (u - 1) ≡ Some unit) where
  stands : slice_get (state_now d).units (u - 1) ≡ Some unit
  stands = ap (λ (us : List Unit). slice_get us (u - 1)) (sym units_are) ∙ found

  pub maker_is : IsUnitIn d.schema d.capacity (state_now d).database (suc (u - 1)) unit
  maker_is = (legal_making d sound history).each (u - 1) unit stands

  -- what its statement needs is what it looks at
  pub needed_are : (schema : Lists) (capacity : ℕ) (x : Statement) (names : List CellName) → d.schema ≡ schema → d.capacity ≡ capacity → IsReadyWith schema capacity (state_now d).database unit x names × (list_all (is_cell schema capacity) names ≡ true) → AreLookedAt d.schema d.capacity (state_now d) u x names
  needed_are schema capacity x names of_schema of_capacity are = record {
    are_cells = (λ i. list_all (is_cell (of_schema i) (of_capacity i)) names) ∙ are.1;
    ready = λ v e.
        subst (λ (w : Unit). IsReadyWith d.schema d.capacity (state_now d).database w x names) (same_Some unit v (sym stands ∙ e))
        (subst (λ (s : Lists). IsReadyWith s d.capacity (state_now d).database unit x names) (sym of_schema)
        (subst (λ (k : ℕ). IsReadyWith schema k (state_now d).database unit x names) (sym of_capacity) are.0));
  }
