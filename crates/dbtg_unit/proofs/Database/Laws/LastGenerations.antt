-- A statement changes the last generation of a number only where it stores a record under that number.
use Rattle.std.proofs.Common.{◌≡◌, refl, sym, ◌∙◌, ap, ℕ, true, false, cond, ◌&&◌, List, Option, Some, None, ◌⊎◌, inl, inr, eqb}
use Rattle.std.specs.Prelude.{is_some, option_map, unwrap_or}
use Rattle.std.proofs.lemmas.Bool.{and_parts, cases_Bool, eqb-true, false≢true}
use Rattle.std.proofs.lemmas.Option.{same_Some}
use Rattle.dbtg_schema.specs.Lists.{Lists}
use Rattle.dbtg_schema.specs.Lookups.{first_cause}
use Rattle.dbtg_cells.specs.declared.key.DbKey.{DbKey}
use Rattle.dbtg_cells.specs.declared.key.Value.{Value}
use Rattle.dbtg_cells.specs.declared.name.CellName.TheVariants.{Slot}
use Rattle.dbtg_cells.specs.declared.slot.Stored.{Stored}
use Rattle.dbtg_cells.specs.Keys.{key_eq}
use Rattle.dbtg_cells.proofs.Public.{key_eq_refl}
use Rattle.dbtg_unit.specs.declared.statement.Statement.{Statement}
use Rattle.dbtg_unit.specs.declared.statement.Statement.TheVariants.{OpenArea, CloseArea, Find, Get, Store, Insert, Remove, Modify, Delete, Keep, Free}
use Rattle.dbtg_unit.specs.declared.unit.Unit.{Unit}
use Rattle.dbtg_unit.specs.Database.State.Base.{Database, Record, free_number, is_live, key_at, new_key}
use Rattle.dbtg_unit.specs.Database.State.Cells.{cell, slot_of}
use Rattle.dbtg_unit.specs.Database.Statements.Checks.{open_checks, store_checks}
use Rattle.dbtg_unit.specs.Database.Statements.Effect.{StatementEffect, effect, effect_on_cells, stored, with_new}
use Rattle.dbtg_unit.specs.Database.Statements.Found.{found}
use Rattle.dbtg_unit.specs.Database.Statements.StoredFacts.{whole}
use Rattle.dbtg_unit.proofs.Database.Legal.Outcomes.{of_current, of_done, of_effect, of_finding, of_unless}
use Rattle.dbtg_unit.proofs.Database.Records.Determined.{slot_in}

-- the number has the last generation that it had, or its latest key is live
abbrev IsLastOrLive : Database → ℕ → ℕ → Database → Type 0
IsLastOrLive db t n new = (new.last t n ≡ db.last t n) ⊎ (is_live new (key_at new t n) ≡ true)

-- where a record is stored, its number has its generation
new_is_live : (schema : Lists) (db : Database) (k : DbKey) (items : List Value) (t n : ℕ) → IsLastOrLive db t n (with_new schema db k items)
new_is_live schema db k items t n = elim (cases_Bool (eqb t k.rtype && eqb n k.number)) [
  | inl same ↦
      let parts = and_parts _ _ same in
      let at : k ≡ key_at (with_new schema db k items) t n = λ i. record {
        rtype = sym (eqb-true t k.rtype parts.0) i;
        number = sym (eqb-true n k.number parts.1) i;
        generation = sym (ap (λ b. cond b k.generation (db.last t n)) same) i;
      } in
      inr (ap (λ b. is_some (cond b (Some (record { items = items; version = 1 })) (db.records (key_at (with_new schema db k items) t n)))) (ap (key_eq k) (sym at) ∙ key_eq_refl k))
  | inr other ↦ inl (ap (λ b. cond b k.generation (db.last t n)) other)
]

module _ (schema : Lists) (capacity : ℕ) (db : Database) (unit : Unit) (t n : ℕ) where
  abbrev Kept : StatementEffect → Type 0
  Kept o = IsLastOrLive db t n o.database

  on_cells : (statement : Statement) → Kept (effect_on_cells schema capacity db unit statement)
  on_cells (OpenArea a mode) = of_unless db unit Kept (λ cause. inl refl) (first_cause (open_checks (whole schema capacity db) a mode)) _ (λ h. inl refl)
  on_cells (CloseArea a) = inl refl
  on_cells (Find suppress form) = of_finding db unit Kept (λ cause. inl refl) (found schema capacity db unit form) _ (λ k h. inl refl)
  on_cells (Get r) = of_current db unit Kept (λ cause. inl refl) unit.currency.run_unit _ _ (λ k e h. inl refl)
  on_cells (Store u items suppress) =
      of_unless db unit Kept (λ cause. inl refl) (first_cause (store_checks schema (whole schema capacity db) unit u items))
      (stored schema capacity db unit (new_key db u (unwrap_or (free_number capacity db u) 0)) items suppress)
      (λ h. new_is_live schema db (new_key db u (unwrap_or (free_number capacity db u) 0)) items t n)
  on_cells (Insert s) = of_current db unit Kept (λ cause. inl refl) unit.currency.run_unit _ _ (λ k e h. inl refl)
  on_cells (Remove s) = of_current db unit Kept (λ cause. inl refl) unit.currency.run_unit _ _ (λ k e h. inl refl)
  on_cells (Modify u changes) = of_current db unit Kept (λ cause. inl refl) unit.currency.run_unit _ _ (λ k e h. inl refl)
  on_cells (Delete option) = of_current db unit Kept (λ cause. inl refl) unit.currency.run_unit _ _ (λ k e h. inl refl)
  on_cells Keep = of_current db unit Kept (λ cause. inl refl) unit.currency.run_unit _ _ (λ k e h. inl refl)
  on_cells (Free true) = inl refl
  on_cells (Free false) = of_done db unit Kept (λ cause. inl refl) unit.currency.run_unit _ (λ k e. inl refl)

-- a statement changes the last generation of a number only where it stores a record under that number
pub last_or_stored : (schema : Lists) (capacity : ℕ) (db : Database) (unit : Unit) (x : Statement) (t n : ℕ)
    → ((effect schema capacity db unit x).database.last t n ≡ db.last t n) ⊎ (is_live (effect schema capacity db unit x).database (key_at (effect schema capacity db unit x).database t n) ≡ true)
last_or_stored schema capacity db unit x t n = of_effect db unit (Kept schema capacity db unit t n) (λ cause. inl refl) schema capacity x (λ h. on_cells schema capacity db unit t n x)

-- where a slot has a record, what it shows has the record's generation
same_generation : (schema : Lists) (capacity : ℕ) (db new : Database) (t n : ℕ) → is_live new (key_at new t n) ≡ true → cell schema capacity new (Slot t n) ≡ cell schema capacity db (Slot t n) → new.last t n ≡ db.last t n
unfolding cell
same_generation schema capacity db new t n live same = by (new.records (key_at new t n)) (db.records (key_at db t n)) live (ap slot_in same)
  where
    by : (o p : Option Record) → is_some o ≡ true → option_map (slot_of schema capacity new (key_at new t n)) o ≡ option_map (slot_of schema capacity db (key_at db t n)) p → new.last t n ≡ db.last t n
    by None p l e = absurd (false≢true l)
    by (Some r) None l e = absurd (cc (e))
    by (Some r) (Some q) l e = ap (λ (s : Stored). s.generation) (same_Some _ _ e)

-- where the slot of a number shows the same before and after a statement, the number's last generation is the same
pub same_slot_same_last : (schema : Lists) (capacity : ℕ) (db : Database) (unit : Unit) (x : Statement) (t n : ℕ) → cell schema capacity (effect schema capacity db unit x).database (Slot t n) ≡ cell schema capacity db (Slot t n)
    → (effect schema capacity db unit x).database.last t n ≡ db.last t n
same_slot_same_last schema capacity db unit x t n same = elim (last_or_stored schema capacity db unit x t n) [
  | inl kept ↦ kept
  | inr live ↦ same_generation schema capacity db (effect schema capacity db unit x).database t n live same
]
