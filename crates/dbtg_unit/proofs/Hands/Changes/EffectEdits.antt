-- The effect of a statement other than DELETE on the cells is its edits.
use Rattle.dbtg_unit.specs.Database.Statements.Checks.{live_checks}
use Rattle.std.proofs.Common.{◌≡◌, refl, sym, ◌∙◌, ap, subst, ℕ, ◌≤◌, Bool, true, false, cond, not, ◌&&◌, List, [], ◌∷◌, ◌++◌, Option, Some, None, eqb, ltb}
use Rattle.std.specs.Prelude.{is_none, is_some, unwrap_or, filter}
use Rattle.std.specs.List.{list_any, range_with_len}
use Rattle.std.proofs.lemmas.Bool.{and_parts, false≢true, not-true, not-false}
use Rattle.dbtg_schema.specs.Lists.{Lists}
use Rattle.dbtg_schema.specs.Lookups.{first_cause}
use Rattle.dbtg_schema.specs.Structure.{automatic_sets}
use Rattle.dbtg_cells.specs.declared.key.DbKey.{DbKey}
use Rattle.dbtg_cells.specs.declared.key.Owner.TheVariants.{System}
use Rattle.dbtg_cells.specs.declared.key.Value.{Value}
use Rattle.dbtg_cells.specs.declared.usage.Mode.{Mode}
use Rattle.dbtg_cells.specs.declared.name.CellName.{CellName}
use Rattle.dbtg_cells.specs.declared.name.CellName.TheVariants.{Usage, Extent, Ring, Slot}
use Rattle.dbtg_cells.specs.Shown.{UsageValue}
use Rattle.dbtg_cells.specs.Users.{left_by}
use Rattle.dbtg_unit.specs.declared.edit.CellEdit.{CellEdit}
use Rattle.dbtg_unit.specs.declared.statement.Change.{Change}
use Rattle.dbtg_unit.specs.declared.statement.Statement.{Statement}
use Rattle.dbtg_unit.specs.declared.statement.Statement.TheVariants.{OpenArea, CloseArea, Find, Get, Store, Insert, Remove, Modify, Delete, Keep, Free}
use Rattle.dbtg_unit.specs.declared.statement.Suppress.{Suppress}
use Rattle.dbtg_unit.specs.declared.unit.Cause.{Cause}
use Rattle.dbtg_unit.specs.declared.unit.Cause.TheVariants.{AlreadyMember, Deleted, DuplicatesNotAllowed, NoRoom, NotMember, UsageConflict}
use Rattle.dbtg_unit.specs.declared.unit.Place.{Place}
use Rattle.dbtg_unit.specs.declared.unit.Status.TheVariants.{Done, Refused}
use Rattle.dbtg_unit.specs.declared.unit.Unit.{Unit}
use Rattle.dbtg_unit.specs.Database.State.Base.{Database, is_live, items_of, key_at, key_item, owner_of, sort_key}
use Rattle.dbtg_unit.specs.Database.State.Cells.{cell}
use Rattle.dbtg_unit.specs.Database.Statements.Checks.{lacks_current}
use Rattle.dbtg_unit.specs.Hands.Edits.{edited_at}
use Rattle.dbtg_unit.specs.Hands.EditsOf.{edits_of, is_delete}
use Rattle.dbtg_unit.specs.Database.Statements.StoredFacts.{whole}
use Rattle.dbtg_unit.specs.Database.Statements.Effect.{StatementEffect, calc_taken, conflict, done, effect, effect_on_cells, free_number, inserted, insert_checks, modified, modify_checks, new_key, own_checks, place_checks, refused, removed, remove_checks, store_checks, stored, version_of}
use Rattle.dbtg_unit.specs.Database.Statements.Found.{found}
use Rattle.dbtg_unit.specs.Database.State.Legal.{Legal}
use Rattle.dbtg_unit.specs.Database.State.Units.{forgotten, noted, place_in, seen}
use Rattle.dbtg_unit.proofs.Database.Legal.PassedChecks.{first_check_passes, passes_check, passes_append, passes_each, number_passes, number_within}
use Rattle.dbtg_unit.proofs.Hands.Changes.InsertCells.{insert_makes}
use Rattle.dbtg_unit.proofs.Database.Legal.LegalEffect.{passes_without_cells, some_from_not_none, no_number_passes, first_has}
use Rattle.dbtg_unit.proofs.Hands.Changes.ModifyCells.{modify_makes}
use Rattle.dbtg_unit.proofs.Database.Legal.Outcomes.{of_unless, of_current, of_done, of_finding, of_effect}
use Rattle.dbtg_unit.proofs.Hands.Changes.RemoveCells.{remove_makes}
use Rattle.dbtg_unit.proofs.Hands.Changes.StoreCells.{store_makes}

-- what a STORE that passes has found: a number that no record has, and a current owner with a list in each automatic set
pub record StoreFound (schema : Lists) (capacity : ℕ) (db : Database) (unit : Unit) (t : ℕ) : Type 0 where
  pub counted : 1 ≤ unwrap_or (free_number capacity db t) 0
  pub unused : is_live db (key_at db t (unwrap_or (free_number capacity db t) 0)) ≡ false
  pub stands : (s : ℕ) → list_any (λ x. eqb x s) (automatic_sets schema t) ≡ true → (place : Place) × (place_in schema unit s ≡ Some place) × (is_some (db.lists s place.owner) ≡ true)

module _ (schema : Lists) (capacity : ℕ) (db : Database) (unit : Unit) (legal : Legal schema capacity db) where
  -- where the outcome is done and legal, its cells are the edited ones
  abbrev pub Edited : List CellEdit → StatementEffect → Type 0
  Edited edits outcome = outcome.answer.status ≡ Done → Legal schema capacity outcome.database → (c : CellName) → cell schema capacity outcome.database c ≡ edited_at c edits (cell schema capacity db c)

  pub no_refusal : (edits : List CellEdit) (cause : Cause) → Edited edits (refused db unit cause)
  no_refusal edits cause is_done = absurd (never is_done) where
    never : Refused cause ≡ Done → ⊥
    never h = cc

  -- OPEN and CLOSE

  of_open : (a : ℕ) (mode : Mode) → Edited (edits_of schema capacity db unit (OpenArea a mode)) (effect_on_cells schema capacity db unit (OpenArea a mode))
  unfolding cell
  of_open a mode =
      of_unless db unit (Edited (edits_of schema capacity db unit (OpenArea a mode))) (no_refusal (edits_of schema capacity db unit (OpenArea a mode)))
      (first_cause ((list_any (λ e. conflict e.1 mode) (db.usage a), UsageConflict) ∷ [])) _ (λ h is_done lawful c. made c) where
        made : (c : CellName) → cell schema capacity (record db { usage = λ b. cond (eqb b a) (db.usage b ++ (unit.number, mode) ∷ []) (db.usage b) }) c ≡ edited_at c (edits_of schema capacity db unit (OpenArea a mode)) (cell schema capacity db c)
        made (Usage b) = elim (eqb b a) as (λ x. UsageValue (cond x (db.usage b ++ (unit.number, mode) ∷ []) (db.usage b)) ≡ cond x (UsageValue (db.usage b ++ (unit.number, mode) ∷ [])) (UsageValue (db.usage b))) [ true ↦ refl | false ↦ refl ]
        made (Extent t) = refl
        made (Ring s q) = refl
        made (Slot t n) = refl

  of_close : (a : ℕ) → Edited (edits_of schema capacity db unit (CloseArea a)) (effect_on_cells schema capacity db unit (CloseArea a))
  unfolding cell
  of_close a is_done lawful (Usage b) = elim (eqb b a) as (λ x. UsageValue (cond x (left_by unit.number (db.usage b)) (db.usage b)) ≡ cond x (UsageValue (left_by unit.number (db.usage b))) (UsageValue (db.usage b))) [ true ↦ refl | false ↦ refl ]
  of_close a is_done lawful (Extent t) = refl
  of_close a is_done lawful (Ring s q) = refl
  of_close a is_done lawful (Slot t n) = refl

  -- STORE

  -- where placing is not refused, the set has a current owner with a list
  placing : (s : ℕ) (key : Option Value) → is_none (place_in schema unit s) ≡ false → first_cause (place_checks schema (whole schema capacity db) unit s key) ≡ None
      → (place : Place) × (place_in schema unit s ≡ Some place) × (is_some (db.lists s place.owner) ≡ true)
  placing s key stands checks =
      let at = some_from_not_none (place_in schema unit s) stands in
      let place = unwrap_or (place_in schema unit s) (record { owner = System; at = None }) in
      let there = passes_check (is_none (db.lists s place.owner)) Deleted _ checks in
      let list = some_from_not_none (db.lists s place.owner) there.0 in
      let same : place ≡ at.0 = ap (λ (p : Option Place). unwrap_or p (record { owner = System; at = None })) at.1 in
      (at.0, at.1, ap (λ (p : Place). is_some (db.lists s p.owner)) (sym same) ∙ ap is_some list.1)

  pub store_found : (t : ℕ) (items : List Value) → list_any (λ s. is_none (place_in schema unit s)) (automatic_sets schema t) ≡ false
      → first_cause (store_checks schema (whole schema capacity db) unit t items) ≡ None → StoreFound schema capacity db unit t
  store_found t items placed checks =
      let room = passes_check (is_none (free_number capacity db t)) NoRoom _ checks in
      let unique = passes_check (calc_taken schema (whole schema capacity db) t items None) DuplicatesNotAllowed _ room.1 in
      let n = some_from_not_none (free_number capacity db t) room.0 in
      let number = unwrap_or (free_number capacity db t) 0 in
      let is : n.0 ≡ number = ap (λ (o : Option ℕ). unwrap_or o 0) (sym n.1) in
      let chosen = number_passes free n.0 (range_with_len 1 capacity) (first_has (filter free (range_with_len 1 capacity)) n.0 n.1) in
      let within = number_within n.0 1 capacity chosen.0 in
      let low = within.0 in
      record {
        counted = subst (λ (m : ℕ). 1 ≤ m) is low;
        unused = subst (λ m. is_live db (key_at db t m) ≡ false) is (not-true _ (and_parts (not (is_live db (key_at db t n.0))) (ltb (db.last t n.0) 255) chosen.1).0);
        stands = λ s h. placing s (key_item schema s t items) (no_number_passes (λ s. is_none (place_in schema unit s)) s (automatic_sets schema t) h placed)
            (passes_each (λ s. place_checks schema (whole schema capacity db) unit s (key_item schema s t items)) (automatic_sets schema t) s h unique.1);
      } where
        free : ℕ → Bool
        free n = not (is_live db (key_at db t n)) && ltb (db.last t n) 255

  of_store : (t : ℕ) (items : List Value) (suppress : Suppress) → lacks_current schema unit (Store t items suppress) ≡ false
      → Edited (edits_of schema capacity db unit (Store t items suppress)) (effect_on_cells schema capacity db unit (Store t items suppress))
  of_store t items suppress placed =
      of_unless db unit (Edited (edits_of schema capacity db unit (Store t items suppress))) (no_refusal (edits_of schema capacity db unit (Store t items suppress)))
      (first_cause (store_checks schema (whole schema capacity db) unit t items)) (stored schema capacity db unit (new_key db t (unwrap_or (free_number capacity db t) 0)) items suppress) made where
        made : first_cause (store_checks schema (whole schema capacity db) unit t items) ≡ None → Edited (edits_of schema capacity db unit (Store t items suppress)) (stored schema capacity db unit (new_key db t (unwrap_or (free_number capacity db t) 0)) items suppress)
        made checks is_done lawful c =
            let found = store_found t items placed checks in
            store_makes schema capacity db unit (new_key db t (unwrap_or (free_number capacity db t) 0)) items legal found.counted refl found.unused found.stands lawful c

  -- STATEMENTS ABOUT THE CURRENT OF RUN-UNIT

  pub alive : (k : DbKey) (checks : List (Bool × Cause)) → first_cause (own_checks (whole schema capacity db) unit k ++ checks) ≡ None → (is_live db k ≡ true) × (first_cause checks ≡ None)
  alive k checks h =
      let parts = passes_append (own_checks (whole schema capacity db) unit k) checks h in
      (not-false _ (passes_check (not (is_live db k)) Deleted _ parts.0).0, parts.1)

  of_insert : (s : ℕ) → lacks_current schema unit (Insert s) ≡ false → Edited (edits_of schema capacity db unit (Insert s)) (effect_on_cells schema capacity db unit (Insert s))
  of_insert s placed =
      of_current db unit (Edited (edits_of schema capacity db unit (Insert s))) (no_refusal (edits_of schema capacity db unit (Insert s)))
      unit.currency.run_unit (insert_checks schema (whole schema capacity db) unit s) (inserted schema db unit s)
      (λ k is checks is_done lawful c.
      let own = alive k ((is_some (owner_of schema capacity db s k), AlreadyMember) ∷ place_checks schema (whole schema capacity db) unit s (sort_key schema db s k)) checks in
      let rest = first_check_passes (is_some (owner_of schema capacity db s k), AlreadyMember) (place_checks schema (whole schema capacity db) unit s (sort_key schema db s k)) own.1 in
      let at = placing s (sort_key schema db s k) placed rest.1 in
      insert_makes schema capacity db unit s k at.0 legal at.1 own.0 lawful at.2 c
      ∙ ap (λ current. edited_at c (edits_of schema capacity db (record unit { currency = record unit.currency { run_unit = current } }) (Insert s)) (cell schema capacity db c)) (sym is))

  of_remove : (s : ℕ) → Edited (edits_of schema capacity db unit (Remove s)) (effect_on_cells schema capacity db unit (Remove s))
  of_remove s =
      of_current db unit (Edited (edits_of schema capacity db unit (Remove s))) (no_refusal (edits_of schema capacity db unit (Remove s)))
      unit.currency.run_unit (remove_checks (whole schema capacity db) unit s) (removed db unit s)
      (λ k is checks is_done lawful c.
      let own = alive k ((is_none (owner_of schema capacity db s k), NotMember) ∷ []) checks in
      let owner = some_from_not_none (owner_of schema capacity db s k) (first_check_passes (is_none (owner_of schema capacity db s k), NotMember) [] own.1).0 in
      remove_makes schema capacity db unit s k owner.0 legal own.0 owner.1 c
      ∙ ap (λ current. edited_at c (edits_of schema capacity db (record unit { currency = record unit.currency { run_unit = current } }) (Remove s)) (cell schema capacity db c)) (sym is))

  of_modify : (t : ℕ) (changes : List Change) → Edited (edits_of schema capacity db unit (Modify t changes)) (effect_on_cells schema capacity db unit (Modify t changes))
  of_modify t changes =
      of_current db unit (Edited (edits_of schema capacity db unit (Modify t changes))) (no_refusal (edits_of schema capacity db unit (Modify t changes)))
      unit.currency.run_unit (modify_checks schema (whole schema capacity db) unit changes) (modified schema capacity db unit changes)
      (λ k is checks is_done lawful c.
      let first = passes_check (not (is_live db k)) Deleted _ checks in
      modify_makes schema capacity db unit changes k legal (not-false _ first.0) lawful c
      ∙ ap (λ current. edited_at c (edits_of schema capacity db (record unit { currency = record unit.currency { run_unit = current } }) (Modify t changes)) (cell schema capacity db c)) (sym is))

  -- THE WHOLE

  on_cells : (statement : Statement) → is_delete statement ≡ false → lacks_current schema unit statement ≡ false → Edited (edits_of schema capacity db unit statement) (effect_on_cells schema capacity db unit statement)
  on_cells (OpenArea a mode) other placed = of_open a mode
  on_cells (CloseArea a) other placed = of_close a
  on_cells (Find suppress form) other placed =
      of_finding db unit (Edited []) (no_refusal []) (found schema capacity db unit form) (λ k. seen schema capacity db unit k suppress) (λ k is is_done lawful c. refl)
  on_cells (Get r) other placed =
      of_current db unit (Edited (edits_of schema capacity db unit (Get r))) (no_refusal (edits_of schema capacity db unit (Get r))) unit.currency.run_unit (live_checks (whole schema capacity db)) (λ k. done db unit (Some k) (Some (items_of db k)))
      (λ k is checks is_done lawful c. ap (λ current. edited_at c (edits_of schema capacity db (record unit { currency = record unit.currency { run_unit = current } }) (Get r)) (cell schema capacity db c)) (sym is))
  on_cells (Store t items suppress) other placed = of_store t items suppress placed
  on_cells (Insert s) other placed = of_insert s placed
  on_cells (Remove s) other placed = of_remove s
  on_cells (Modify t changes) other placed = of_modify t changes
  on_cells (Delete option) other placed = absurd (false≢true (sym other))
  on_cells Keep other placed =
      of_current db unit (Edited (edits_of schema capacity db unit Keep)) (no_refusal (edits_of schema capacity db unit Keep)) unit.currency.run_unit (live_checks (whole schema capacity db)) (λ k. done db (record unit { kept = noted k (version_of db k) unit.kept }) None None)
      (λ k is checks is_done lawful c. ap (λ current. edited_at c (edits_of schema capacity db (record unit { currency = record unit.currency { run_unit = current } }) Keep) (cell schema capacity db c)) (sym is))
  on_cells (Free true) other placed = λ is_done lawful c. refl
  on_cells (Free false) other placed =
      of_done db unit (Edited (edits_of schema capacity db unit (Free false))) (no_refusal (edits_of schema capacity db unit (Free false))) unit.currency.run_unit (λ k. done db (record unit { kept = forgotten k unit.kept }) None None)
      (λ k is is_done lawful c. ap (λ current. edited_at c (edits_of schema capacity db (record unit { currency = record unit.currency { run_unit = current } }) (Free false)) (cell schema capacity db c)) (sym is))

pub effect_is_its_edits : (schema : Lists) (capacity : ℕ) (db : Database) (unit : Unit) (statement : Statement) → is_delete statement ≡ false
    → Legal schema capacity db → Legal schema capacity (effect schema capacity db unit statement).database → (effect schema capacity db unit statement).answer.status ≡ Done
    → (c : CellName) → cell schema capacity (effect schema capacity db unit statement).database c ≡ edited_at c (edits_of schema capacity db unit statement) (cell schema capacity db c)
effect_is_its_edits schema capacity db unit statement other legal lawful is_done c =
    of_effect db unit (Edited schema capacity db unit legal (edits_of schema capacity db unit statement)) (no_refusal schema capacity db unit legal (edits_of schema capacity db unit statement)) schema capacity statement
    (λ passes_at_once. on_cells schema capacity db unit legal statement other (passes_without_cells schema capacity unit statement passes_at_once).placed) is_done lawful c
