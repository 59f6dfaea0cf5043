-- What a FIND takes next and what it prepares, from the held cells, is what it needs and does on each database that agrees with them.
-- k is a key, s a set, r a record type, a an area, c the name of a cell, db a database.
use Rattle.std.proofs.Common.{◌≡◌, refl, sym, ◌∙◌, ap, subst, ℕ, true, false, cond, ◌⊎◌, List, [], ◌∷◌, ◌++◌, length, take, Option, Some, None, map, arith, inl, inr}
use Rattle.std.specs.Prelude.{option_and_then, option_map, unwrap_or, if◌then◌else◌, Result, Ok, Err}
use Rattle.std.specs.List.{list_all}
use Rattle.std.specs.Option.{option_or}
use Rattle.std.proofs.lemmas.Bool.{and_parts}
use Rattle.std.proofs.lemmas.List.{take_all}
use Rattle.std.proofs.lemmas.List.FromFn.{length-map-range_with_len}
use Rattle.dbtg_schema.specs.Lists.{Lists}
use Rattle.dbtg_schema.specs.Lookups.{at}
use Rattle.dbtg_schema.specs.Structure.{types_in}
use Rattle.dbtg_schema.proofs.Public.{some_is}
use Rattle.dbtg_cells.specs.declared.key.DbKey.{DbKey}
use Rattle.dbtg_cells.specs.declared.key.Owner.{Owner}
use Rattle.dbtg_cells.specs.declared.name.CellName.{CellName}
use Rattle.dbtg_cells.specs.declared.name.CellName.TheVariants.{Extent}
use Rattle.dbtg_cells.specs.declared.slot.Stored.{Stored}
use Rattle.dbtg_unit.specs.declared.edit.CellEdit.{CellEdit}
use Rattle.dbtg_unit.specs.declared.statement.Form.{Form}
use Rattle.dbtg_unit.specs.declared.statement.Form.TheVariants.{Key, CurrentOfUnit, CurrentOfType, CurrentOfSet, CurrentOfArea, InSet, InArea, OwnerOf, Calc, NextDuplicate, Sorted}
use Rattle.dbtg_unit.specs.declared.statement.Statement.TheVariants.{Find}
use Rattle.dbtg_unit.specs.declared.statement.Suppress.{Suppress}
use Rattle.dbtg_unit.specs.declared.unit.Cause.{Cause}
use Rattle.dbtg_unit.specs.declared.unit.Cause.TheVariants.{Deleted, NoneSatisfies}
use Rattle.dbtg_unit.specs.declared.unit.Place.{Place}
use Rattle.dbtg_unit.specs.declared.unit.Unit.{Unit}
use Rattle.dbtg_unit.specs.Database.State.Base.{Database, is_live, owner_of}
use Rattle.dbtg_unit.specs.Database.State.Belongs.{IsUnitOf}
use Rattle.dbtg_unit.specs.Database.State.CellNames.{slot_name}
use Rattle.dbtg_unit.specs.Database.State.Cells.{cell}
use Rattle.dbtg_unit.specs.Database.Statements.Checks.{refused_at_once}
use Rattle.dbtg_unit.specs.Database.Statements.Effect.{StatementEffect, done, effect, finding}
use Rattle.dbtg_unit.specs.Database.Statements.Fits.{form_fits}
use Rattle.dbtg_unit.specs.Database.Statements.Found.{found, with_current}
use Rattle.dbtg_unit.specs.Hands.Guesses.{guesses_after}
use Rattle.dbtg_unit.specs.Hands.Hands.{Hands}
use Rattle.dbtg_unit.specs.Hands.InHand.{stored_in}
use Rattle.dbtg_unit.specs.Hands.Local.{Agrees, holds}
use Rattle.dbtg_unit.specs.Hands.Making.{CanFinish, CanMake}
use Rattle.dbtg_unit.specs.Hands.Needs.{cells_to_find, current_owner, find_cells, first_missing, found_slot, ring_names, slot_names}
use Rattle.dbtg_unit.specs.Hands.Prepared.{IsEffect}
use Rattle.dbtg_unit.specs.Database.State.Units.{key_of_place, owners_of, place_in, seen, seen_with}
use Rattle.dbtg_unit.proofs.Public.{In, MayPlan, all_held, found_live, in_left, in_right, live_in_hand, owners_in_hand, prepared_has_all}
use Rattle.dbtg_plan.specs.Inside.Finding.{found_in, next_cell_in, owners_in, plan_of_found}
use Rattle.dbtg_plan.proofs.Find.FindsTheSame.{found_reads}
use Rattle.dbtg_plan.proofs.Needs.MissingCells.{missing_append, none_missing}
use Rattle.dbtg_plan.proofs.Plans.IsEffect.{effect_is_on_cells, refusal_is_effect}

-- THE SLOT OF WHAT IS FOUND

not_found : {X : Type 0} {k : DbKey} {cause : Cause} → Err cause ≡ Ok k → X
not_found h = cc

same_found : {x k : DbKey} → ◌≡◌ {A = Result DbKey Cause} (Ok x) (Ok k) → x ≡ k
same_found h = cc

module _ (schema : Lists) (capacity : ℕ) (db : Database) (unit : Unit) where
  -- the slot of what is found is named
  of_current_slot : (o : Option DbKey) (k : DbKey) → with_current o (λ x. if is_live db x then Ok x else Err Deleted) ≡ Ok k → In (slot_name k) (slot_names o)
  of_current_slot None k h = not_found h
  of_current_slot (Some x) k h =
      elim (is_live db x) as (λ b. cond b (Ok x) (Err Deleted) ≡ Ok k → (slot_name x ≡ slot_name k) ⊎ ⊥) [ true ↦ λ e. inl (ap slot_name (same_found e)) | false ↦ λ e. not_found e ] h

  of_found_slot : (r : Result DbKey Cause) (k : DbKey) → r ≡ Ok k → In (slot_name k) (found_slot r)
  of_found_slot (Ok x) k h = inl (ap slot_name (same_found h))
  of_found_slot (Err cause) k h = not_found h

  pub slot_of_found : (form : Form) (k : DbKey) → found schema capacity db unit form ≡ Ok k → In (slot_name k) (find_cells schema capacity db unit form)
  slot_of_found (Key x) k h = elim (is_live db x) as (λ b. cond b (Ok x) (Err NoneSatisfies) ≡ Ok k → (slot_name x ≡ slot_name k) ⊎ ⊥) [ true ↦ λ e. inl (ap slot_name (same_found e)) | false ↦ λ e. not_found e ] h
  slot_of_found CurrentOfUnit k h = of_current_slot unit.currency.run_unit k h
  slot_of_found (CurrentOfType r) k h = of_current_slot (at unit.currency.types r) k h
  slot_of_found (CurrentOfSet s) k h = of_current_slot (option_and_then key_of_place (place_in schema unit s)) k h
  slot_of_found (CurrentOfArea a) k h = of_current_slot (at unit.currency.areas a) k h
  slot_of_found (InSet which r s) k h = in_right _ (ring_names s (current_owner schema unit s)) (found_slot (found schema capacity db unit (InSet which r s))) (of_found_slot _ k h)
  slot_of_found (InArea which r a) k h =
      in_right _ (map Extent (unwrap_or (option_map (λ t. t ∷ []) r) (types_in schema a))) (found_slot (found schema capacity db unit (InArea which r a))) (of_found_slot _ k h)
  slot_of_found (OwnerOf s) k h = of_current_slot (option_and_then (λ (place : Place). key_of_place (record place { at = None })) (place_in schema unit s)) k h
  slot_of_found (Calc r values) k h = inr (of_found_slot _ k h)
  slot_of_found (NextDuplicate r) k h = inr (of_found_slot _ k h)
  slot_of_found (Sorted s v) k h = in_right _ (ring_names s (current_owner schema unit s)) (found_slot (found schema capacity db unit (Sorted s v))) (of_found_slot _ k h)

-- THE NEXT CELL

-- the slot of what is found, where it is among the cells that come before it, adds none
slot_again : (hands : Hands) (names : List CellName) (result : Result DbKey Cause) → ((k : DbKey) → result ≡ Ok k → In (slot_name k) names)
    → first_missing hands names ≡ first_missing hands (names ++ found_slot result)
slot_again hands names result among =
    by_missing (first_missing hands names) refl ∙ sym (missing_append hands names (found_slot result)) where
      slot_held : first_missing hands names ≡ None → (r : Result DbKey Cause) → result ≡ r → first_missing hands (found_slot r) ≡ None
      slot_held e (Err cause) is = refl
      slot_held e (Ok k) is = none_missing hands (slot_name k ∷ []) (λ c i. elim i [
        | inl same ↦ subst (λ (d : CellName). holds hands.cells d ≡ true) same (all_held hands.cells names e (slot_name k) (among k is))
        | inr j ↦ absurd j
      ])

      by_missing : (o : Option CellName) → first_missing hands names ≡ o → first_missing hands names ≡ option_or (first_missing hands names) (first_missing hands (found_slot result))
      by_missing (Some c) e = e ∙ ap (λ (o : Option CellName). option_or o (first_missing hands (found_slot result))) (sym e)
      by_missing None e = e ∙ sym (slot_held e result refl) ∙ ap (λ (o : Option CellName). option_or o (first_missing hands (found_slot result))) (sym e)

-- by its parts
pub next_first : (schema : Lists) (unit : Unit) (hands : Hands) (form : Form) (c : CellName) → Some c ≡ first_missing hands (cells_to_find schema unit form) → Some c ≡ next_cell_in schema unit hands form
next_first schema unit hands form c is =
    ap (λ (o : Option CellName). option_or o (first_missing hands (found_slot (found_in schema unit hands form)))) is
    ∙ sym (missing_append hands (cells_to_find schema unit form) (found_slot (found_in schema unit hands form)))

pub next_slot : (schema : Lists) (unit : Unit) (hands : Hands) (form : Form) (result : Result DbKey Cause) → None ≡ first_missing hands (cells_to_find schema unit form) → result ≡ found_in schema unit hands form
    → first_missing hands (found_slot result) ≡ next_cell_in schema unit hands form
next_slot schema unit hands form result none is =
    (λ i. option_or (none i) (first_missing hands (found_slot (is i))))
    ∙ sym (missing_append hands (cells_to_find schema unit form) (found_slot (found_in schema unit hands form)))

module _ (schema : Lists) (capacity : ℕ) (db : Database) (hands : Hands) (unit : Unit) where
  slot_here : (form : Form) → find_cells schema capacity db unit form ≡ cells_to_find schema unit form
      → first_missing hands (find_cells schema capacity db unit form) ≡ first_missing hands (cells_to_find schema unit form ++ found_slot (found schema capacity db unit form))
  slot_here form same =
      slot_again hands (find_cells schema capacity db unit form) (found schema capacity db unit form) (slot_of_found schema capacity db unit form)
      ∙ ap (λ names. first_missing hands (names ++ found_slot (found schema capacity db unit form))) same

  -- the cells of a FIND are those by which it is found, and then the slot of what is found
  cells_are : (form : Form) → first_missing hands (find_cells schema capacity db unit form) ≡ first_missing hands (cells_to_find schema unit form ++ found_slot (found schema capacity db unit form))
  cells_are (Key k) = slot_here (Key k) refl
  cells_are CurrentOfUnit = slot_here CurrentOfUnit refl
  cells_are (CurrentOfType r) = slot_here (CurrentOfType r) refl
  cells_are (CurrentOfSet s) = slot_here (CurrentOfSet s) refl
  cells_are (CurrentOfArea a) = slot_here (CurrentOfArea a) refl
  cells_are (InSet which r s) = refl
  cells_are (InArea which r a) = refl
  cells_are (OwnerOf s) = slot_here (OwnerOf s) refl
  cells_are (Calc r values) = refl
  cells_are (NextDuplicate r) = refl
  cells_are (Sorted s v) = refl

  module _ (agrees : Agrees schema capacity db hands unit) (of_schema : IsUnitOf schema unit) where
    pub next_cell_is : (form : Form) → form_fits schema form ≡ true → next_cell_in schema unit hands form ≡ first_missing hands (find_cells schema capacity db unit form)
    next_cell_is form fit =
        missing_append hands names (found_slot (found_in schema unit hands form)) ∙ by_missing (first_missing hands names) refl
        ∙ sym (missing_append hands names (found_slot (found schema capacity db unit form))) ∙ sym (cells_are form) where
          names : List CellName
          names = cells_to_find schema unit form

          by_missing : (o : Option CellName) → first_missing hands names ≡ o
              → option_or (first_missing hands names) (first_missing hands (found_slot (found_in schema unit hands form))) ≡ option_or (first_missing hands names) (first_missing hands (found_slot (found schema capacity db unit form)))
          by_missing (Some c) e =
              ap (λ (o : Option CellName). option_or o (first_missing hands (found_slot (found_in schema unit hands form)))) e
              ∙ sym (ap (λ (o : Option CellName). option_or o (first_missing hands (found_slot (found schema capacity db unit form)))) e)
          by_missing None e =
              ap (λ (r : Result DbKey Cause). option_or (first_missing hands names) (first_missing hands (found_slot r)))
              (sym (found_reads schema capacity db hands unit agrees of_schema form fit (all_held hands.cells names e)))

-- THE PLAN

module _ (schema : Lists) (capacity : ℕ) (unit : Unit) (hands : Hands) (form : Form) (suppress : Suppress)
    (may : MayPlan schema capacity unit hands (Find suppress form)) (passes : refused_at_once schema capacity unit (Find suppress form) ≡ None) where
  fit : form_fits schema form ≡ true
  fit = (and_parts _ _ may.fits).0

  module _ (db : Database) (agrees : Agrees schema capacity db hands unit) where
    in_hand : (c : CellName) → In c (find_cells schema capacity db unit form) → holds hands.cells c ≡ true
    in_hand c i = (prepared_has_all schema capacity unit hands (Find suppress form) passes may.ready db agrees).cells c i

    ready_reads : found schema capacity db unit form ≡ found_in schema unit hands form
    ready_reads =
        let none = sym (cells_are schema capacity db hands unit form) ∙ none_missing hands (find_cells schema capacity db unit form) in_hand in
        found_reads schema capacity db hands unit agrees may.of_schema form fit
        (λ c i. all_held hands.cells (cells_to_find schema unit form ++ found_slot (found schema capacity db unit form)) none c (in_left c (cells_to_find schema unit form) (found_slot (found schema capacity db unit form)) i))

    -- the owners of what is found
    owners_are : (k : DbKey) → found schema capacity db unit form ≡ Ok k → take 16 (owners_in hands k) ≡ owners_of schema capacity db k
    owners_are k is =
        let held = in_hand (slot_name k) (slot_of_found schema capacity db unit form k is) in
        let live = sym (live_in_hand schema capacity db hands unit agrees k held) ∙ found_live schema capacity db unit agrees.legal form k is in
        let stored = some_is (stored_in hands k) live in
        let owners : owners_in hands k ≡ owners_of schema capacity db k = ap (λ (o : Option Stored). unwrap_or (option_map (λ (r : Stored). r.owners) o) []) stored.1 ∙ owners_in_hand schema capacity db hands unit agrees k held stored.0 stored.1 in
        let few = may.sound.limits.sets_limit in
        let long = length-map-range_with_len (λ s. owner_of schema capacity db s k) 0 (length schema.sets) in
        ap (take 16) owners ∙ take_all 16 (owners_of schema capacity db k) (omega arith)

    by_result : (r : Result DbKey Cause) → found schema capacity db unit form ≡ r → IsEffect schema capacity db unit hands.guesses (Find suppress form) (plan_of_found hands suppress r)
    by_result (Err cause) is =
        refusal_is_effect schema capacity db unit hands.guesses (Find suppress form) cause
        (effect_is_on_cells schema capacity db unit (Find suppress form) passes ∙ ap (λ (r : Result DbKey Cause). finding db unit r (λ k. seen schema capacity db unit k suppress)) is)
    by_result (Ok k) is =
        let e : effect schema capacity db unit (Find suppress form) ≡ done db (seen schema capacity db unit k suppress) (Some k) None
        = effect_is_on_cells schema capacity db unit (Find suppress form) passes ∙ ap (λ (r : Result DbKey Cause). finding db unit r (λ k. seen schema capacity db unit k suppress)) is in
        let owners = owners_are k is in
        record {
          answer = sym (ap (λ (o : StatementEffect). o.answer) e);
          unit_is = ap (λ (os : List (Option Owner)). seen_with schema unit k os suppress) owners ∙ sym (ap (λ (o : StatementEffect). o.unit) e);
          guesses_are = owners ∙ sym (ap (guesses_after schema capacity (Find suppress form) hands.guesses) e);
          cells = λ c. ap (λ (o : StatementEffect). cell schema capacity o.database c) e;
        }

    pub find_is_effect : IsEffect schema capacity db unit hands.guesses (Find suppress form) (plan_of_found hands suppress (found_in schema unit hands form))
    find_is_effect = by_result (found_in schema unit hands form) ready_reads

  nothing_edited : (r : Result DbKey Cause) → (plan_of_found hands suppress r).cells ≡ []
  nothing_edited (Ok k) = refl
  nothing_edited (Err cause) = refl

  pub find_can_finish : CanFinish schema capacity unit hands (Find suppress form) (plan_of_found hands suppress (found_in schema unit hands form))
  find_can_finish =
      let none = sym (nothing_edited (found_in schema unit hands form)) in
      record {
        prepared = record {
          held = λ db agrees. subst (λ (es : List CellEdit). list_all (λ (e : CellEdit). holds hands.cells e.name) es ≡ true) none refl;
          effects = find_is_effect;
        };
        can_make = λ db agrees. subst (λ (es : List CellEdit). CanMake es hands.cells) none tt;
      }
