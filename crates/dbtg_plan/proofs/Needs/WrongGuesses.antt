-- Guesses are wrong by the held record where they are wrong by each database that agrees.
-- k is a key, s a set.
use Rattle.std.proofs.Common.{◌≡◌, refl, sym, ◌∙◌, ap, subst, ℕ, ◌<◌, Bool, true, false, cond, not, ◌&&◌, List, [], ◌∷◌, ◌++◌, length, Option, Some, None, inl, inr, map, arith}
use Rattle.std.specs.Prelude.{◌==◌, filter, is_some, option_map, unwrap_or, if◌then◌else◌}
use Rattle.std.specs.List.{find, flat_map, list_any}
use Rattle.std.proofs.lemmas.Bool.{and_from, and_parts, cases_Bool, eqb-true, eq-eqb, false≢true, false_from_ne_true, ltb-true}
use Rattle.dbtg_schema.specs.Lists.{Lists}
use Rattle.dbtg_schema.specs.Lookups.{at, some_and}
use Rattle.dbtg_schema.specs.Structure.{member_clause, rekeyed_sets, set_numbers}
use Rattle.dbtg_cells.specs.declared.key.DbKey.{DbKey}
use Rattle.dbtg_cells.specs.declared.key.Owner.{Owner}
use Rattle.dbtg_cells.specs.declared.name.CellName.{CellName}
use Rattle.dbtg_cells.specs.declared.name.CellName.TheVariants.{Extent}
use Rattle.dbtg_unit.specs.declared.held.Need.TheVariants.{Area, Take, Stale, Ready}
use Rattle.dbtg_unit.specs.declared.statement.Change.{Change}
use Rattle.dbtg_unit.specs.declared.statement.Statement.{Statement}
use Rattle.dbtg_unit.specs.declared.statement.Statement.TheVariants.{OpenArea, CloseArea, Find, Get, Store, Insert, Remove, Modify, Delete, Keep, Free}
use Rattle.dbtg_unit.specs.declared.unit.Cause.{Cause}
use Rattle.dbtg_unit.specs.declared.unit.Unit.{Unit}
use Rattle.dbtg_unit.specs.Database.State.Base.{Database, is_live, owner_of}
use Rattle.dbtg_unit.specs.Database.State.CellNames.{slot_name}
use Rattle.dbtg_unit.specs.Database.Statements.Checks.{refused_at_once}
use Rattle.dbtg_unit.specs.Database.Statements.Effect.{names_calc}
use Rattle.dbtg_unit.specs.Database.Statements.Fits.{fits}
use Rattle.dbtg_unit.specs.Hands.Hands.{Hands}
use Rattle.dbtg_unit.specs.Hands.InHand.{owner_in}
use Rattle.dbtg_unit.specs.Hands.Local.{Agrees, holds}
use Rattle.dbtg_unit.specs.Hands.Needs.{areas_in_order, cells_of, first_missing, guessed_sets, is_stale, is_wrong_guess, need, need_of_cells, next_of, ring_names, slot_names, stale_owners, wrong_owner}
use Rattle.dbtg_unit.proofs.Public.{In, all_held, any_element, any_in, has_number, has_number_filter, has_number_passes, has_number_range, in_range, in_right, map_agrees_on_list, of_filter, owner_in_hand, unlisted_has_no_owner}
use Rattle.dbtg_plan.specs.Inside.Stale.{has_wrong_owner_in, need_of_guesses, wrong_owner_in, wrong_owners_in}
use Rattle.dbtg_plan.proofs.Plans.SamePlan.{current_slot}

-- LISTS

-- a number of a list is among those kept where it passes
kept_is : (p : ℕ → Bool) (s : ℕ) (xs : List ℕ) → has_number s xs ≡ true → has_number s (filter p xs) ≡ p s
kept_is p s xs there =
    elim (cases_Bool (p s)) [
      | inl e ↦ has_number_filter p s xs e there ∙ sym e
      | inr e ↦ false_from_ne_true _ (λ h. false≢true (sym e ∙ has_number_passes p s xs h)) ∙ sym e
    ]

-- the sets in which a MODIFY moves the record
pub rekeyed_is : (schema : Lists) (t : ℕ) (items : List ℕ) (s : ℕ) → s < length schema.sets
    → some_and (λ m. some_and (λ i. list_any (λ j. j == i) items) m.key) (member_clause schema s t) ≡ list_any (λ s'. s' == s) (rekeyed_sets schema t items)
rekeyed_is schema t items s below =
    sym (kept_is (λ s. some_and (λ m. some_and (λ i. list_any (λ j. j == i) items) m.key) (member_clause schema s t)) s (set_numbers schema) (has_number_range s 0 (length schema.sets) (omega arith) (omega arith)))

-- a needed one that passes is one of all that is needed and passes
any_needed : (p : ℕ → Bool) (needed all : List ℕ) → ((s : ℕ) → In s needed → In s all) → list_any (λ s. list_any (λ s'. s' == s) needed && p s) all ≡ list_any p needed
any_needed p needed all within =
    elim (cases_Bool (list_any p needed)) [
      | inl e ↦
          let x = any_element p needed e in
          any_in (λ s. list_any (λ s'. s' == s) needed && p s) x.0 all (within x.0 x.1) (and_from _ _ (any_in (λ s'. s' == x.0) x.0 needed x.1 (eq-eqb x.0 x.0 refl)) x.2) ∙ sym e
      | inr e ↦
          false_from_ne_true _ (λ h.
          let x = any_element (λ s. list_any (λ s'. s' == s) needed && p s) all h in
          let parts = and_parts _ _ x.2 in
          let y = any_element (λ s'. s' == x.0) needed parts.0 in
          false≢true (sym e ∙ any_in p y.0 needed y.1 (ap p (eqb-true y.0 x.0 y.2) ∙ parts.1)))
          ∙ sym e
    ]

-- GUESSES

-- there is an owner where a guess is wrong
is_there : (truth guess : Option Owner) (b : Bool) → is_some (if b && is_wrong_guess truth guess then truth else None) ≡ b && is_wrong_guess truth guess
is_there truth guess false = refl
is_there None guess true = refl
is_there (Some o) guess true = elim (is_wrong_guess (Some o) guess) as (λ b. is_some (cond b (Some o) None) ≡ b) [ true ↦ refl | false ↦ refl ]

-- the sets in which a guess is needed are the schema's
guessed_within : (schema : Lists) (unit : Unit) (statement : Statement) → fits schema statement ≡ true → (s : ℕ) → In s (guessed_sets schema unit statement) → In s (set_numbers schema)
guessed_within schema unit (Remove t) fit s i = let low = ltb-true t (length schema.sets) fit in let same = one i in in_range (length schema.sets) 0 s (omega arith) (omega arith) where
  one : In s (t ∷ []) → t ≡ s
  one (inl e) = e
  one (inr j) = absurd j
guessed_within schema unit (Modify t changes) fit s i = (of_filter (λ s. some_and (λ m. some_and (λ i. list_any (λ j. j == i) (map (λ (c : Change). c.item) changes)) m.key) (member_clause schema s t)) s (set_numbers schema) i).0
guessed_within schema unit (OpenArea a mode) fit s i = absurd i
guessed_within schema unit (CloseArea a) fit s i = absurd i
guessed_within schema unit (Find suppress form) fit s i = absurd i
guessed_within schema unit (Get r) fit s i = absurd i
guessed_within schema unit (Store t items suppress) fit s i = absurd i
guessed_within schema unit (Insert t) fit s i = absurd i
guessed_within schema unit (Delete option) fit s i = absurd i
guessed_within schema unit Keep fit s i = absurd i
guessed_within schema unit (Free all) fit s i = absurd i

-- where a guess is needed, the slot of the current of run-unit is one of the cells
guessed_slot : (schema : Lists) (capacity : ℕ) (db : Database) (unit : Unit) (guesses : List (Option Owner)) (statement : Statement) (s : ℕ) → In s (guessed_sets schema unit statement)
    → (k : DbKey) → unit.currency.run_unit ≡ Some k → In (slot_name k) (cells_of schema capacity db unit guesses statement)
guessed_slot schema capacity db unit guesses (Remove t) s i k is = in_right (slot_name k) _ (slot_names unit.currency.run_unit) (current_slot unit.currency.run_unit k is)
guessed_slot schema capacity db unit guesses (Modify t changes) s i k is =
    let rings = flat_map (λ s. ring_names s (at guesses s)) (rekeyed_sets schema t (map (λ (c : Change). c.item) changes)) in
    in_right (slot_name k) ((if names_calc schema t changes then Extent t ∷ [] else []) ++ rings) (slot_names unit.currency.run_unit) (current_slot unit.currency.run_unit k is)
guessed_slot schema capacity db unit guesses (OpenArea a mode) s i k is = absurd i
guessed_slot schema capacity db unit guesses (CloseArea a) s i k is = absurd i
guessed_slot schema capacity db unit guesses (Find suppress form) s i k is = absurd i
guessed_slot schema capacity db unit guesses (Get r) s i k is = absurd i
guessed_slot schema capacity db unit guesses (Store t items suppress) s i k is = absurd i
guessed_slot schema capacity db unit guesses (Insert t) s i k is = absurd i
guessed_slot schema capacity db unit guesses (Delete option) s i k is = absurd i
guessed_slot schema capacity db unit guesses Keep s i k is = absurd i
guessed_slot schema capacity db unit guesses (Free all) s i k is = absurd i

module _ (schema : Lists) (capacity : ℕ) (db : Database) (hands : Hands) (unit : Unit) (statement : Statement) (fit : fits schema statement ≡ true) (agrees : Agrees schema capacity db hands unit)
    (held : (c : CellName) → In c (cells_of schema capacity db unit hands.guesses statement) → holds hands.cells c ≡ true) where
  module _ (k : DbKey) (is : unit.currency.run_unit ≡ Some k) where
    abbrev needed : List ℕ
    needed = guessed_sets schema unit statement

    slot_held : (s : ℕ) → In s needed → holds hands.cells (slot_name k) ≡ true
    slot_held s i = held (slot_name k) (guessed_slot schema capacity db unit hands.guesses statement s i k is)

    truth_is : (s : ℕ) → In s needed → owner_of schema capacity db s k ≡ owner_in hands s k
    truth_is s i = owner_in_hand schema capacity db hands unit agrees k (slot_held s i) s (guessed_within schema unit statement fit s i)

    -- by set, the same owners stand against the guesses
    wrong_is : (s : ℕ) → wrong_owner schema capacity db hands.guesses needed k s ≡ wrong_owner_in hands needed k s
    wrong_is s =
        elim (cases_Bool (list_any (λ s'. s' == s) needed)) [
          | inl e ↦
              let x = any_element (λ s'. s' == s) needed e in
              ap (λ truth. if list_any (λ s'. s' == s) needed && is_wrong_guess truth (at hands.guesses s) then truth else None) (truth_is s (subst (λ (n : ℕ). In n needed) (eqb-true x.0 s x.2) x.1))
          | inr e ↦
              ap (λ b. if b && is_wrong_guess (owner_of schema capacity db s k) (at hands.guesses s) then owner_of schema capacity db s k else None) e
              ∙ sym (ap (λ b. if b && is_wrong_guess (owner_in hands s k) (at hands.guesses s) then owner_in hands s k else None) e)
        ]

    owners_are : map (wrong_owner schema capacity db hands.guesses needed k) (set_numbers schema) ≡ wrong_owners_in schema unit hands statement k
    owners_are = map_agrees_on_list (wrong_owner schema capacity db hands.guesses needed k) (wrong_owner_in hands needed k) (set_numbers schema) (λ s i. wrong_is s)

    -- a needed owner is wrong where one of these is there
    any_wrong : list_any (λ s. is_wrong_guess (owner_of schema capacity db s k) (at hands.guesses s)) needed ≡ has_wrong_owner_in schema unit hands statement k
    any_wrong =
        sym (any_needed (λ s. is_wrong_guess (owner_of schema capacity db s k) (at hands.guesses s)) needed (set_numbers schema) (guessed_within schema unit statement fit))
        ∙ (λ i. list_any (λ s. (sym (is_there (owner_of schema capacity db s k) (at hands.guesses s) (list_any (λ s'. s' == s) needed)) ∙ ap is_some (wrong_is s)) i) (set_numbers schema))

    -- a record with an owner is live
    live_or_right : is_live db k && list_any (λ s. is_wrong_guess (owner_of schema capacity db s k) (at hands.guesses s)) needed ≡ list_any (λ s. is_wrong_guess (owner_of schema capacity db s k) (at hands.guesses s)) needed
    live_or_right =
        elim (cases_Bool (is_live db k)) [
          | inl e ↦ ap (λ b. b && list_any (λ s. is_wrong_guess (owner_of schema capacity db s k) (at hands.guesses s)) needed) e
          | inr e ↦
              ap (λ b. b && list_any (λ s. is_wrong_guess (owner_of schema capacity db s k) (at hands.guesses s)) needed) e
              ∙ sym (false_from_ne_true _ (λ h.
              let x = any_element (λ s. is_wrong_guess (owner_of schema capacity db s k) (at hands.guesses s)) needed h in
              let none = unlisted_has_no_owner schema capacity db agrees.legal x.0 k (λ o m. false≢true (sym e ∙ (agrees.legal.members x.0 o k m).0)) in
              false≢true (ap (λ o. is_wrong_guess o (at hands.guesses x.0)) (sym none) ∙ x.2)))
        ]

  -- what is needed of the guesses
  pub guesses_need : next_of None None (is_stale schema capacity db unit hands.guesses statement) ≡ need_of_guesses schema unit hands statement unit.currency.run_unit
  guesses_need = by_current unit.currency.run_unit refl where
    by_current : (current : Option DbKey) → unit.currency.run_unit ≡ current
        → next_of None None (some_and (λ k. is_live db k && list_any (λ s. is_wrong_guess (owner_of schema capacity db s k) (at hands.guesses s)) (guessed_sets schema unit statement)) current)
        ≡ need_of_guesses schema unit hands statement current
    by_current None e = refl
    by_current (Some k) e =
        ap (next_of None None) (live_or_right k e ∙ any_wrong k e)
        ∙ elim (has_wrong_owner_in schema unit hands statement k) as (λ b. next_of None None b ≡ (if b then Stale else Ready)) [
          | true ↦ refl
          | false ↦ refl
        ]

-- what decided a choice that was stale
chose_stale : (b : Bool) (oa : Option ℕ) (oc : Option CellName) (stale : Bool) → (if b then Ready else next_of oa oc stale) ≡ Stale → (oc ≡ None) × (stale ≡ true)
chose_stale true oa oc stale e = absurd (cc (e))
chose_stale false (Some a) oc stale e = absurd (cc (e))
chose_stale false None (Some c) stale e = absurd (cc (e))
chose_stale false None None true e = (refl, refl)
chose_stale false None None false e = absurd (cc (e))

module _ (schema : Lists) (capacity : ℕ) (db : Database) (hands : Hands) (unit : Unit) (statement : Statement) (fit : fits schema statement ≡ true) (agrees : Agrees schema capacity db hands unit)
    (stale : need schema capacity db unit hands statement ≡ Stale) where
  stale_parts : (first_missing hands (cells_of schema capacity db unit hands.guesses statement) ≡ None) × (is_stale schema capacity db unit hands.guesses statement ≡ true)
  unfolding need
  stale_parts =
      chose_stale (is_some (refused_at_once schema capacity unit statement)) (find (λ a. not (list_any (λ b. b == a) hands.areas)) (areas_in_order schema unit statement))
      (first_missing hands (cells_of schema capacity db unit hands.guesses statement)) (is_stale schema capacity db unit hands.guesses statement) stale

  -- the owners that are noted then
  pub owners_of_stale : (k : DbKey) → unit.currency.run_unit ≡ Some k → stale_owners schema capacity db unit hands.guesses statement ≡ wrong_owners_in schema unit hands statement k
  owners_of_stale k is =
      ap (λ o. unwrap_or (option_map (λ k. map (wrong_owner schema capacity db hands.guesses (guessed_sets schema unit statement) k) (set_numbers schema)) o) []) is
      ∙ owners_are schema capacity db hands unit statement fit agrees (all_held hands.cells (cells_of schema capacity db unit hands.guesses statement) stale_parts.0) k is

  -- there is a current of run-unit
  pub stale_has_current : unit.currency.run_unit ≡ None → ⊥
  stale_has_current e =
      false≢true (sym (ap (some_and (λ k. is_live db k && list_any (λ s. is_wrong_guess (owner_of schema capacity db s k) (at hands.guesses s)) (guessed_sets schema unit statement))) e) ∙ stale_parts.1)

-- NEEDS

module _ (schema : Lists) (capacity : ℕ) (db : Database) (hands : Hands) (unit : Unit) (statement : Statement) where
  -- nothing where the statement is refused at once
  pub refused_needs : (cause : Cause) → refused_at_once schema capacity unit statement ≡ Some cause → need schema capacity db unit hands statement ≡ Ready
  unfolding need
  refused_needs cause e = ap (λ (o : Option Cause). if is_some o then Ready else need_of_cells schema capacity db unit hands statement) e

  module _ (passes : refused_at_once schema capacity unit statement ≡ None) where
    need_is : (a : Option ℕ) → find (λ a. not (list_any (λ b. b == a) hands.areas)) (areas_in_order schema unit statement) ≡ a → (c : Option CellName) → first_missing hands (cells_of schema capacity db unit hands.guesses statement) ≡ c
        → need schema capacity db unit hands statement ≡ next_of a c (is_stale schema capacity db unit hands.guesses statement)
    unfolding need
    need_is a areas c cells =
        ap (λ (o : Option Cause). if is_some o then Ready else need_of_cells schema capacity db unit hands statement) passes
        ∙ (λ i. next_of (areas i) (cells i) (is_stale schema capacity db unit hands.guesses statement))

    -- the first area
    pub area_needed : (a : ℕ) → find (λ a. not (list_any (λ b. b == a) hands.areas)) (areas_in_order schema unit statement) ≡ Some a → need schema capacity db unit hands statement ≡ Area a
    area_needed a areas = need_is (Some a) areas _ refl

    -- then the first cell
    pub cell_needed : find (λ a. not (list_any (λ b. b == a) hands.areas)) (areas_in_order schema unit statement) ≡ None
        → (c : CellName) → first_missing hands (cells_of schema capacity db unit hands.guesses statement) ≡ Some c → need schema capacity db unit hands statement ≡ Take c
    cell_needed areas c cells = need_is None areas (Some c) cells

    -- then other guesses, where they are wrong
    pub guesses_needed : fits schema statement ≡ true → Agrees schema capacity db hands unit
        → find (λ a. not (list_any (λ b. b == a) hands.areas)) (areas_in_order schema unit statement) ≡ None → first_missing hands (cells_of schema capacity db unit hands.guesses statement) ≡ None
        → need schema capacity db unit hands statement ≡ need_of_guesses schema unit hands statement unit.currency.run_unit
    guesses_needed fit agrees areas cells =
        need_is None areas None cells ∙ guesses_need schema capacity db hands unit statement fit agrees (all_held hands.cells (cells_of schema capacity db unit hands.guesses statement) cells)
