-- STORE, read from the held cells, is STORE on each database that agrees with them.
use Rattle.std.proofs.Common.{◌≡◌, refl, sym, ◌∙◌, ap, subst, ℕ, true, false, cond, not, List, [], ◌∷◌, ◌++◌, Option, Some, None, eqb, inl, inr}
use Rattle.std.specs.Prelude.{is_none, if◌then◌else◌, option_map, unwrap_or}
use Rattle.std.specs.List.{list_any}
use Rattle.std.proofs.lemmas.Bool.{cases_Bool, eq-eqb}
use Rattle.dbtg_schema.specs.Lists.{Lists}
use Rattle.dbtg_schema.specs.Lookups.{first, first_cause, some_and}
use Rattle.dbtg_schema.specs.Structure.{automatic_sets, is_automatic, member_clause, owns, set_numbers}
use Rattle.dbtg_cells.specs.declared.key.DbKey.{DbKey}
use Rattle.dbtg_cells.specs.declared.key.Owner.{Owner}
use Rattle.dbtg_cells.specs.declared.key.Owner.TheVariants.{System}
use Rattle.dbtg_cells.specs.declared.key.Value.{Value}
use Rattle.dbtg_cells.specs.declared.name.CellName.{CellName}
use Rattle.dbtg_cells.specs.declared.name.CellName.TheVariants.{Extent, Ring}
use Rattle.dbtg_cells.specs.Names.{name_eq}
use Rattle.dbtg_cells.specs.Numbers.{is_free, numbers_where}
use Rattle.dbtg_unit.specs.Database.Statements.StoredFacts.{whole}
use Rattle.dbtg_unit.specs.declared.statement.Statement.TheVariants.{Store}
use Rattle.dbtg_unit.specs.declared.statement.Suppress.{Suppress}
use Rattle.dbtg_unit.specs.declared.unit.Cause.TheVariants.{DuplicatesNotAllowed, NoRoom}
use Rattle.dbtg_unit.specs.declared.unit.Place.{Place}
use Rattle.dbtg_unit.specs.declared.unit.Unit.{Unit}
use Rattle.dbtg_unit.specs.Database.State.Base.{Database}
use Rattle.dbtg_unit.specs.Database.State.CellNames.{place_of, slot_name}
use Rattle.dbtg_unit.specs.Database.Statements.Checks.{refused_at_once}
use Rattle.dbtg_unit.specs.Database.Statements.Effect.{calc_taken, free_number, new_key, store_checks}
use Rattle.dbtg_unit.specs.Hands.Hands.{Hands}
use Rattle.dbtg_unit.specs.Hands.InHand.{in_hand, numbers_in}
use Rattle.dbtg_unit.specs.Hands.Local.{Agrees, holds}
use Rattle.dbtg_unit.specs.Hands.Needs.{cells_of, current_owner, first_missing, ring_names, store_cells, store_rings}
use Rattle.dbtg_unit.specs.Database.State.Units.{place_in}
use Rattle.dbtg_unit.proofs.Public.{In, MayPlan, any_in, calc_taken_agrees, free_in_hand, holds_any, in_flat_map, in_left, new_key_in_hand, no_number_passes, numbers_in_hand, of_filter, passes_check, passes_without_cells, prepared_has_all, same_numbers, same_occurrence, some_from_not_none, store_checks_agree}
use Rattle.dbtg_plan.specs.Inside.Calc.{fresh_key}
use Rattle.dbtg_unit.specs.Database.Statements.Conditions.{joined_place}
use Rattle.dbtg_plan.specs.Inside.Store.{missing_of_store, store_cells_in}

-- CELLS

-- where the first is not held, it is missing, whatever the others
missing_first : (hands : Hands) (c : CellName) (xs ys : List CellName) → holds hands.cells c ≡ false → first_missing hands (c ∷ xs) ≡ first_missing hands (c ∷ ys)
missing_first hands c xs ys free =
    let h : list_any (λ e. name_eq c e.0) hands.cells ≡ false = holds_any hands.cells c ∙ free in
    ap (λ b. cond (not b) (Some c) (first_missing hands xs)) h ∙ sym (ap (λ b. cond (not b) (Some c) (first_missing hands ys)) h)

module _ (schema : Lists) (capacity : ℕ) (unit : Unit) (hands : Hands) (t : ℕ) (items : List Value) where
  module _ (db : Database) (agrees : Agrees schema capacity db hands unit) (extent : holds hands.cells (Extent t) ≡ true) where
    fresh_in_hand : option_map (new_key db t) (free_number capacity db t) ≡ fresh_key (numbers_in hands t) t
    fresh_in_hand =
        let are = numbers_in_hand schema capacity db hands unit agrees t extent in
        λ i. option_map (λ n. new_key_in_hand schema capacity db agrees.legal t (numbers_in hands t) are n i) (free_in_hand schema capacity db agrees.legal t (numbers_in hands t) are i)

    cells_in_hand : (guesses : List (Option Owner)) (suppress : Suppress) → cells_of schema capacity db unit guesses (Store t items suppress) ≡ store_cells_in schema unit hands t items
    cells_in_hand guesses suppress =
        λ i. Extent t ∷ store_cells schema unit (fresh_in_hand i) (sym (calc_taken_agrees (in_hand hands) (whole schema capacity db) unit schema t items None (same_numbers schema capacity db hands unit agrees t extent).has_calc) i)

  -- what is missing is the first cell of the statement that is not held
  pub missing_in_hand : (db : Database) → Agrees schema capacity db hands unit → (guesses : List (Option Owner)) (suppress : Suppress)
      → missing_of_store schema unit hands t items ≡ first_missing hands (cells_of schema capacity db unit guesses (Store t items suppress))
  missing_in_hand db agrees guesses suppress =
      elim (cases_Bool (holds hands.cells (Extent t))) [
        | inl held ↦ ap (first_missing hands) (sym (cells_in_hand db agrees held guesses suppress))
        | inr free ↦ missing_first hands (Extent t) _ _ free
      ]

  module _ (suppress : Suppress) (may : MayPlan schema capacity unit hands (Store t items suppress)) (passes : refused_at_once schema capacity unit (Store t items suppress) ≡ None)
      (db : Database) (agrees : Agrees schema capacity db hands unit) where
    held : (c : CellName) → In c (cells_of schema capacity db unit hands.guesses (Store t items suppress)) → holds hands.cells c ≡ true
    held = (prepared_has_all schema capacity unit hands (Store t items suppress) passes may.ready db agrees).cells

    pub extent : holds hands.cells (Extent t) ≡ true
    extent = held (Extent t) (inl refl)

    pub has_places : list_any (λ s. is_none (place_in schema unit s)) (automatic_sets schema t) ≡ false
    has_places = (passes_without_cells schema capacity unit (Store t items suppress) passes).placed

    abbrev pub number : ℕ
    number = unwrap_or (free_number capacity db t) 0

    abbrev k : DbKey
    k = new_key db t number

    pub key_in_hand : (in_hand hands).fresh t ≡ k
    key_in_hand =
        let are = numbers_in_hand schema capacity db hands unit agrees t extent in
        sym (new_key_in_hand schema capacity db agrees.legal t (numbers_in hands t) are (unwrap_or (first (numbers_where is_free (numbers_in hands t))) 0))
        ∙ ap (λ (o : Option ℕ). new_key db t (unwrap_or o 0)) (sym (free_in_hand schema capacity db agrees.legal t (numbers_in hands t) are))

    -- once the first two checks pass, all its cells are held
    all_held : is_none (free_number capacity db t) ≡ false → calc_taken schema (whole schema capacity db) t items None ≡ false → (c : CellName) → In c (Extent t ∷ (store_rings schema unit k ++ slot_name k ∷ [])) → holds hands.cells c ≡ true
    all_held room untaken c i =
        let n = some_from_not_none (free_number capacity db t) room in
        let is : n.0 ≡ number = ap (λ (o : Option ℕ). unwrap_or o 0) (sym n.1) in
        held c (subst (λ (cs : List CellName). In c (Extent t ∷ cs)) (λ j. store_cells schema unit (option_map (new_key db t) (sym n.1 j)) (sym untaken j)) (subst (λ m. In c (Extent t ∷ (store_rings schema unit (new_key db t m) ++ slot_name (new_key db t m) ∷ []))) (sym is) i))

    pub joined_held : is_none (free_number capacity db t) ≡ false → calc_taken schema (whole schema capacity db) t items None ≡ false → (s : ℕ) → In s (automatic_sets schema t)
        → holds hands.cells (Ring s (place_of (joined_place schema unit s).owner)) ≡ true
    joined_held room untaken s i =
        let kept = of_filter (λ s. some_and (λ m. is_automatic m.class) (member_clause schema s t)) s (set_numbers schema) i in
        let has : list_any (λ x. eqb x s) (automatic_sets schema t) ≡ true = any_in (λ x. eqb x s) s (automatic_sets schema t) i (eq-eqb s s refl) in
        let at = some_from_not_none (place_in schema unit s) (no_number_passes (λ s. is_none (place_in schema unit s)) s (automatic_sets schema t) has has_places) in
        let name = Ring s (place_of (joined_place schema unit s).owner) in
        let own : List CellName = if owns schema s t then Ring s (Some (t, number)) ∷ [] else [] in
        let named : In name (ring_names s (current_owner schema unit s)) =
        subst (λ (p : Option Place). In (Ring s (place_of (unwrap_or p (record { owner = System; at = None })).owner)) (ring_names s (option_map (λ (p : Place). p.owner) p))) (sym at.1) (inl refl) in
        all_held room untaken name (inr (in_left name (store_rings schema unit k) (slot_name k ∷ [])
        (in_flat_map (λ s. (if list_any (λ s'. eqb s' s) (automatic_sets schema t) then ring_names s (current_owner schema unit s) else []) ++ (if owns schema s t then Ring s (Some (t, number)) ∷ [] else []))
        s name (set_numbers schema) kept.0
        (in_left name _ own (subst (λ b. In name (cond b (ring_names s (current_owner schema unit s)) [])) (sym has) named)))))

    pub checks_in_hand : first_cause (store_checks schema (in_hand hands) unit t items) ≡ first_cause (store_checks schema (whole schema capacity db) unit t items)
    checks_in_hand =
        store_checks_agree (in_hand hands) (whole schema capacity db) unit schema t items (same_numbers schema capacity db hands unit agrees t extent)
        (λ room untaken s i. same_occurrence schema capacity db hands unit agrees s (joined_place schema unit s).owner (joined_held room untaken s i))

    -- what a STORE that no check refuses has
    pub passed_held : first_cause (store_checks schema (in_hand hands) unit t items) ≡ None
        → (is_none (free_number capacity db t) ≡ false) × ((c : CellName) → In c (Extent t ∷ (store_rings schema unit k ++ slot_name k ∷ [])) → holds hands.cells c ≡ true)
    passed_held e =
        let room = passes_check (is_none (free_number capacity db t)) NoRoom _ (sym checks_in_hand ∙ e) in
        let untaken = passes_check (calc_taken schema (whole schema capacity db) t items None) DuplicatesNotAllowed _ room.1 in
        (room.0, all_held room.0 untaken.0)
