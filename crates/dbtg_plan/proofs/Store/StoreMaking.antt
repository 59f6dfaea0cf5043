-- The edits of a STORE can be made of the held cells.
-- e and f are edits, s a set, o an owner, x a cell.
use Rattle.std.proofs.Common.{◌≡◌, ◌≢◌, refl, sym, ◌∙◌, ap, subst, ℕ, ◌≤◌, true, false, cond, not, ◌&&◌, List, [], ◌∷◌, ◌++◌, Option, Some, None, eqb, inl, inr, length, map, ⊎_elim}
use Rattle.std.specs.Prelude.{filter, is_none, is_some, IsTrue, option_map, unwrap_or}
use Rattle.std.specs.List.{flat_map, list_all, list_any, range_with_len}
use Rattle.std.proofs.lemmas.Bool.{and_from, and_parts, eq-eqb, false_from_ne_true, false≢true, ne_eqb}
use Rattle.dbtg_schema.specs.Lists.{Lists}
use Rattle.dbtg_schema.specs.Lookups.{first_cause, some_and}
use Rattle.dbtg_schema.specs.Sound.{IsSound}
use Rattle.dbtg_schema.specs.Structure.{automatic_sets, is_automatic, member_clause, order_of, owns, pictures, set_numbers}
use Rattle.dbtg_cells.specs.declared.cell.Cell.{Cell}
use Rattle.dbtg_cells.specs.declared.cell.Cell.TheVariants.{Usage as UsageCell, Extent as ExtentCell, Ring as RingCell, Slot as SlotCell}
use Rattle.dbtg_cells.specs.declared.extent.Number.{Number}
use Rattle.dbtg_cells.specs.declared.key.DbKey.{DbKey}
use Rattle.dbtg_cells.specs.declared.key.Owner.{Owner}
use Rattle.dbtg_cells.specs.declared.key.Owner.TheVariants.{Rec, System}
use Rattle.dbtg_cells.specs.declared.key.Value.{Value}
use Rattle.dbtg_cells.specs.declared.name.CellName.{CellName}
use Rattle.dbtg_cells.specs.declared.name.CellName.TheVariants.{Extent, Ring, Slot}
use Rattle.dbtg_cells.specs.declared.ring.Occurrence.{Occurrence}
use Rattle.dbtg_cells.specs.Cells.{shown}
use Rattle.dbtg_cells.specs.Keys.{is_member}
use Rattle.dbtg_cells.specs.Members.{keys_in}
use Rattle.dbtg_cells.specs.Names.{name_eq, place_eq}
use Rattle.dbtg_cells.specs.Numbers.{entry_of, is_free}
use Rattle.dbtg_cells.specs.Shown.{RingValue, first_version}
use Rattle.dbtg_cells.proofs.Public.{place_eq_refl, same_place}
use Rattle.dbtg_unit.specs.Database.Statements.StoredFacts.{whole}
use Rattle.dbtg_unit.specs.declared.edit.CellEdit.{CellEdit}
use Rattle.dbtg_unit.specs.declared.edit.Edit.TheVariants.{EnterNumber, Fill, OpenRing, PlaceMember}
use Rattle.dbtg_unit.specs.declared.unit.Cause.TheVariants.{Deleted, DuplicatesNotAllowed, NoRoom}
use Rattle.dbtg_unit.specs.declared.unit.Place.{Place}
use Rattle.dbtg_unit.specs.declared.unit.Unit.{Unit}
use Rattle.dbtg_unit.specs.Database.State.Base.{Database, calc_items, is_live, key_at, key_item, members_of}
use Rattle.dbtg_unit.specs.Hands.CanEdit.{CanEdit, CanPlace}
use Rattle.dbtg_unit.specs.Database.State.Cells.{number_of}
use Rattle.dbtg_unit.specs.Database.State.CellNames.{place_of, slot_name}
use Rattle.dbtg_unit.specs.Hands.EditsOf.{first_owners, joining_edits, placed_at, ring_edits, slot_edit, store_edits}
use Rattle.dbtg_unit.specs.Database.Statements.Effect.{calc_taken, free_number, new_key, place_checks, store_checks}
use Rattle.dbtg_unit.specs.Database.Statements.Fits.{values_fit}
use Rattle.dbtg_unit.specs.Hands.Hands.{Hands, cell_of}
use Rattle.dbtg_unit.specs.Hands.InHand.{numbers_in, numbers_of, occurrence_of, of_owner, in_hand}
use Rattle.dbtg_unit.specs.Hands.Local.{Agrees, holds}
use Rattle.dbtg_unit.specs.Hands.Making.{CanMake}
use Rattle.dbtg_unit.specs.Hands.Needs.{current_owner, ring_names, store_rings, store_rings_of}
use Rattle.dbtg_unit.specs.Database.State.Units.{place_in}
use Rattle.dbtg_unit.proofs.Public.{EachCanEdit, In, StoreFound, all_at, all_in, any_in, are_distinct, can_make_distinct, distinct, each_append, free_in_hand, held_cell_agrees, holds_there, in_flat_map, in_left, in_right, members_in_hand, new_is_fresh, not_member, numbers_in_hand, of_append, of_filter, of_flat_map, own_ring_before, owner_not_k, pairwise_filter, passes_check, passes_each, range_distinct, ring_in, some_and_value, some_from_not_none, store_found}
use Rattle.dbtg_unit.specs.Database.Statements.Conditions.{joined_place}
use Rattle.dbtg_plan.specs.Inside.Joining.{joined_occurrence}
use Rattle.dbtg_plan.specs.Inside.Store.{HasRoom}
use Rattle.dbtg_plan.proofs.Connect.PlacesDecide.{can_join_in_hand, place_checks_in_hand}
use Rattle.dbtg_plan.proofs.Store.NumberSteps.{free_entry}
use Rattle.dbtg_plan.proofs.Plans.RingEdits.{ring_is}

-- LISTS OF EDITS

-- the cells of the one are not the cells of the others
abbrev pub Apart : List CellEdit → List CellEdit → Type 0
Apart es fs = (e : CellEdit) → In e es → (f : CellEdit) → In f fs → name_eq e.name f.name ≡ false

pub distinct_append : (es fs : List CellEdit) → are_distinct es ≡ true → are_distinct fs ≡ true → Apart es fs → are_distinct (es ++ fs) ≡ true
distinct_append [] fs h g apart = g
distinct_append (e ∷ es) fs h g apart =
    let hs = and_parts (list_all (λ f. not (name_eq e.name f.name)) es) (are_distinct es) h in
    and_from _ _
    (all_in (λ f. not (name_eq e.name f.name)) (es ++ fs) (λ f i. ⊎_elim (λ j. all_at (λ f. not (name_eq e.name f.name)) f es hs.0 j) (λ j. ap not (apart e (inl refl) f j)) (of_append f es fs i)))
    (distinct_append es fs hs.1 g (λ x i. apart x (inr i)))

-- edits set by set, of cells of that set
pub distinct_flat_map : (f : ℕ → List CellEdit) (sets : List ℕ) → distinct sets ≡ true → ((s : ℕ) → are_distinct (f s) ≡ true)
    → ((s u : ℕ) → s ≢ u → Apart (f s) (f u)) → are_distinct (flat_map f sets) ≡ true
distinct_flat_map f [] h one apart = refl
distinct_flat_map f (s ∷ sets) h one apart =
    let hs = and_parts (list_all (λ u. not (eqb s u)) sets) (distinct sets) h in
    distinct_append (f s) (flat_map f sets) (one s) (distinct_flat_map f sets hs.1 one apart)
    (λ e i g j. let from = of_flat_map f g sets j in apart s from.0 (differs s from.0 sets hs.0 from.1) e i g from.2) where
      differs : (s u : ℕ) (sets : List ℕ) → list_all (λ u. not (eqb s u)) sets ≡ true → In u sets → s ≢ u
      differs s u [] h i = absurd i
      differs s u (v ∷ sets) h i = let hs = and_parts (not (eqb s v)) (list_all (λ u. not (eqb s u)) sets) h in
          ⊎_elim (λ (e : v ≡ u) (same : s ≡ u). false≢true (sym (ap not (eq-eqb s v (same ∙ sym e))) ∙ hs.0)) (λ j. differs s u sets hs.1 j) i

-- edits set by set, each of which can be made
each_in : (f : ℕ → List CellEdit) (sets : List ℕ) (cells : List (CellName × Cell)) → ((s : ℕ) → In s sets → EachCanEdit (f s) cells) → EachCanEdit (flat_map f sets) cells
each_in f [] cells h = tt
each_in f (s ∷ sets) cells h = each_append (f s) (flat_map f sets) cells (h s (inl refl)) (each_in f sets cells (λ u i. h u (inr i)))

-- THEIR CELLS

apart_by_name : (e f : CellEdit) (c d : CellName) → e.name ≡ c → f.name ≡ d → name_eq c d ≡ false → name_eq e.name f.name ≡ false
apart_by_name e f c d is_c is_d h = (λ i. name_eq (is_c i) (is_d i)) ∙ h

pub other_rings : (s u : ℕ) (p q : Option (ℕ × ℕ)) → s ≢ u → name_eq (Ring s p) (Ring u q) ≡ false
other_rings s u p q h = ap (λ b. b && place_eq p q) (ne_eqb s u h)

module _ (schema : Lists) (unit : Unit) (k : DbKey) (items : List Value) where
  abbrev joining : ℕ → List CellEdit
  joining s = joining_edits schema unit s k (key_item schema s k.rtype items)

  abbrev opening : ℕ → List CellEdit
  opening s = record { name = Ring s (Some (k.rtype, k.number)); edit = OpenRing (Rec k) } ∷ []

  abbrev owned : List ℕ
  owned = filter (λ s. owns schema s k.rtype) (set_numbers schema)

  abbrev filling : List CellEdit
  filling = slot_edit k (Fill (first_version k.generation items (first_owners schema unit k.rtype))) ∷ []

  -- a joining is of the ring of the current owner
  joining_name : (s : ℕ) (e : CellEdit) → In e (joining s) → (place : Place) × (place_in schema unit s ≡ Some place) × (e.name ≡ Ring s (place_of place.owner))
  joining_name s e i = by_place (place_in schema unit s) refl i where
    by_place : (p : Option Place) → place_in schema unit s ≡ p
        → In e (ring_edits s (option_map (λ place. place.owner) p) (unwrap_or (option_map (λ place. placed_at schema s k (key_item schema s k.rtype items) place ∷ []) p) []))
        → (place : Place) × (place_in schema unit s ≡ Some place) × (e.name ≡ Ring s (place_of place.owner))
    by_place None at i = absurd i
    by_place (Some place) at i = ⊎_elim (λ h. (place, at, ap (λ (f : CellEdit). f.name) (sym h))) (λ j. absurd j) i

  opening_name : (s : ℕ) (e : CellEdit) → In e (opening s) → e.name ≡ Ring s (Some (k.rtype, k.number))
  opening_name s e i = ⊎_elim (λ h. ap (λ (f : CellEdit). f.name) (sym h)) (λ j. absurd j) i

  filling_name : (e : CellEdit) → In e filling → e.name ≡ slot_name k
  filling_name e i = ⊎_elim (λ h. ap (λ (f : CellEdit). f.name) (sym h)) (λ j. absurd j) i

  joining_distinct : (s : ℕ) → are_distinct (joining s) ≡ true
  joining_distinct s =
      elim (place_in schema unit s) as (λ p. are_distinct (ring_edits s (option_map (λ place. place.owner) p) (unwrap_or (option_map (λ place. placed_at schema s k (key_item schema s k.rtype items) place ∷ []) p) [])) ≡ true) [
        | None ↦ refl
        | Some place ↦ refl
      ]

  joins_distinct : are_distinct (flat_map joining (automatic_sets schema k.rtype)) ≡ true
  joins_distinct =
      distinct_flat_map joining (automatic_sets schema k.rtype) (pairwise_filter _ _ (set_numbers schema) (range_distinct 0 (length schema.sets))) joining_distinct
      (λ s u other e i f j.
      let a = joining_name s e i in
      let b = joining_name u f j in
      apart_by_name e f (Ring s (place_of a.0.owner)) (Ring u (place_of b.0.owner)) a.2 b.2 (other_rings s u (place_of a.0.owner) (place_of b.0.owner) other))

  opens_distinct : are_distinct (flat_map opening owned) ≡ true
  opens_distinct =
      distinct_flat_map opening owned (pairwise_filter _ _ (set_numbers schema) (range_distinct 0 (length schema.sets))) (λ s. refl)
      (λ s u other e i f j.
      apart_by_name e f (Ring s (Some (k.rtype, k.number))) (Ring u (Some (k.rtype, k.number))) (opening_name s e i) (opening_name u f j) (other_rings s u (Some (k.rtype, k.number)) (Some (k.rtype, k.number)) other))

  opens_apart : Apart (flat_map opening owned) filling
  opens_apart e i f j = let from = of_flat_map opening e owned i in apart_by_name e f (Ring from.0 (Some (k.rtype, k.number))) (slot_name k) (opening_name from.0 e from.2) (filling_name f j) refl

  -- each is a cell that STORE needs
  edit_needed : (e : CellEdit) → In e (store_edits schema unit k items) → In e.name (Extent k.rtype ∷ (store_rings schema unit k ++ slot_name k ∷ []))
  edit_needed e i = ⊎_elim (λ h. inl (ap (λ (f : CellEdit). f.name) h)) (λ j. inr (⊎_elim of_joins (λ j. ⊎_elim of_opens of_filling (of_append e (flat_map opening owned) filling j)) (of_append e (flat_map joining (automatic_sets schema k.rtype)) (flat_map opening owned ++ filling) j))) i where
    in_rings : (s : ℕ) (c : CellName) → In s (set_numbers schema) → In c (store_rings_of schema unit k s) → e.name ≡ c → In e.name (store_rings schema unit k ++ slot_name k ∷ [])
    in_rings s c in_sets named is =
        subst (λ (d : CellName). In d (store_rings schema unit k ++ slot_name k ∷ [])) (sym is) (in_left c (store_rings schema unit k) (slot_name k ∷ []) (in_flat_map (store_rings_of schema unit k) s c (set_numbers schema) in_sets named))

    of_joins : In e (flat_map joining (automatic_sets schema k.rtype)) → In e.name (store_rings schema unit k ++ slot_name k ∷ [])
    of_joins j =
        let from = of_flat_map joining e (automatic_sets schema k.rtype) j in
        let a = joining_name from.0 e from.2 in
        let c = Ring from.0 (place_of a.0.owner) in
        let named : In c (ring_names from.0 (current_owner schema unit from.0)) = subst (λ (p : Option Place). In c (ring_names from.0 (option_map (λ (p : Place). p.owner) p))) (sym a.1) (inl refl) in
        in_rings from.0 c (of_filter (λ s. some_and (λ m. is_automatic m.class) (member_clause schema s k.rtype)) from.0 (set_numbers schema) from.1).0
        (in_left c _ (cond (owns schema from.0 k.rtype) (Ring from.0 (Some (k.rtype, k.number)) ∷ []) [])
        (subst (λ b. In c (cond b (ring_names from.0 (current_owner schema unit from.0)) [])) (sym (any_in (λ x. eqb x from.0) from.0 (automatic_sets schema k.rtype) from.1 (eq-eqb from.0 from.0 refl))) named))
        a.2

    of_opens : In e (flat_map opening owned) → In e.name (store_rings schema unit k ++ slot_name k ∷ [])
    of_opens j =
        let from = of_flat_map opening e owned j in
        let kept = of_filter (λ s. owns schema s k.rtype) from.0 (set_numbers schema) from.1 in
        let c = Ring from.0 (Some (k.rtype, k.number)) in
        in_rings from.0 c kept.0
        (in_right c (cond (list_any (λ s'. eqb s' from.0) (automatic_sets schema k.rtype)) (ring_names from.0 (current_owner schema unit from.0)) []) _ (subst (λ b. In c (cond b (c ∷ []) [])) (sym kept.1) (inl refl)))
        (opening_name from.0 e from.2)

    of_filling : In e filling → In e.name (store_rings schema unit k ++ slot_name k ∷ [])
    of_filling j = in_right e.name (store_rings schema unit k) (slot_name k ∷ []) (inl (sym (filling_name e j)))

  -- where no cell is missing, each edit is of a held cell
  pub edits_held : (hands : Hands) → ((c : CellName) → In c (Extent k.rtype ∷ (store_rings schema unit k ++ slot_name k ∷ [])) → holds hands.cells c ≡ true) → list_all (λ (e : CellEdit). holds hands.cells e.name) (store_edits schema unit k items) ≡ true
  edits_held hands held = all_in (λ (e : CellEdit). holds hands.cells e.name) (store_edits schema unit k items) (λ e i. held e.name (edit_needed e i))

-- HELD CELLS

-- a cell of which there is one is held
there_held : (c : CellName) (cells : List (CellName × Cell)) (x : Cell) → cell_of c cells ≡ Some x → holds cells c ≡ true
there_held c cells x h = sym (holds_there cells c) ∙ ap is_some h

module _ (schema : Lists) (capacity : ℕ) (db : Database) (hands : Hands) (unit : Unit) (agrees : Agrees schema capacity db hands unit)
    (t n : ℕ) (items : List Value) (free : free_number capacity db t ≡ Some n) (has_places : list_any (λ s. is_none (place_in schema unit s)) (automatic_sets schema t) ≡ false)
    (passes : first_cause (store_checks schema (whole schema capacity db) unit t items) ≡ None) where
  abbrev k : DbKey
  k = new_key db t n

  found : StoreFound schema capacity db unit t
  found = store_found schema capacity db unit agrees.legal t items has_places passes

  counted : 1 ≤ n
  counted = subst (λ (o : Option ℕ). 1 ≤ unwrap_or o 0) free found.counted

  vacant : is_live db (key_at db t n) ≡ false
  vacant = subst (λ (o : Option ℕ). is_live db (key_at db t (unwrap_or o 0)) ≡ false) free found.unused

  automatic : (s : ℕ) → In s (automatic_sets schema t) → list_any (λ x. eqb x s) (automatic_sets schema t) ≡ true
  automatic s i = any_in (λ x. eqb x s) s (automatic_sets schema t) i (eq-eqb s s refl)

  -- EACH CAN BE MADE

  extent_made : (x : Cell) → cell_of (Extent t) hands.cells ≡ Some x → CanEdit (EnterNumber n (calc_items schema t items)) x
  extent_made x there = by_cell x there (numbers_in_hand schema capacity db hands unit agrees t (there_held (Extent t) hands.cells x there)) where
    by_cell : (x : Cell) → cell_of (Extent t) hands.cells ≡ Some x → numbers_in hands t ≡ map (number_of schema db t) (range_with_len 1 capacity) → CanEdit (EnterNumber n (calc_items schema t items)) x
    by_cell (ExtentCell v) there are =
        let numbers : numbers_in hands t ≡ v.numbers = ap numbers_of there in
        let e = free_entry (numbers_in hands t) n (sym (free_in_hand schema capacity db agrees.legal t (numbers_in hands t) are) ∙ free) in
        subst (λ (xs : List Number). IsTrue (some_and is_free (entry_of n xs))) numbers (ap (some_and is_free) e.1 ∙ e.2)
    by_cell (UsageCell v) there are = tt
    by_cell (RingCell v) there are = tt
    by_cell (SlotCell v) there are = tt

  opened_made : (s : ℕ) (x : Cell) → cell_of (Ring s (Some (t, n))) hands.cells ≡ Some x → CanEdit (OpenRing (Rec k)) x
  opened_made s x there = by_cell x (held_cell_agrees schema capacity db hands.cells (Ring s (Some (t, n))) x agrees.cells there ∙ own_ring_before schema capacity db unit k items agrees.legal counted refl vacant found.stands s) where
    by_cell : (x : Cell) → shown x ≡ RingValue None → CanEdit (OpenRing (Rec k)) x
    by_cell (RingCell v) h = ap ring_in h
    by_cell (UsageCell v) h = tt
    by_cell (ExtentCell v) h = tt
    by_cell (SlotCell v) h = tt

  module _ (sound : IsSound schema) (fit : values_fit (pictures schema t) items ≡ true) (rooms : (s : ℕ) → HasRoom schema unit hands k s) where
    joined_made : (s : ℕ) → In s (automatic_sets schema t) → (x : Cell) → cell_of (Ring s (place_of (joined_place schema unit s).owner)) hands.cells ≡ Some x
        → CanEdit (PlaceMember (order_of schema s) (joined_place schema unit s).at k (key_item schema s t items)) x
    joined_made s i x there = by_cell x there where
      name : CellName
      name = Ring s (place_of (joined_place schema unit s).owner)

      by_cell : (x : Cell) → cell_of (Ring s (place_of (joined_place schema unit s).owner)) hands.cells ≡ Some x
          → CanEdit (PlaceMember (order_of schema s) (joined_place schema unit s).at k (key_item schema s t items)) x
      by_cell (UsageCell v) there = tt
      by_cell (ExtentCell v) there = tt
      by_cell (SlotCell v) there = tt
      by_cell (RingCell v) there =
          let held = there_held (Ring s (place_of (joined_place schema unit s).owner)) hands.cells (RingCell v) there in
          let clause = some_and_value (λ m. is_automatic m.class) (member_clause schema s t) (of_filter (λ s. some_and (λ m. is_automatic m.class) (member_clause schema s t)) s (set_numbers schema) i).1 in
          let unique = (passes_check (calc_taken schema (whole schema capacity db) t items None) DuplicatesNotAllowed _ (passes_check (is_none (free_number capacity db t)) NoRoom _ passes).1).1 in
          let checks : first_cause (place_checks schema (in_hand hands) unit s (key_item schema s t items)) ≡ None
          = ap first_cause (place_checks_in_hand schema capacity db hands unit agrees s held (key_item schema s t items))
          ∙ passes_each (λ s. place_checks schema (whole schema capacity db) unit s (key_item schema s t items)) (automatic_sets schema t) s (automatic s i) unique in
          let present = some_from_not_none (joined_occurrence schema unit hands s) (passes_check (is_none (joined_occurrence schema unit hands s)) Deleted _ checks).0 in
          let read : joined_occurrence schema unit hands s ≡ of_owner (joined_place schema unit s).owner v.occurrence = ap (occurrence_of (joined_place schema unit s).owner) there in
          let fresh : is_member k (members_of db s (joined_place schema unit s).owner) ≡ false = false_from_ne_true _ (not_member schema capacity db k agrees.legal (new_is_fresh schema capacity db t n agrees.legal) s (joined_place schema unit s).owner) in
          let is : joined_occurrence schema unit hands s ≡ v.occurrence = read ∙ sym (ring_is (joined_place schema unit s).owner v.occurrence (ap is_some (sym read ∙ present.1))) in (
            rooms s (automatic s i) (RingCell v) there
                (ap (λ (o : Option Occurrence). is_member k (keys_in o)) (sym is) ∙ ap (is_member k) (sym (members_in_hand schema capacity db hands unit agrees s (joined_place schema unit s).owner held)) ∙ fresh),
            subst (CanPlace (order_of schema s) (joined_place schema unit s).at (key_item schema s t items)) is
                (can_join_in_hand schema capacity db hands unit agrees s held sound t items (ap is_some clause.1) fit checks),
          )

    each_joined : (s : ℕ) → In s (automatic_sets schema t) → EachCanEdit (joining schema unit k items s) hands.cells
    each_joined s i = by_place (place_in schema unit s) refl where
      by_place : (p : Option Place) → place_in schema unit s ≡ p
          → EachCanEdit (ring_edits s (option_map (λ place. place.owner) p) (unwrap_or (option_map (λ place. placed_at schema s k (key_item schema s t items) place ∷ []) p) [])) hands.cells
      by_place None at = tt
      by_place (Some place) at =
          let same : joined_place schema unit s ≡ place = ap (λ (p : Option Place). unwrap_or p (record { owner = System; at = None })) at in
          (subst (λ (p : Place). (x : Cell) → cell_of (Ring s (place_of p.owner)) hands.cells ≡ Some x → CanEdit (placed_at schema s k (key_item schema s t items) p) x) same (joined_made s i), tt)

    each_made : EachCanEdit (store_edits schema unit k items) hands.cells
    each_made = (
      extent_made,
      each_append (flat_map (joining schema unit k items) (automatic_sets schema t)) (flat_map (opening schema unit k items) (owned schema unit k items) ++ filling schema unit k items) hands.cells
          (each_in (joining schema unit k items) (automatic_sets schema t) hands.cells each_joined)
          (each_append (flat_map (opening schema unit k items) (owned schema unit k items)) (filling schema unit k items) hands.cells
          (each_in (opening schema unit k items) (owned schema unit k items) hands.cells (λ s i. (opened_made s, tt)))
          ((λ x there. tt), tt)),
    )

  -- THEIR CELLS ARE DISTINCT

  -- a current owner whose list is there does not have k's number
  not_own : (s u : ℕ) (o : Owner) → is_some (db.lists s o) ≡ true → name_eq (Ring s (place_of o)) (Ring u (Some (t, n))) ≡ false
  not_own s u o present =
      false_from_ne_true _ (λ h.
      let same : place_of o ≡ Some (t, n) = same_place (place_of o) (Some (t, n)) (and_parts (eqb s u) (place_eq (place_of o) (Some (t, n))) h).1 in
      false≢true (sym (owner_not_k schema capacity db unit k items agrees.legal counted refl vacant found.stands s o present) ∙ ap (place_eq (Some (t, n))) same ∙ place_eq_refl (Some (t, n))))

  joins_apart : Apart (flat_map (joining schema unit k items) (automatic_sets schema t)) (flat_map (opening schema unit k items) (owned schema unit k items) ++ filling schema unit k items)
  joins_apart e i f j =
      let from = of_flat_map (joining schema unit k items) e (automatic_sets schema t) i in
      let a = joining_name schema unit k items from.0 e from.2 in
      let at = found.stands from.0 (automatic from.0 from.1) in
      let same : at.0 ≡ a.0 = ap (λ (p : Option Place). unwrap_or p a.0) (sym at.1 ∙ a.1) in
      ⊎_elim
      (λ o. let to = of_flat_map (opening schema unit k items) f (owned schema unit k items) o in
      apart_by_name e f (Ring from.0 (place_of a.0.owner)) (Ring to.0 (Some (t, n))) a.2 (opening_name schema unit k items to.0 f to.2)
      (not_own from.0 to.0 a.0.owner (subst (λ (p : Place). is_some (db.lists from.0 p.owner) ≡ true) same at.2)))
      (λ o. apart_by_name e f (Ring from.0 (place_of a.0.owner)) (Slot t n) a.2 (filling_name schema unit k items f o) refl)
      (of_append f (flat_map (opening schema unit k items) (owned schema unit k items)) (filling schema unit k items) j)

  edits_distinct : are_distinct (store_edits schema unit k items) ≡ true
  edits_distinct =
      let joins = flat_map (joining schema unit k items) (automatic_sets schema t) in
      let opens = flat_map (opening schema unit k items) (owned schema unit k items) in
      and_from _ _
      (all_in (λ f. not (name_eq (Extent t) f.name)) (joins ++ (opens ++ filling schema unit k items)) (λ f i. ap not (of_another f i)))
      (distinct_append joins (opens ++ filling schema unit k items) (joins_distinct schema unit k items)
      (distinct_append opens (filling schema unit k items) (opens_distinct schema unit k items) refl (opens_apart schema unit k items)) joins_apart) where
        of_another : (f : CellEdit) → In f (flat_map (joining schema unit k items) (automatic_sets schema t) ++ (flat_map (opening schema unit k items) (owned schema unit k items) ++ filling schema unit k items)) → name_eq (Extent t) f.name ≡ false
        of_another f i =
            ⊎_elim
            (λ j. let from = of_flat_map (joining schema unit k items) f (automatic_sets schema t) j in ap (name_eq (Extent t)) (joining_name schema unit k items from.0 f from.2).2)
            (λ j. ⊎_elim
            (λ o. let from = of_flat_map (opening schema unit k items) f (owned schema unit k items) o in ap (name_eq (Extent t)) (opening_name schema unit k items from.0 f from.2))
            (λ o. ap (name_eq (Extent t)) (filling_name schema unit k items f o))
            (of_append f (flat_map (opening schema unit k items) (owned schema unit k items)) (filling schema unit k items) j))
            (of_append f (flat_map (joining schema unit k items) (automatic_sets schema t)) (flat_map (opening schema unit k items) (owned schema unit k items) ++ filling schema unit k items) i)

  -- the edits of a STORE that passes can be made, where there is a place for the new record
  pub store_can_make : IsSound schema → values_fit (pictures schema t) items ≡ true → ((s : ℕ) → HasRoom schema unit hands k s) → CanMake (store_edits schema unit k items) hands.cells
  store_can_make sound fit rooms = can_make_distinct (store_edits schema unit k items) hands.cells edits_distinct (each_made sound fit rooms)
