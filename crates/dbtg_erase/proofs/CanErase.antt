-- The edits of a DELETE can be made in turn.
use Rattle.std.proofs.Common.{◌≡◌, refl, sym, ◌∙◌, ap, subst, ℕ, zero, suc, ◌+◌, ◌<◌, ◌≤◌, ◌^◌, arith, Bool, true, false, cond, not, ◌&&◌, ◌||◌, eqb, List, [], ◌∷◌, ◌++◌, Option, Some, None, inl, inr, map}
use Rattle.std.specs.Prelude.{filter, option_map}
use Rattle.std.specs.List.{flat_map, list_any, range_with_len}
use Rattle.std.proofs.lemmas.Bool.{and_parts, cases_Bool, cond-false, eq-eqb, eqb-true, false≢true, false_from_ne_true, not-true, or_left, or_right}
use Rattle.dbtg_schema.specs.Lists.{Lists}
use Rattle.dbtg_schema.specs.Lookups.{some_and}
use Rattle.dbtg_schema.specs.Structure.{set_numbers}
use Rattle.dbtg_cells.specs.declared.cell.Cell.{Cell}
use Rattle.dbtg_cells.specs.declared.cell.Cell.TheVariants.{Usage as UsageCell, Extent as ExtentCell, Ring as RingCell, Slot as SlotCell}
use Rattle.dbtg_cells.specs.declared.extent.Number.{Number}
use Rattle.dbtg_cells.specs.declared.key.DbKey.{DbKey}
use Rattle.dbtg_cells.specs.declared.key.Owner.{Owner}
use Rattle.dbtg_cells.specs.declared.key.Value.{Value}
use Rattle.dbtg_cells.specs.declared.name.CellName.{CellName}
use Rattle.dbtg_cells.specs.declared.name.CellName.TheVariants.{Extent, Ring}
use Rattle.dbtg_cells.specs.declared.ring.Occurrence.{Occurrence}
use Rattle.dbtg_cells.specs.declared.slot.Stored.{Stored}
use Rattle.dbtg_cells.specs.Keys.{is_member, key_eq}
use Rattle.dbtg_cells.specs.Members.{keys_in}
use Rattle.dbtg_cells.specs.Names.{name_eq, place_eq}
use Rattle.dbtg_cells.specs.Numbers.{entry_of, is_used}
use Rattle.dbtg_cells.specs.Shown.{CellValue, UsageValue, ExtentValue, RingValue, SlotValue}
use Rattle.dbtg_cells.proofs.Public.{mapped_in_range, same_key}
use Rattle.dbtg_unit.specs.declared.edit.CellEdit.{CellEdit}
use Rattle.dbtg_unit.specs.declared.edit.Edit.TheVariants.{ChangeOwner, CloseRing, LeaveNumber, RaiseVersion, TakeOut, Vacate}
use Rattle.dbtg_unit.specs.Hands.CanEdit.{CanEdit}
use Rattle.dbtg_unit.specs.Database.State.CellNames.{place_of, slot_name}
use Rattle.dbtg_unit.specs.Hands.Edits.{edited, edited_at, vacated, with_members, with_owner}
use Rattle.dbtg_unit.specs.Hands.EditsOf.{closing_edits, leave_number, leaving_edits, losing_edits, lost_sets, ring_edits, slot_edit, staying_owner}
use Rattle.dbtg_unit.specs.Database.State.Legal.{differ, pairwise}
use Rattle.dbtg_unit.proofs.Public.{In, Thins, all_at, any_element, distinct, edited_at_append, is_of_number, numbers_left, skips_map, thins_flat}
use Rattle.dbtg_unit.proofs.Public.{thins_ring}
use Rattle.dbtg_erase.proofs.Possible.{CanEditShown, Possible, after, possible_append, possible_flat, possible_map}

-- NUMBERS

entry_range : (g : ℕ → Number) (count n : ℕ) → 1 ≤ n → n ≤ count → entry_of n (map g (range_with_len 1 count)) ≡ Some (g n)
entry_range g count zero low high = absurd (omega arith)
entry_range g count (suc i) low high = let e : 1 + i ≡ suc i = omega arith in mapped_in_range g 1 count i (omega arith) ∙ ap (λ z. Some (g z)) e

can_leave : (n : ℕ) (numbers : List Number) → some_and is_used (entry_of n numbers) ≡ true → CanEditShown (LeaveNumber n) (ExtentValue numbers)
can_leave n numbers used (UsageCell v) h = tt
can_leave n numbers used (ExtentCell v) h = let same : v.numbers ≡ numbers = cc in ap (λ xs. some_and is_used (entry_of n xs)) same ∙ used
can_leave n numbers used (RingCell v) h = tt
can_leave n numbers used (SlotCell v) h = tt

-- two keys do not share a number of one type
abbrev pub apart : DbKey → DbKey → Bool
apart a b = not (is_of_number b.rtype b.number a)

-- the numbers of d and of no other
abbrev left_at : DbKey → (ℕ → ℕ → Number) → ℕ → ℕ → Number
left_at d f t n = cond (list_any (is_of_number t n) (d ∷ [])) (vacated (f t n)) (f t n)

pub numbers_possible : (count : ℕ) (ds : List DbKey) (V : CellName → CellValue) (f : ℕ → ℕ → Number) → ((t : ℕ) → V (Extent t) ≡ ExtentValue (map (f t) (range_with_len 1 count)))
    → pairwise apart ds ≡ true → ((d : DbKey) → In d ds → (1 ≤ d.number) × (d.number ≤ count) × (is_used (f d.rtype d.number) ≡ true)) → Possible (map leave_number ds) V
numbers_possible count [] V f shows once used = tt
numbers_possible count (d ∷ ds) V f shows once used =
    let ones = and_parts _ _ once in
    let here = used d (inl refl) in (
      subst (CanEditShown (LeaveNumber d.number)) (sym (shows d.rtype)) (can_leave d.number _ (ap (some_and is_used) (entry_range (f d.rtype) count d.number here.0 here.1) ∙ here.2)),
      numbers_possible count ds (after (leave_number d) V) (left_at d f)
          (λ t. ap (edited_at (Extent t) (leave_number d ∷ [])) (shows t) ∙ numbers_left t count (d ∷ []) (f t) (λ x i. elim i [ inl e ↦ subst (λ (y : DbKey). 1 ≤ y.number) e here.0 | inr never ↦ absurd never ]))
          ones.1
          (λ x i.
          let was = used x (inr i) in
          let other : (is_of_number x.rtype x.number d || false) ≡ false = ap (λ b. b || false) (not-true _ (all_at (apart d) x ds ones.0 i)) in
          (was.0, was.1, ap (λ b. is_used (cond b (vacated (f x.rtype x.number)) (f x.rtype x.number))) other ∙ was.2)),
    )

-- PLACES

-- d is a member of what the ring shows
abbrev pub IsIn : DbKey → CellValue → Type 0
IsIn d v = (o : Option Occurrence) × (v ≡ RingValue o) × (is_member d (keys_in o) ≡ true)

can_take : (d : DbKey) (o : Option Occurrence) → is_member d (keys_in o) ≡ true → CanEditShown (TakeOut d) (RingValue o)
can_take d o has (UsageCell v) h = tt
can_take d o has (ExtentCell v) h = tt
can_take d o has (RingCell v) h = let same : v.occurrence ≡ o = cc in ap (λ x. is_member d (keys_in x)) same ∙ has
can_take d o has (SlotCell v) h = tt

module _ (schema : Lists) (owner : ℕ → DbKey → Option Owner) (gone : List DbKey) where
  abbrev outer : ℕ → DbKey → Option Owner
  outer s d = staying_owner gone (owner s d)

  abbrev edits_in : DbKey → ℕ → List CellEdit
  edits_in d s = ring_edits s (outer s d) (TakeOut d ∷ [])

  -- set by set
  sets_possible : (d : DbKey) (ss : List ℕ) (V : CellName → CellValue) → distinct ss ≡ true → ((s : ℕ) → In s ss → (o : Owner) → outer s d ≡ Some o → IsIn d (V (Ring s (place_of o))))
      → Possible (flat_map (edits_in d) ss) V
  sets_possible d [] V once has = tt
  sets_possible d (s ∷ ss) V once has =
      by (outer s d) refl (λ W others. sets_possible d ss W (and_parts _ _ once).1 (λ s' i o e. subst (IsIn d) (sym (others s' (all_at (λ y. not (eqb s y)) s' ss (and_parts _ _ once).0 i) o)) (has s' (inr i) o e))) where
        by : (q : Option Owner) → outer s d ≡ q → ((W : CellName → CellValue) → ((s' : ℕ) → not (eqb s s') ≡ true → (o : Owner) → W (Ring s' (place_of o)) ≡ V (Ring s' (place_of o))) → Possible (flat_map (edits_in d) ss) W)
            → Possible (ring_edits s q (TakeOut d ∷ []) ++ flat_map (edits_in d) ss) V
        by None e rest = rest V (λ s' h o. refl)
        by (Some o) e rest =
            let member = has s (inl refl) o e in (
              subst (CanEditShown (TakeOut d)) (sym member.1) (can_take d member.0 member.2),
              rest (after (record { name = Ring s (place_of o); edit = TakeOut d }) V)
                  (λ s' h p. cond-false (eqb s' s && place_eq (place_of p) (place_of o)) (edited (TakeOut d) (V (Ring s' (place_of p)))) (V (Ring s' (place_of p)))
                  (ap (λ b. b && place_eq (place_of p) (place_of o)) (false_from_ne_true (eqb s' s) (λ g. false≢true (sym (not-true _ h) ∙ eq-eqb s s' (sym (eqb-true s' s g))))))),
            )

  -- what the edits of d take out of a ring
  abbrev out_by : CellName → DbKey → DbKey → Bool
  out_by c d m = list_any (λ s. some_and (λ p. name_eq c (Ring s (place_of p)) && key_eq d m) (outer s d)) (set_numbers schema)

  thinned : (c : CellName) (d : DbKey) → Thins c (leaving_edits schema owner gone d) (out_by c d)
  thinned c d = thins_flat c (edits_in d) (λ s m. some_and (λ p. name_eq c (Ring s (place_of p)) && key_eq d m) (outer s d)) (set_numbers schema) (λ s. thins_ring c s d (outer s d))

  -- another key stays
  not_out : (c : CellName) (d m : DbKey) → key_eq d m ≡ false → out_by c d m ≡ false
  not_out c d m h =
      false_from_ne_true _ (λ g.
      let s = any_element (λ s. some_and (λ p. name_eq c (Ring s (place_of p)) && key_eq d m) (outer s d)) (set_numbers schema) g in
      never (outer s.0 d) s.0 s.2) where
        never : (q : Option Owner) (s : ℕ) → some_and (λ p. name_eq c (Ring s (place_of p)) && key_eq d m) q ≡ true → ⊥
        never None s g = false≢true g
        never (Some p) s g = false≢true (sym h ∙ (and_parts _ _ g).1)

  still_in : (m : DbKey) (out : DbKey → Bool) (ms : List (DbKey × Option Value)) → out m ≡ false → is_member m (map (λ (e : DbKey × Option Value). e.0) ms) ≡ true
      → is_member m (map (λ (e : DbKey × Option Value). e.0) (filter (λ (e : DbKey × Option Value). not (out e.0)) ms)) ≡ true
  still_in m out [] stays h = h
  still_in m out (e ∷ ms) stays h =
      elim (cases_Bool (key_eq m e.0)) [
        | inl same ↦
            let kept : out e.0 ≡ false = ap out (sym (same_key m e.0 same)) ∙ stays in
            ap (λ b. is_member m (map (λ (e : DbKey × Option Value). e.0) (cond (not b) (e ∷ filter (λ (e : DbKey × Option Value). not (out e.0)) ms) (filter (λ (e : DbKey × Option Value). not (out e.0)) ms)))) kept
            ∙ or_left _ _ same
        | inr other ↦
            let rest = still_in m out ms stays (sym (ap (λ b. b || is_member m (map (λ (e : DbKey × Option Value). e.0) ms)) other) ∙ h) in
            elim (out e.0) as (λ b. is_member m (map (λ (e : DbKey × Option Value). e.0) (cond (not b) (e ∷ filter (λ (e : DbKey × Option Value). not (out e.0)) ms) (filter (λ (e : DbKey × Option Value). not (out e.0)) ms))) ≡ true) [
              | true ↦ rest
              | false ↦ or_right _ _ rest
            ]
      ]

  stays_in : (c : CellName) (d m : DbKey) (v : CellValue) → key_eq d m ≡ false → IsIn m v → IsIn m (edited_at c (leaving_edits schema owner gone d) v)
  stays_in c d m v other has =
      (option_map (with_members (filter (λ e. not (out_by c d e.0)))) has.0, ap (edited_at c (leaving_edits schema owner gone d)) has.1 ∙ thinned c d has.0, of has.0 has.2) where
        of : (o : Option Occurrence) → is_member m (keys_in o) ≡ true → is_member m (keys_in (option_map (with_members (filter (λ e. not (out_by c d e.0)))) o)) ≡ true
        of None h = h
        of (Some r) h = still_in m (out_by c d) r.members (not_out c d m other) h

  pub places_possible : (sets_once : distinct (set_numbers schema) ≡ true) (ds : List DbKey) (V : CellName → CellValue) → pairwise differ ds ≡ true
      → ((d : DbKey) → In d ds → (s : ℕ) → In s (set_numbers schema) → (o : Owner) → outer s d ≡ Some o → IsIn d (V (Ring s (place_of o)))) → Possible (flat_map (leaving_edits schema owner gone) ds) V
  places_possible sets_once [] V once has = tt
  places_possible sets_once (d ∷ ds) V once has =
      let ones = and_parts _ _ once in
      possible_append (leaving_edits schema owner gone d) (flat_map (leaving_edits schema owner gone) ds) V
      (sets_possible d (set_numbers schema) V sets_once (has d (inl refl)))
      (places_possible sets_once ds (λ c. edited_at c (leaving_edits schema owner gone d) (V c)) ones.1
      (λ m i s j o e. stays_in (Ring s (place_of o)) d m (V (Ring s (place_of o))) (not-true _ (all_at (differ d) m ds ones.0 i)) (has m (inr i) s j o e)))

-- OCCURRENCES AND SLOTS

can_close : (x : Cell) → CanEdit CloseRing x
can_close (UsageCell v) = tt
can_close (ExtentCell v) = tt
can_close (RingCell v) = tt
can_close (SlotCell v) = tt

can_vacate : (x : Cell) → CanEdit Vacate x
can_vacate (UsageCell v) = tt
can_vacate (ExtentCell v) = tt
can_vacate (RingCell v) = tt
can_vacate (SlotCell v) = tt

can_change : (s : ℕ) (o : Option Owner) (x : Cell) → CanEdit (ChangeOwner s o) x
can_change s o (UsageCell v) = tt
can_change s o (ExtentCell v) = tt
can_change s o (RingCell v) = tt
can_change s o (SlotCell v) = tt

pub closings_possible : (schema : Lists) (ds : List DbKey) (V : CellName → CellValue) → Possible (flat_map (closing_edits schema) ds) V
closings_possible schema ds V = possible_flat (closing_edits schema) ds V (λ d W. possible_map (λ s. record { name = Ring s (Some (d.rtype, d.number)); edit = CloseRing }) _ W (λ s x. can_close x))

pub vacatings_possible : (ds : List DbKey) (V : CellName → CellValue) → Possible (map (λ d. slot_edit d Vacate) ds) V
vacatings_possible ds V = possible_map (λ d. slot_edit d Vacate) ds V (λ d x. can_vacate x)

-- VERSIONS

-- a record that the slot shows has a next version
abbrev pub HasNext : CellValue → Type 0
HasNext v = (r : Stored) → v ≡ SlotValue (Some r) → r.version + 1 < 2 ^ 64

can_raise : (v : CellValue) → HasNext v → CanEditShown RaiseVersion v
can_raise v next (UsageCell w) h = tt
can_raise v next (ExtentCell w) h = tt
can_raise v next (RingCell w) h = tt
can_raise v next (SlotCell w) h = λ r e. next r (sym h ∙ ap SlotValue e)

next_still : (s : ℕ) (v : CellValue) → HasNext v → HasNext (edited (ChangeOwner s None) v)
next_still s (UsageValue u) next r e = next r e
next_still s (ExtentValue x) next r e = next r e
next_still s (RingValue o) next r e = next r e
next_still s (SlotValue None) next r e = absurd (cc)
next_still s (SlotValue (Some q)) next r e = let same : with_owner s None q ≡ r = cc in subst (λ (z : Stored). z.version + 1 < 2 ^ 64) same (next q refl)

next_after : (c : CellName) (x : DbKey) (ss : List ℕ) (v : CellValue) → HasNext v → HasNext (edited_at c (map (λ s. slot_edit x (ChangeOwner s None)) ss) v)
next_after c x [] v next = next
next_after c x (s ∷ ss) v next =
    next_after c x ss (cond (name_eq c (slot_name x)) (edited (ChangeOwner s None) v) v)
    (elim (name_eq c (slot_name x)) as (λ b. HasNext (cond b (edited (ChangeOwner s None) v) v)) [ true ↦ next_still s v next | false ↦ next ])

-- two keys do not share a slot
abbrev pub other_slots : DbKey → DbKey → Bool
other_slots a b = not (name_eq (slot_name b) (slot_name a))

pub losings_possible : (schema : Lists) (owner : ℕ → DbKey → Option Owner) (gone xs : List DbKey) (V : CellName → CellValue) → pairwise other_slots xs ≡ true
    → ((x : DbKey) → In x xs → HasNext (V (slot_name x))) → Possible (flat_map (losing_edits schema owner gone) xs) V
losings_possible schema owner gone [] V once next = tt
losings_possible schema owner gone (x ∷ xs) V once next =
    let ones = and_parts _ _ once in
    possible_append (losing_edits schema owner gone x) (flat_map (losing_edits schema owner gone) xs) V
    (possible_append (map (λ s. slot_edit x (ChangeOwner s None)) (lost_sets schema owner gone x)) (slot_edit x RaiseVersion ∷ []) V (possible_map (λ s. slot_edit x (ChangeOwner s None)) (lost_sets schema owner gone x) V (λ s y. can_change s None y))
    (can_raise _ (next_after (slot_name x) x (lost_sets schema owner gone x) (V (slot_name x)) (next x (inl refl))), tt))
    (losings_possible schema owner gone xs (λ c. edited_at c (losing_edits schema owner gone x) (V c)) ones.1
    (λ y i. subst HasNext (sym (skipped y (not-true _ (all_at (other_slots x) y xs ones.0 i)))) (next y (inr i)))) where
      skipped : (y : DbKey) → name_eq (slot_name y) (slot_name x) ≡ false → edited_at (slot_name y) (losing_edits schema owner gone x) (V (slot_name y)) ≡ V (slot_name y)
      skipped y other =
          edited_at_append (slot_name y) (map (λ s. slot_edit x (ChangeOwner s None)) (lost_sets schema owner gone x)) (slot_edit x RaiseVersion ∷ []) (V (slot_name y))
          ∙ ap (edited_at (slot_name y) (slot_edit x RaiseVersion ∷ [])) (skips_map (slot_name y) (λ s. slot_edit x (ChangeOwner s None)) (lost_sets schema owner gone x) (λ s. other) (V (slot_name y)))
          ∙ ap (λ b. cond b (edited RaiseVersion (V (slot_name y))) (V (slot_name y))) other
