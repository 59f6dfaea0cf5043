-- The value of a cell after edits of one kind.
use Rattle.std.proofs.Common.{◌⊎◌, ◌≡◌, refl, sym, ◌∙◌, ap, ℕ, ◌≤◌, arith, Bool, true, false, cond, not, ◌&&◌, ◌||◌, List, [], ◌∷◌, ◌++◌, Option, Some, None, eqb, inl, inr, map}
use Rattle.std.specs.Prelude.{filter, option_map, slice_set}
use Rattle.std.specs.List.{list_any, flat_map, range_with_len}
use Rattle.std.proofs.lemmas.Bool.{and_from, and_parts, and_right, cases_Bool, eq-eqb, eqb-true, false_from_ne_true, false≢true, not-true}
use Rattle.dbtg_schema.specs.Lookups.{some_and}
use Rattle.dbtg_cells.specs.declared.extent.Number.{Number}
use Rattle.dbtg_cells.specs.declared.key.DbKey.{DbKey}
use Rattle.dbtg_cells.specs.declared.key.Owner.{Owner}
use Rattle.dbtg_cells.specs.declared.key.Value.{Value}
use Rattle.dbtg_cells.specs.declared.name.CellName.{CellName}
use Rattle.dbtg_cells.specs.declared.name.CellName.TheVariants.{Extent, Ring}
use Rattle.dbtg_cells.specs.declared.ring.Occurrence.{Occurrence}
use Rattle.dbtg_cells.specs.declared.slot.Stored.{Stored}
use Rattle.dbtg_cells.specs.Keys.{is_member, key_eq}
use Rattle.dbtg_cells.specs.Names.{name_eq}
use Rattle.dbtg_cells.specs.Shown.{CellValue, ExtentValue, RingValue, SlotValue}
use Rattle.dbtg_cells.proofs.Public.{same_key}
use Rattle.dbtg_unit.specs.declared.edit.CellEdit.{CellEdit}
use Rattle.dbtg_unit.specs.declared.edit.Edit.TheVariants.{ChangeOwner, CloseRing, TakeOut, Vacate}
use Rattle.dbtg_unit.specs.Database.State.CellNames.{place_of, slot_name}
use Rattle.dbtg_unit.specs.Hands.Edits.{edited, edited_at, members_without, vacated, with_members, with_number}
use Rattle.dbtg_unit.specs.Hands.EditsOf.{leave_number, ring_edits, slot_edit}
use Rattle.dbtg_unit.specs.Database.State.Legal.{differ, pairwise}
use Rattle.dbtg_unit.proofs.Hands.Changes.EditsInTurn.{edited_at_append, has_number}
use Rattle.dbtg_unit.proofs.Lists.Membership.{In, all_at}
use Rattle.dbtg_unit.proofs.Hands.Changes.RangeMaps.{map_range_changed, map_range_same, map_range_set}

-- EDITS OF OTHER CELLS

-- the edits leave the cell as it is
abbrev pub Skips : CellName → List CellEdit → Type 0
Skips c edits = (v : CellValue) → edited_at c edits v ≡ v

pub skips_map : {X : Type 0} (c : CellName) (f : X → CellEdit) (xs : List X) → ((x : X) → name_eq c (f x).name ≡ false) → Skips c (map f xs)
skips_map c f [] h v = refl
skips_map c f (x ∷ xs) h v = ap (λ b. edited_at c (map f xs) (cond b (edited (f x).edit v) v)) (h x) ∙ skips_map c f xs h v

pub skips_flat : {X : Type 0} (c : CellName) (f : X → List CellEdit) (xs : List X) → ((x : X) → In x xs → Skips c (f x)) → Skips c (flat_map f xs)
skips_flat c f [] h v = refl
skips_flat c f (x ∷ xs) h v = edited_at_append c (f x) (flat_map f xs) v ∙ ap (edited_at c (flat_map f xs)) (h x (inl refl) v) ∙ skips_flat c f xs (λ y i. h y (inr i)) v

-- edits key by key, of which only those of x are of this cell
pub edits_of_one : (c : CellName) (f : DbKey → List CellEdit) (ks : List DbKey) (x : DbKey) (v : CellValue) → pairwise differ ks ≡ true → is_member x ks ≡ true
    → ((y : DbKey) → In y ks → key_eq x y ≡ false → Skips c (f y)) → edited_at c (flat_map f ks) v ≡ edited_at c (f x) v
edits_of_one c f [] x v once has others = absurd (false≢true has)
edits_of_one c f (y ∷ ks) x v once has others =
    let ones = and_parts _ _ once in
    edited_at_append c (f y) (flat_map f ks) v
    ∙ elim (cases_Bool (key_eq x y)) [
      | inl e ↦
          let here = same_key x y e in
          skips_flat c f ks (λ z i. others z (inr i) (ap (λ (k : DbKey). key_eq k z) here ∙ not-true _ (all_at (differ y) z ks ones.0 i))) (edited_at c (f y) v)
          ∙ ap (λ (z : DbKey). edited_at c (f z) v) (sym here)
      | inr e ↦
          ap (edited_at c (flat_map f ks)) (others y (inl refl) e v)
          ∙ edits_of_one c f ks x v ones.1 (sym (ap (λ b. b || is_member x ks) e) ∙ has) (λ z i. others z (inr i))
    ]

-- NUMBERS THAT ARE LEFT

-- d has number n of type t
abbrev pub is_of_number : ℕ → ℕ → DbKey → Bool
is_of_number t n d = eqb t d.rtype && eqb n d.number

twice_vacated : (a b : Bool) (x : Number) → cond b (vacated (cond a (vacated x) x)) (cond a (vacated x) x) ≡ cond (a || b) (vacated x) x
twice_vacated true true x = refl
twice_vacated true false x = refl
twice_vacated false true x = refl
twice_vacated false false x = refl

pub numbers_left : (t count : ℕ) (ds : List DbKey) (f : ℕ → Number) → ((d : DbKey) → In d ds → 1 ≤ d.number)
    → edited_at (Extent t) (map leave_number ds) (ExtentValue (map f (range_with_len 1 count)))
    ≡ ExtentValue (map (λ n. cond (list_any (is_of_number t n) ds) (vacated (f n)) (f n)) (range_with_len 1 count))
numbers_left t count [] f above = refl
numbers_left t count (d ∷ ds) f above =
    ap (edited_at (Extent t) (map leave_number ds)) (first (cases_Bool (eqb t d.rtype)))
    ∙ numbers_left t count ds after (λ x i. above x (inr i))
    ∙ ap ExtentValue (map_range_same _ _ 1 count (λ n low. twice_vacated (is_of_number t n d) (list_any (is_of_number t n) ds) (f n))) where
      after : ℕ → Number
      after n = cond (is_of_number t n d) (vacated (f n)) (f n)

      first : (eqb t d.rtype ≡ true) ⊎ (eqb t d.rtype ≡ false)
          → cond (eqb t d.rtype) (ExtentValue (with_number d.number vacated (map f (range_with_len 1 count)))) (ExtentValue (map f (range_with_len 1 count))) ≡ ExtentValue (map after (range_with_len 1 count))
      first (inl e) =
          ap (λ b. cond b (ExtentValue (with_number d.number vacated (map f (range_with_len 1 count)))) (ExtentValue (map f (range_with_len 1 count)))) e
          ∙ ap ExtentValue (sym (map_range_changed after f vacated 1 count d.number d.number (omega arith) (above d (inl refl))
          (ap (λ b. cond b (vacated (f d.number)) (f d.number)) (and_from _ _ e (eq-eqb d.number d.number refl)))
          (λ j other. ap (λ b. cond b (vacated (f j)) (f j)) (and_right (eqb t d.rtype) (eqb j d.number) (false_from_ne_true _ (λ h. other (eqb-true j d.number h)))))))
      first (inr e) =
          ap (λ b. cond b (ExtentValue (with_number d.number vacated (map f (range_with_len 1 count)))) (ExtentValue (map f (range_with_len 1 count)))) e
          ∙ ap ExtentValue (map_range_same f after 1 count (λ j low. sym (ap (λ b. cond (b && eqb j d.number) (vacated (f j)) (f j)) e)))

-- MEMBERS THAT ARE TAKEN OUT

-- a test that all pass keeps all
pub filter_all : {X : Type 0} (xs : List X) → filter (λ x. true) xs ≡ xs
filter_all [] = refl
filter_all (x ∷ xs) = ap (λ ys. x ∷ ys) (filter_all xs)

filter_twice : {X : Type 0} (p q : X → Bool) (xs : List X) → filter (λ x. not (q x)) (filter (λ x. not (p x)) xs) ≡ filter (λ x. not (p x || q x)) xs
filter_twice p q [] = refl
filter_twice p q (x ∷ xs) =
    elim (p x) as (λ b. filter (λ x. not (q x)) (cond (not b) (x ∷ filter (λ x. not (p x)) xs) (filter (λ x. not (p x)) xs)) ≡ cond (not (b || q x)) (x ∷ filter (λ x. not (p x || q x)) xs) (filter (λ x. not (p x || q x)) xs)) [
      | true ↦ filter_twice p q xs
      | false ↦ ap (λ ys. cond (not (q x)) (x ∷ ys) ys) (filter_twice p q xs)
    ]

-- the edits take out the members of the cell's occurrence that pass
abbrev pub Thins : CellName → List CellEdit → (DbKey → Bool) → Type 0
Thins c edits out = (o : Option Occurrence) → edited_at c edits (RingValue o) ≡ RingValue (option_map (with_members (filter (λ m. not (out m.0)))) o)

pub thins_none : (c : CellName) (edits : List CellEdit) → Skips c edits → Thins c edits (λ k. false)
thins_none c edits skips o = skips (RingValue o) ∙ ap RingValue (all_stay o) where
  all_stay : (o : Option Occurrence) → o ≡ option_map (with_members (filter (λ m. true))) o
  all_stay None = refl
  all_stay (Some r) = λ i. Some (record { owner = r.owner; members = sym (filter_all r.members) i })

thins_append : (c : CellName) (xs ys : List CellEdit) (p q : DbKey → Bool) → Thins c xs p → Thins c ys q → Thins c (xs ++ ys) (λ k. p k || q k)
thins_append c xs ys p q h g o = edited_at_append c xs ys (RingValue o) ∙ ap (edited_at c ys) (h o) ∙ g _ ∙ ap RingValue (twice o) where
  twice : (o : Option Occurrence) → option_map (with_members (filter (λ m. not (q m.0)))) (option_map (with_members (filter (λ m. not (p m.0)))) o) ≡ option_map (with_members (filter (λ m. not (p m.0 || q m.0)))) o
  twice None = refl
  twice (Some r) = λ i. Some (record { owner = r.owner; members = filter_twice (λ (m : DbKey × Option Value). p m.0) (λ m. q m.0) r.members i })

pub thins_flat : {X : Type 0} (c : CellName) (f : X → List CellEdit) (out : X → DbKey → Bool) (xs : List X) → ((x : X) → Thins c (f x) (out x)) → Thins c (flat_map f xs) (λ k. list_any (λ x. out x k) xs)
thins_flat c f out [] h = thins_none c [] (λ v. refl)
thins_flat c f out (x ∷ xs) h = thins_append c (f x) (flat_map f xs) (out x) (λ k. list_any (λ y. out y k) xs) (h x) (thins_flat c f out xs h)

pub thins_ring : (c : CellName) (s : ℕ) (d : DbKey) (o : Option Owner) → Thins c (ring_edits s o (TakeOut d ∷ [])) (λ k. some_and (λ p. name_eq c (Ring s (place_of p)) && key_eq d k) o)
thins_ring c s d None = thins_none c [] (λ v. refl)
thins_ring c s d (Some p) = λ r.
    elim (name_eq c (Ring s (place_of p))) as (λ b. cond b (RingValue (option_map (with_members (members_without d)) r)) (RingValue r) ≡ RingValue (option_map (with_members (filter (λ m. not (b && key_eq d m.0)))) r)) [
      | true ↦ refl
      | false ↦ thins_none c [] (λ v. refl) r
    ]

-- OCCURRENCES THAT ARE CLOSED, AND SLOTS THAT ARE VACATED

none_twice : {X : Type 0} (a b : Bool) (o : Option X) → cond b None (cond a None o) ≡ cond (a || b) None o
none_twice true true o = refl
none_twice true false o = refl
none_twice false true o = refl
none_twice false false o = refl

-- the edits close the occurrence in the cell, if they hit it
abbrev pub Closes : CellName → List CellEdit → Bool → Type 0
Closes c edits hit = (o : Option Occurrence) → edited_at c edits (RingValue o) ≡ RingValue (cond hit None o)

pub closes_map : {X : Type 0} (c : CellName) (name : X → CellName) (xs : List X) → Closes c (map (λ x. record { name = name x; edit = CloseRing }) xs) (list_any (λ x. name_eq c (name x)) xs)
closes_map c name [] o = refl
closes_map c name (x ∷ xs) o =
    elim (name_eq c (name x)) as (λ b. edited_at c (map (λ x. record { name = name x; edit = CloseRing }) xs) (cond b (RingValue None) (RingValue o)) ≡ RingValue (cond (b || list_any (λ x. name_eq c (name x)) xs) None o)) [
      | true ↦ closes_map c name xs None ∙ ap RingValue (none_twice true (list_any (λ x. name_eq c (name x)) xs) o)
      | false ↦ closes_map c name xs o
    ]

pub closes_flat : {X : Type 0} (c : CellName) (f : X → List CellEdit) (hit : X → Bool) (xs : List X) → ((x : X) → Closes c (f x) (hit x)) → Closes c (flat_map f xs) (list_any hit xs)
closes_flat c f hit [] h o = refl
closes_flat c f hit (x ∷ xs) h o =
    edited_at_append c (f x) (flat_map f xs) (RingValue o) ∙ ap (edited_at c (flat_map f xs)) (h x o) ∙ closes_flat c f hit xs h (cond (hit x) None o)
    ∙ ap RingValue (none_twice (hit x) (list_any hit xs) o)

pub slots_vacated : (c : CellName) (ds : List DbKey) (o : Option Stored) → edited_at c (map (λ d. slot_edit d Vacate) ds) (SlotValue o) ≡ SlotValue (cond (list_any (λ d. name_eq c (slot_name d)) ds) None o)
slots_vacated c [] o = refl
slots_vacated c (d ∷ ds) o =
    elim (name_eq c (slot_name d)) as (λ b. edited_at c (map (λ d. slot_edit d Vacate) ds) (cond b (SlotValue None) (SlotValue o)) ≡ SlotValue (cond (b || list_any (λ d. name_eq c (slot_name d)) ds) None o)) [
      | true ↦ slots_vacated c ds None ∙ ap SlotValue (none_twice true (list_any (λ d. name_eq c (slot_name d)) ds) o)
      | false ↦ slots_vacated c ds o
    ]

-- OWNERS THAT ARE LOST

-- a stored record with these owners
abbrev pub with_owners : List (Option Owner) → Stored → Stored
with_owners owners r = record { generation = r.generation; version = r.version; items = r.items; owners = owners }

pub owners_lost : (c : CellName) (x : DbKey) → name_eq c (slot_name x) ≡ true → (r : Stored) (count : ℕ) (ss : List ℕ) (f : ℕ → Option Owner)
    → edited_at c (map (λ s. slot_edit x (ChangeOwner s None)) ss) (SlotValue (Some (with_owners (map f (range_with_len 0 count)) r)))
    ≡ SlotValue (Some (with_owners (map (λ s. cond (has_number s ss) None (f s)) (range_with_len 0 count)) r))
owners_lost c x here r count [] f = refl
owners_lost c x here r count (s ∷ ss) f =
    ap (λ b. edited_at c rest (cond b (SlotValue (Some (with_owners (slice_set (map f (range_with_len 0 count)) s None) r))) (SlotValue (Some (with_owners (map f (range_with_len 0 count)) r))))) here
    ∙ (λ i. edited_at c rest (SlotValue (Some (with_owners (sym set_is i) r))))
    ∙ owners_lost c x here r count ss after
    ∙ (λ i. SlotValue (Some (with_owners (map_range_same _ _ 0 count (λ n low. none_twice (eqb s n) (has_number n ss) (f n)) i) r))) where
      rest : List CellEdit
      rest = map (λ s. slot_edit x (ChangeOwner s None)) ss

      after : ℕ → Option Owner
      after n = cond (eqb s n) None (f n)

      set_is : map after (range_with_len 0 count) ≡ slice_set (map f (range_with_len 0 count)) s None
      set_is =
          map_range_set after f None 0 count s s (omega arith) (ap (λ b. cond b None (f s)) (eq-eqb s s refl))
          (λ j other. ap (λ b. cond b None (f j)) (false_from_ne_true _ (λ h. other (sym (eqb-true s j h)))))
