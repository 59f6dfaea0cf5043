-- Where the cells stand in their order: areas, record types, rings set by set, slots type by type.
use Rattle.std.proofs.Common.{◌≡◌, ℕ, zero, suc, ◌+◌, ◌*◌, ◌-◌, ◌<◌, ◌≤◌, Bool, true, false, ◌&&◌, List, [], ◌∷◌, ◌++◌, Option, Some, None, map, length, get_or, refl, sym, ap, ◌∙◌, arith, length-append, slice_get, cond}
use Rattle.std.specs.Prelude.{is_none, is_some, ◌==◌, nat_lt, nat_le, option_map, option_and_then, unwrap_or}
use Rattle.std.specs.List.{flat_map, range_with_len}
use Rattle.std.proofs.lemmas.Bool.{and_parts, ltb-true, leb-true, eqb-true}
use Rattle.std.proofs.lemmas.Option.{slice_get-map, slice_get_within}
use Rattle.std.proofs.lemmas.List.FromFn.{length-map-range_with_len}
use Rattle.dbtg_schema.specs.Lists.{Lists}
use Rattle.dbtg_schema.specs.Lookups.{some_and}
use Rattle.dbtg_schema.specs.declared.shape.SetType.{SetType}
use Rattle.dbtg_schema.specs.Structure.{is_system, owner_type, owns, set_numbers}
use Rattle.dbtg_schema.proofs.Public.{none_is}
use Rattle.dbtg_cells.specs.declared.name.CellName.{CellName}
use Rattle.dbtg_cells.specs.declared.name.CellName.TheVariants.{Usage, Extent, Ring, Slot}
use Rattle.dbtg_cells.specs.declared.numbering.Layout.{Layout}
use Rattle.dbtg_cells.specs.CellNumbers.{IsLayoutOf, cells_in_order, rings_of, slots_of, is_cell, cell_number, cell_count, place_in}
use Rattle.dbtg_cells.proofs.NumbersOfCells.{has_number, numbered_at}

-- what a list has at an index stays there when more follows
pub at_left : {X : Type 0} (xs ys : List X) (k : ℕ) (x : X) → slice_get xs k ≡ Some x → slice_get (xs ++ ys) k ≡ Some x
at_left [] ys k x e = absurd (cc)
at_left (y ∷ xs) ys zero x e = e
at_left (y ∷ xs) ys (suc k) x e = at_left xs ys k x e

at_right : {X : Type 0} (xs ys : List X) (n k : ℕ) → n ≡ length xs + k → slice_get (xs ++ ys) n ≡ slice_get ys k
at_right [] ys n k e = ap (slice_get ys) (e ∙ omega arith)
at_right (x ∷ xs) ys zero k e = absurd (omega arith)
at_right (x ∷ xs) ys (suc n) k e = at_right xs ys n k (omega arith)

in_range : (a n k : ℕ) → k < n → slice_get (range_with_len a n) k ≡ Some (a + k)
in_range a zero k l = absurd (omega arith)
in_range a (suc n) zero l = ap Some (omega arith)
in_range a (suc n) (suc k) l = in_range (a + 1) n k (omega arith) ∙ ap Some (omega arith)

-- what is made of the numbers from a on, at an index
pub mapped_in_range : {X : Type 0} (f : ℕ → X) (a n k : ℕ) → k < n → slice_get (map f (range_with_len a n)) k ≡ Some (f (a + k))
mapped_in_range f a n k l = slice_get-map f (range_with_len a n) k ∙ ap (option_map f) (in_range a n k l)

-- what stands in one part of a list that is made part by part
in_part : {X : Type 0} (f : ℕ → List X) (a n m k : ℕ) (x : X) → m < n → slice_get (f (a + m)) k ≡ Some x → slice_get (flat_map f (range_with_len a n)) (length (flat_map f (range_with_len a m)) + k) ≡ Some x
in_part f a zero m k x l e = absurd (omega arith)
in_part f a (suc n) zero k x l e =
    let here : slice_get (f a) k ≡ Some x = ap (λ b. slice_get (f b) k) (omega arith) ∙ e in
    ap (slice_get (f a ++ flat_map f (range_with_len (a + 1) n))) (omega arith) ∙ at_left (f a) (flat_map f (range_with_len (a + 1) n)) k x here
in_part f a (suc n) (suc m) k x l e =
    at_right (f a) (flat_map f (range_with_len (a + 1) n)) _ (length (flat_map f (range_with_len (a + 1) m)) + k) (ap (λ c. c + k) (length-append (f a) (flat_map f (range_with_len (a + 1) m))) ∙ omega arith)
    ∙ in_part f (a + 1) n m k x (omega arith) (ap (λ b. slice_get (f b) k) (omega arith) ∙ e)

-- the length of a list that is made of parts of one length
parts_length : {X : Type 0} (f : ℕ → List X) (c a n : ℕ) → ((t : ℕ) → length (f t) ≡ c) → length (flat_map f (range_with_len a n)) ≡ n * c
parts_length f c a zero h = omega arith
parts_length f c a (suc n) h = length-append (f a) (flat_map f (range_with_len (a + 1) n)) ∙ (λ i. h a i + parts_length f c (a + 1) n h i) ∙ grind arith

-- one part more
pub parts_more : {X : Type 0} (f : ℕ → List X) (a n : ℕ) → length (flat_map f (range_with_len a (n + 1))) ≡ length (flat_map f (range_with_len a n)) + length (f (a + n))
parts_more f a zero =
    let place : a ≡ a + 0 = omega arith in
    length-append (f a) [] ∙ (let e : length (f a) + 0 ≡ 0 + length (f a) = omega arith in e) ∙ ap (λ b. 0 + length (f b)) place
parts_more f a (suc n) =
    let more : suc n + 1 ≡ suc (n + 1) = omega arith in
    let place : (a + 1) + n ≡ a + suc n = omega arith in
    let here = length-append (f a) (flat_map f (range_with_len (a + 1) (n + 1))) in
    let there = length-append (f a) (flat_map f (range_with_len (a + 1) n)) in
    let rest : length (flat_map f (range_with_len (a + 1) (n + 1))) ≡ length (flat_map f (range_with_len (a + 1) n)) + length (f (a + suc n)) =
    parts_more f (a + 1) n ∙ ap (λ b. length (flat_map f (range_with_len (a + 1) n)) + length (f b)) place in
    let sum : length (f a ++ flat_map f (range_with_len (a + 1) (n + 1))) ≡ length (f a ++ flat_map f (range_with_len (a + 1) n)) + length (f (a + suc n)) = omega (arith, here, there, rest) in
    ap (λ m. length (flat_map f (range_with_len a m))) more ∙ sum

module _ (schema : Lists) (capacity : ℕ) where
  -- a set with an owner type has a ring for each number
  pub rings_owned : (s t : ℕ) → is_system schema s ≡ false → owner_type schema s ≡ Some t → length (rings_of schema capacity s) ≡ capacity
  rings_owned s t b o = by (is_system schema s) (owner_type schema s) b o
    where
      by : (b : Bool) (o : Option ℕ) → b ≡ false → o ≡ Some t → length (cond b (Ring s None ∷ []) (unwrap_or (option_map (λ t. map (λ n. Ring s (Some (t, n))) (range_with_len 1 capacity)) o) [])) ≡ capacity
      by true o b e = absurd (cc (b))
      by false None b e = absurd (cc (e))
      by false (Some u) b e = length-map-range_with_len (λ n. Ring s (Some (u, n))) 1 capacity

  abbrev usages : List CellName
  usages = map Usage (range_with_len 0 (length schema.areas))

  abbrev extents : List CellName
  extents = map Extent (range_with_len 0 (length schema.types))

  abbrev rings : List CellName
  rings = flat_map (rings_of schema capacity) (set_numbers schema)

  abbrev slots : List CellName
  slots = flat_map (slots_of capacity) (range_with_len 0 (length schema.types))

  behind_usages : (k : ℕ) → slice_get (cells_in_order schema capacity) (length schema.areas + k) ≡ slice_get (extents ++ (rings ++ slots)) k
  behind_usages k = at_right usages (extents ++ (rings ++ slots)) _ k (ap (λ n. n + k) (sym (length-map-range_with_len Usage 0 (length schema.areas))))

  behind_extents : (k : ℕ) → slice_get (cells_in_order schema capacity) (length schema.areas + length schema.types + k) ≡ slice_get (rings ++ slots) k
  behind_extents k =
      ap (slice_get (cells_in_order schema capacity)) (omega arith) ∙ behind_usages (length schema.types + k)
      ∙ at_right extents (rings ++ slots) _ k (ap (λ n. n + k) (sym (length-map-range_with_len Extent 0 (length schema.types))))

  behind_rings : (k : ℕ) → slice_get (cells_in_order schema capacity) (length schema.areas + length schema.types + length rings + k) ≡ slice_get slots k
  behind_rings k = ap (slice_get (cells_in_order schema capacity)) (omega arith) ∙ behind_extents (length rings + k) ∙ at_right rings slots _ k refl

  pub slots_length : (n : ℕ) → length (flat_map (slots_of capacity) (range_with_len 0 n)) ≡ n * capacity
  slots_length n = parts_length (slots_of capacity) capacity 0 n (λ t. length-map-range_with_len (Slot t) 1 capacity)

  pub how_many : cell_count schema capacity ≡ length schema.areas + length schema.types + length rings + length schema.types * capacity
  how_many =
      length-append usages (extents ++ (rings ++ slots))
      ∙ (λ i. length-map-range_with_len Usage 0 (length schema.areas) i + length-append extents (rings ++ slots) i)
      ∙ (λ i. length schema.areas + (length-map-range_with_len Extent 0 (length schema.types) i + length-append rings slots i))
      ∙ ap (λ n. length schema.areas + (length schema.types + (length rings + n))) (slots_length (length schema.types))
      ∙ omega arith

  pub no_cell : (c : CellName) → is_cell schema capacity c ≡ false → cell_number schema capacity c ≡ None
  no_cell c e = none_is (cell_number schema capacity c) (has_number schema capacity c ∙ e)

  pub usage_number : (a : ℕ) → is_cell schema capacity (Usage a) ≡ true → cell_number schema capacity (Usage a) ≡ Some a
  usage_number a e = numbered_at schema capacity a (Usage a) (at_left usages (extents ++ (rings ++ slots)) a (Usage a) (mapped_in_range Usage 0 (length schema.areas) a (ltb-true _ _ e) ∙ ap (λ b. Some (Usage b)) (omega arith)))

  pub extent_number : (t : ℕ) → is_cell schema capacity (Extent t) ≡ true → cell_number schema capacity (Extent t) ≡ Some (length schema.areas + t)
  extent_number t e = numbered_at schema capacity _ (Extent t) (behind_usages t ∙ at_left extents (rings ++ slots) t (Extent t) (mapped_in_range Extent 0 (length schema.types) t (ltb-true _ _ e) ∙ ap (λ b. Some (Extent b)) (omega arith)))

  in_rings : (s k : ℕ) (c : CellName) → s < length schema.sets → slice_get (rings_of schema capacity s) k ≡ Some c → cell_number schema capacity c ≡ Some (length schema.areas + length schema.types + (length (flat_map (rings_of schema capacity) (range_with_len 0 s)) + k))
  in_rings s k c l e =
      numbered_at schema capacity _ c (behind_extents _ ∙ at_left rings slots _ c (in_part (rings_of schema capacity) 0 (length schema.sets) s k c l (ap (λ b. slice_get (rings_of schema capacity b) k) (omega arith) ∙ e)))

  system_there : (s : ℕ) → is_system schema s ≡ true → s < length schema.sets
  system_there s e = by (slice_get schema.sets s) refl e
    where
      by : (o : Option SetType) → slice_get schema.sets s ≡ o → some_and (λ set. is_none set.owner) o ≡ true → s < length schema.sets
      by None h e = absurd (cc (e))
      by (Some set) h e = slice_get_within schema.sets s set h

  owned_there : (s t : ℕ) → owns schema s t ≡ true → (s < length schema.sets) × (is_system schema s ≡ false) × (owner_type schema s ≡ Some t)
  owned_there s t e = by (slice_get schema.sets s) refl e
    where
      owner_is : (o : Option ℕ) → some_and (λ owner. owner == t) o ≡ true → (is_none o ≡ false) × (o ≡ Some t)
      owner_is None e = absurd (cc (e))
      owner_is (Some u) e = (refl, ap Some (eqb-true u t e))

      by : (o : Option SetType) → slice_get schema.sets s ≡ o → some_and (λ owner. owner == t) (option_and_then (λ set. set.owner) o) ≡ true → (s < length schema.sets) × (some_and (λ set. is_none set.owner) (slice_get schema.sets s) ≡ false) × (option_and_then (λ set. set.owner) (slice_get schema.sets s) ≡ Some t)
      by None h e = absurd (cc (e))
      by (Some set) h e =
          let o = owner_is set.owner e in
          (slice_get_within schema.sets s set h, ap (some_and (λ (x : SetType). is_none x.owner)) h ∙ o.0, ap (option_and_then (λ (x : SetType). x.owner)) h ∙ o.1)

  pub system_ring_number : (s : ℕ) → is_cell schema capacity (Ring s None) ≡ true → cell_number schema capacity (Ring s None) ≡ Some (length schema.areas + length schema.types + length (flat_map (rings_of schema capacity) (range_with_len 0 s)))
  system_ring_number s e =
      in_rings s 0 (Ring s None) (system_there s e) (ap (λ b. slice_get (cond b (Ring s None ∷ []) (unwrap_or (option_map (λ t. map (λ n. Ring s (Some (t, n))) (range_with_len 1 capacity)) (owner_type schema s)) [])) 0) e)
      ∙ ap Some (omega arith)

  -- a number from 1 to the capacity
  numbered : (n : ℕ) → nat_lt 0 n && nat_le n capacity ≡ true → (0 < n) × (n ≤ capacity)
  numbered n e = let p = and_parts _ _ e in (ltb-true _ _ p.0, leb-true _ _ p.1)

  pub ring_number : (s t n : ℕ) → is_cell schema capacity (Ring s (Some (t, n))) ≡ true → cell_number schema capacity (Ring s (Some (t, n))) ≡ Some (length schema.areas + length schema.types + length (flat_map (rings_of schema capacity) (range_with_len 0 s)) + (n - 1))
  ring_number s t n e =
      let there = owned_there s t (and_parts _ _ e).0 in
      let low : 0 < n = (numbered n (and_parts (owns schema s t) (nat_lt 0 n && nat_le n capacity) e).1).0 in
      let high : n ≤ capacity = (numbered n (and_parts (owns schema s t) (nat_lt 0 n && nat_le n capacity) e).1).1 in
      in_rings s (n - 1) (Ring s (Some (t, n))) there.0 (by (is_system schema s) (owner_type schema s) there.1 there.2 low high) ∙ ap Some (omega arith)
    where
      by : (b : Bool) (o : Option ℕ) → b ≡ false → o ≡ Some t → 0 < n → n ≤ capacity → slice_get (cond b (Ring s None ∷ []) (unwrap_or (option_map (λ t. map (λ n. Ring s (Some (t, n))) (range_with_len 1 capacity)) o) [])) (n - 1) ≡ Some (Ring s (Some (t, n)))
      by true o b e low high = absurd (cc (b))
      by false None b e low high = absurd (cc (e))
      by false (Some u) b e low high =
          let same : u ≡ t = cc (e) in
          mapped_in_range (λ m. Ring s (Some (u, m))) 1 capacity (n - 1) (omega arith)
          ∙ (λ i. Some (Ring s (Some (same i, (let back : 1 + (n - 1) ≡ n = omega arith in back) i))))

  pub slot_number : (t n : ℕ) → is_cell schema capacity (Slot t n) ≡ true → cell_number schema capacity (Slot t n) ≡ Some (length schema.areas + length schema.types + length rings + t * capacity + (n - 1))
  slot_number t n e =
      let l : t < length schema.types = ltb-true _ _ (and_parts _ _ e).0 in
      let low : 0 < n = (numbered n (and_parts (nat_lt t (length schema.types)) (nat_lt 0 n && nat_le n capacity) e).1).0 in
      let high : n ≤ capacity = (numbered n (and_parts (nat_lt t (length schema.types)) (nat_lt 0 n && nat_le n capacity) e).1).1 in
      let here : slice_get (slots_of capacity (0 + t)) (n - 1) ≡ Some (Slot t n) =
      mapped_in_range (Slot (0 + t)) 1 capacity (n - 1) (omega arith) ∙ (λ i. Some (Slot ((let zero_and : 0 + t ≡ t = omega arith in zero_and) i) ((let back : 1 + (n - 1) ≡ n = omega arith in back) i))) in
      numbered_at schema capacity _ (Slot t n) (behind_rings _ ∙ in_part (slots_of capacity) 0 (length schema.types) t (n - 1) (Slot t n) l here)
      ∙ ap Some (ap (λ m. length schema.areas + length schema.types + length rings + (m + (n - 1))) (slots_length t) ∙ omega arith)

-- a layout with the numbers of the first cells of each kind puts each cell at its number
pub laid_out : (schema : Lists) (capacity : ℕ) (layout : Layout) → layout.areas ≡ length schema.areas → layout.capacity ≡ capacity
    → layout.first_slot ≡ length schema.areas + length schema.types + length (rings schema capacity)
    → ((s : ℕ) → s < length schema.sets → get_or layout.ring_starts s 0 ≡ length schema.areas + length schema.types + length (flat_map (rings_of schema capacity) (range_with_len 0 s)))
    → IsLayoutOf schema capacity layout
laid_out schema capacity layout areas wide slot firsts c n e = at c (sym (has_number schema capacity c) ∙ ap is_some e) e
  where
    same : {p q : ℕ} (o : Option ℕ) → o ≡ Some p → o ≡ Some q → p ≡ q
    same o a b = cc (a, b)

    at : (c : CellName) → is_cell schema capacity c ≡ true → cell_number schema capacity c ≡ Some n → place_in layout c ≡ n
    at (Usage a) is e = same (cell_number schema capacity (Usage a)) (usage_number schema capacity a is) e
    at (Extent t) is e = ap (λ k. k + t) areas ∙ same (cell_number schema capacity (Extent t)) (extent_number schema capacity t is) e
    at (Ring s None) is e = firsts s (system_there schema capacity s is) ∙ same (cell_number schema capacity (Ring s None)) (system_ring_number schema capacity s is) e
    at (Ring s (Some owner)) is e =
        ap (λ k. k + (owner.1 - 1)) (firsts s (owned_there schema capacity s owner.0 (and_parts _ _ is).0).0)
        ∙ same (cell_number schema capacity (Ring s (Some owner))) (ring_number schema capacity s owner.0 owner.1 is) e
    at (Slot t m) is e =
        (λ i. slot i + t * wide i + (m - 1))
        ∙ same (cell_number schema capacity (Slot t m)) (slot_number schema capacity t m is) e
