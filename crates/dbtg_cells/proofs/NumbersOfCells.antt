-- The numbering of cells.
use Rattle.std.proofs.Common.{◌≡◌, ◌==◌, ◌+◌, ℕ, zero, suc, Bool, true, false, not, cond, ◌&&◌, ◌||◌, List, [], ◌∷◌, ◌++◌, Option, Some, None, map, length, get_or, slice_get, refl, sym, ap, ◌∙◌, ◌<◌, arith, true≢false}
use Rattle.std.specs.Prelude.{position, is_some, is_none, nat_lt, nat_le, option_map, option_and_then, unwrap_or}
use Rattle.std.specs.List.{list_any, flat_map, range_with_len, position_or_len}
use Rattle.std.proofs.lemmas.Bool.Decides.{nat_tests}
use Rattle.std.proofs.lemmas.List.Quantifiers.{position-Some}
use Rattle.std.proofs.lemmas.Option.{slice_get-get_or, none-some, same_Some}
use Rattle.std.proofs.lemmas.Map.Keys.{any_passes_from_place}
use Rattle.dbtg_schema.specs.Lists.{Lists}
use Rattle.dbtg_schema.specs.Lookups.{some_and}
use Rattle.dbtg_schema.specs.Structure.{is_system, owner_type, owns, set_numbers}
use Rattle.dbtg_schema.proofs.Public.{any_same}
use Rattle.dbtg_cells.specs.declared.name.CellName.{CellName}
use Rattle.dbtg_cells.specs.declared.name.CellName.TheVariants.{Usage, Extent, Ring, Slot}
use Rattle.dbtg_cells.specs.Names.{name_eq}
use Rattle.dbtg_cells.specs.CellNumbers.{cells_in_order, rings_of, slots_of, is_cell, cell_number}
use Rattle.dbtg_cells.proofs.KeysAlike.{name_eq_refl, same_name}
use Rattle.dbtg_cells.proofs.PlainLists.{any_map}

-- a name stands at the place where it is found
pub stands_at : (c : CellName) (cells : List CellName) (n : ℕ) → position (name_eq c) cells ≡ Some n → slice_get cells n ≡ Some c
stands_at c cells n e =
    let at = position-Some (name_eq c) cells n c e in
    slice_get-get_or cells n c at.0 ∙ ap Some (sym (same_name c (get_or cells n c) at.1))

lt_suc : (m n : ℕ) → nat_lt (1 + m) (suc n) ≡ nat_lt m n
lt_suc m n = grind (arith, nat_tests)

lt_zero : (n : ℕ) → nat_lt 0 (suc n) ≡ true
lt_zero n = grind (arith, nat_tests)

-- a test or nothing else is the test
pub or_nothing : (b : Bool) → b || false ≡ b
or_nothing true = refl
or_nothing false = refl

and_nothing : (b : Bool) → b && false ≡ false
and_nothing true = refl
and_nothing false = refl

module _ {X : Type 0} (p : X → Bool) where
  within_any : (xs : List X) → nat_lt (position_or_len p xs) (length xs) ≡ list_any p xs
  within_any [] = refl
  within_any (x ∷ xs) = by (p x) (within_any xs)
    where
      by : (b : Bool) → nat_lt (position_or_len p xs) (length xs) ≡ list_any p xs → nat_lt (cond (not b) (1 + position_or_len p xs) 0) (length (x ∷ xs)) ≡ b || list_any p xs
      by true rest = lt_zero (length xs)
      by false rest = lt_suc (position_or_len p xs) (length xs) ∙ rest

  position_any : (xs : List X) → is_some (position p xs) ≡ list_any p xs
  position_any xs = by (nat_lt (position_or_len p xs) (length xs)) ∙ within_any xs
    where
      by : (b : Bool) → is_some (cond b (Some (position_or_len p xs)) None) ≡ b
      by true = refl
      by false = refl

  any_append : (xs ys : List X) → list_any p (xs ++ ys) ≡ list_any p xs || list_any p ys
  any_append [] ys = refl
  any_append (x ∷ xs) ys = by (p x) (any_append xs ys)
    where
      by : (b : Bool) → list_any p (xs ++ ys) ≡ list_any p xs || list_any p ys → b || list_any p (xs ++ ys) ≡ (b || list_any p xs) || list_any p ys
      by true rest = refl
      by false rest = rest

  any_flat : (f : ℕ → List X) (ns : List ℕ) → list_any p (flat_map f ns) ≡ list_any (λ n. list_any p (f n)) ns
  any_flat f [] = refl
  any_flat f (n ∷ ns) = any_append (f n) (flat_map f ns) ∙ ap (λ b. list_any p (f n) || b) (any_flat f ns)

any_none : (p : ℕ → Bool) (ns : List ℕ) → ((n : ℕ) → p n ≡ false) → list_any p ns ≡ false
any_none p [] none = refl
any_none p (n ∷ ns) none = λ i. none n i || any_none p ns none i

any_and : (b : Bool) (p : ℕ → Bool) (ns : List ℕ) → list_any (λ n. b && p n) ns ≡ b && list_any p ns
any_and true p ns = refl
any_and false p ns = any_none (λ n. false) ns (λ n. refl)

any_in_range : (q a n : ℕ) → list_any (λ x. q == x) (range_with_len a n) ≡ nat_le a q && nat_lt q (a + n)
any_in_range q a zero = grind (arith, nat_tests)
any_in_range q a (suc n) = ap (λ b. (q == a) || b) (any_in_range q (a + 1) n) ∙ grind (arith, nat_tests)

any_below : (q n : ℕ) → list_any (λ x. q == x) (range_with_len 0 n) ≡ nat_lt q n
any_below q n = any_in_range q 0 n ∙ grind (arith, nat_tests)

any_numbered : (q n : ℕ) → list_any (λ x. q == x) (range_with_len 1 n) ≡ nat_lt 0 q && nat_le q n
any_numbered q n = any_in_range q 1 n ∙ grind (arith, nat_tests)

any_chosen : (q : ℕ) (p : ℕ → Bool) (ns : List ℕ) → list_any (λ n. (q == n) && p n) ns ≡ list_any (λ n. q == n) ns && p q
any_chosen q p [] = refl
any_chosen q p (n ∷ ns) = ap (λ b. ((q == n) && p n) || b) (any_chosen q p ns) ∙ by (q == n) refl
  where
    by : (b : Bool) → (q == n) ≡ b → (b && p n) || (list_any (λ n. q == n) ns && p q) ≡ (b || list_any (λ n. q == n) ns) && p q
    by true e = let same : q ≡ n = grind (arith, nat_tests) in ap (λ z. p z || (list_any (λ n. q == n) ns && p q)) (sym same) ∙ absorbed (p q) _
      where
        absorbed : (b c : Bool) → b || (c && b) ≡ b
        absorbed true c = refl
        absorbed false c = and_nothing c
    by false e = refl

none_mapped : (c : CellName) (f : ℕ → CellName) (ns : List ℕ) → ((n : ℕ) → name_eq c (f n) ≡ false) → list_any (name_eq c) (map f ns) ≡ false
none_mapped c f ns none = any_map f (name_eq c) ns ∙ any_none (λ n. name_eq c (f n)) ns none

none_flat : (c : CellName) (f : ℕ → List CellName) (ns : List ℕ) → ((n : ℕ) → list_any (name_eq c) (f n) ≡ false) → list_any (name_eq c) (flat_map f ns) ≡ false
none_flat c f ns none = any_flat (name_eq c) f ns ∙ any_none (λ n. list_any (name_eq c) (f n)) ns none

within : {X : Type 0} (p : Option X → Bool) → p None ≡ false → (s : ℕ) (xs : List X) → nat_lt s (length xs) && p (slice_get xs s) ≡ p (slice_get xs s)
within p none s [] = ap (λ b. nat_lt s 0 && b) none ∙ and_nothing (nat_lt s 0) ∙ sym none
within p none zero (x ∷ xs) = ap (λ b. b && p (Some x)) (lt_zero (length xs))
within p none (suc s) (x ∷ xs) =
    let on : nat_lt (suc s) (suc (length xs)) ≡ nat_lt s (length xs) = grind (arith, nat_tests) in
    ap (λ b. b && p (slice_get xs s)) on ∙ within p none s xs

module _ (schema : Lists) (capacity : ℕ) where
  no_ring : (c : CellName) → ((s : ℕ) (o : Option (ℕ × ℕ)) → name_eq c (Ring s o) ≡ false) → (s : ℕ) → list_any (name_eq c) (rings_of schema capacity s) ≡ false
  no_ring c none s = by (is_system schema s) (owner_type schema s)
    where
      by : (b : Bool) (o : Option ℕ) → list_any (name_eq c) (cond b (Ring s None ∷ []) (unwrap_or (option_map (λ t. map (λ n. Ring s (Some (t, n))) (range_with_len 1 capacity)) o) [])) ≡ false
      by true o = ap (λ b. b || false) (none s None)
      by false None = refl
      by false (Some t) = none_mapped c (λ n. Ring s (Some (t, n))) (range_with_len 1 capacity) (λ n. none s (Some (t, n)))

  system_ring : (s t : ℕ) → list_any (name_eq (Ring s None)) (rings_of schema capacity t) ≡ (s == t) && is_system schema t
  system_ring s t = by (is_system schema t) (owner_type schema t)
    where
      by : (b : Bool) (o : Option ℕ) → list_any (name_eq (Ring s None)) (cond b (Ring t None ∷ []) (unwrap_or (option_map (λ u. map (λ n. Ring t (Some (u, n))) (range_with_len 1 capacity)) o) [])) ≡ (s == t) && b
      by true o = or_nothing ((s == t) && true)
      by false None = sym (and_nothing (s == t))
      by false (Some u) = none_mapped (Ring s None) (λ n. Ring t (Some (u, n))) (range_with_len 1 capacity) (λ n. and_nothing (s == t)) ∙ sym (and_nothing (s == t))

  owned_ring : (s t : ℕ) (p : ℕ × ℕ) → list_any (name_eq (Ring s (Some p))) (rings_of schema capacity t) ≡ (s == t) && (owns schema t p.0 && (nat_lt 0 p.1 && nat_le p.1 capacity))
  owned_ring s t p = by (λ set. set.owner) (slice_get schema.sets t)
    where
      here : Bool
      here = nat_lt 0 p.1 && nat_le p.1 capacity

      listed : (o : Option ℕ) → list_any (name_eq (Ring s (Some p))) (cond (is_none o) (Ring t None ∷ []) (unwrap_or (option_map (λ u. map (λ n. Ring t (Some (u, n))) (range_with_len 1 capacity)) o) [])) ≡ (s == t) && (some_and (λ u. u == p.0) o && here)
      listed None = or_nothing ((s == t) && false)
      listed (Some u) =
          let turned : (p.0 == u) ≡ (u == p.0) = grind (arith, nat_tests) in
          any_map (λ n. Ring t (Some (u, n))) (name_eq (Ring s (Some p))) (range_with_len 1 capacity)
          ∙ any_and (s == t) (λ n. (p.0 == u) && (p.1 == n)) (range_with_len 1 capacity)
          ∙ ap (λ b. (s == t) && b) (any_and (p.0 == u) (λ n. p.1 == n) (range_with_len 1 capacity) ∙ (λ i. turned i && any_numbered p.1 capacity i))

      by : {X : Type 0} (owner : X → Option ℕ) (g : Option X) → list_any (name_eq (Ring s (Some p))) (cond (some_and (λ x. is_none (owner x)) g) (Ring t None ∷ []) (unwrap_or (option_map (λ u. map (λ n. Ring t (Some (u, n))) (range_with_len 1 capacity)) (option_and_then owner g)) [])) ≡ (s == t) && (some_and (λ u. u == p.0) (option_and_then owner g) && here)
      by owner None = sym (and_nothing (s == t))
      by owner (Some x) = listed (owner x)

  slot_any : (t n u : ℕ) → list_any (name_eq (Slot t n)) (slots_of capacity u) ≡ (t == u) && (nat_lt 0 n && nat_le n capacity)
  slot_any t n u =
      any_map (Slot u) (name_eq (Slot t n)) (range_with_len 1 capacity)
      ∙ any_and (t == u) (λ m. n == m) (range_with_len 1 capacity)
      ∙ ap (λ b. (t == u) && b) (any_numbered n capacity)

  abbrev areas : List ℕ
  areas = range_with_len 0 (length schema.areas)

  abbrev types : List ℕ
  types = range_with_len 0 (length schema.types)

  parts : (c : CellName) (a b d e : Bool) → list_any (name_eq c) (map Usage areas) ≡ a → list_any (name_eq c) (map Extent types) ≡ b → list_any (name_eq c) (flat_map (rings_of schema capacity) (set_numbers schema)) ≡ d → list_any (name_eq c) (flat_map (slots_of capacity) types) ≡ e → list_any (name_eq c) (cells_in_order schema capacity) ≡ a || (b || (d || e))
  parts c a b d e usage extent ring slot =
      any_append (name_eq c) (map Usage areas) _
      ∙ (λ i. usage i || (any_append (name_eq c) (map Extent types) _ ∙ (λ j. extent j || (any_append (name_eq c) (flat_map (rings_of schema capacity) (set_numbers schema)) (flat_map (slots_of capacity) types) ∙ (λ k. ring k || slot k)) j)) i)

  no_slot : (c : CellName) → ((t n : ℕ) → name_eq c (Slot t n) ≡ false) → list_any (name_eq c) (flat_map (slots_of capacity) types) ≡ false
  no_slot c none = none_flat c (slots_of capacity) types (λ t. none_mapped c (Slot t) (range_with_len 1 capacity) (none t))

  pub cell_in_order : (c : CellName) → list_any (name_eq c) (cells_in_order schema capacity) ≡ is_cell schema capacity c
  cell_in_order (Usage a) =
      parts (Usage a) (nat_lt a (length schema.areas)) false false false
      (any_map Usage (name_eq (Usage a)) areas ∙ any_below a (length schema.areas))
      (none_mapped (Usage a) Extent types (λ t. refl))
      (none_flat (Usage a) (rings_of schema capacity) (set_numbers schema) (no_ring (Usage a) (λ s o. refl)))
      (no_slot (Usage a) (λ t n. refl))
      ∙ or_nothing (nat_lt a (length schema.areas))
  cell_in_order (Extent t) =
      parts (Extent t) false (nat_lt t (length schema.types)) false false
      (none_mapped (Extent t) Usage areas (λ a. refl))
      (any_map Extent (name_eq (Extent t)) types ∙ any_below t (length schema.types))
      (none_flat (Extent t) (rings_of schema capacity) (set_numbers schema) (no_ring (Extent t) (λ s o. refl)))
      (no_slot (Extent t) (λ u n. refl))
      ∙ or_nothing (nat_lt t (length schema.types))
  cell_in_order (Ring s None) =
      parts (Ring s None) false false (is_system schema s) false
      (none_mapped (Ring s None) Usage areas (λ a. refl))
      (none_mapped (Ring s None) Extent types (λ t. refl))
      (any_flat (name_eq (Ring s None)) (rings_of schema capacity) (set_numbers schema)
      ∙ any_same (λ t. list_any (name_eq (Ring s None)) (rings_of schema capacity t)) (λ t. (s == t) && is_system schema t) (set_numbers schema) (system_ring s)
      ∙ any_chosen s (is_system schema) (set_numbers schema)
      ∙ ap (λ b. b && is_system schema s) (any_below s (length schema.sets))
      ∙ within (λ g. some_and (λ set. is_none set.owner) g) refl s schema.sets)
      (no_slot (Ring s None) (λ t n. refl))
      ∙ or_nothing (is_system schema s)
  cell_in_order (Ring s (Some p)) =
      parts (Ring s (Some p)) false false (owned s) false
      (none_mapped (Ring s (Some p)) Usage areas (λ a. refl))
      (none_mapped (Ring s (Some p)) Extent types (λ t. refl))
      (any_flat (name_eq (Ring s (Some p))) (rings_of schema capacity) (set_numbers schema)
      ∙ any_same (λ t. list_any (name_eq (Ring s (Some p))) (rings_of schema capacity t)) (λ t. (s == t) && owned t) (set_numbers schema) (λ t. owned_ring s t p)
      ∙ any_chosen s owned (set_numbers schema)
      ∙ ap (λ b. b && owned s) (any_below s (length schema.sets))
      ∙ within (λ g. some_and (λ u. u == p.0) (option_and_then (λ set. set.owner) g) && (nat_lt 0 p.1 && nat_le p.1 capacity)) refl s schema.sets)
      (no_slot (Ring s (Some p)) (λ t n. refl))
      ∙ or_nothing (owned s)
    where
      owned : ℕ → Bool
      owned t = owns schema t p.0 && (nat_lt 0 p.1 && nat_le p.1 capacity)
  cell_in_order (Slot t n) =
      parts (Slot t n) false false false (nat_lt t (length schema.types) && (nat_lt 0 n && nat_le n capacity))
      (none_mapped (Slot t n) Usage areas (λ a. refl))
      (none_mapped (Slot t n) Extent types (λ u. refl))
      (none_flat (Slot t n) (rings_of schema capacity) (set_numbers schema) (no_ring (Slot t n) (λ s o. refl)))
      (any_flat (name_eq (Slot t n)) (slots_of capacity) types
      ∙ any_same (λ u. list_any (name_eq (Slot t n)) (slots_of capacity u)) (λ u. (t == u) && (nat_lt 0 n && nat_le n capacity)) types (slot_any t n)
      ∙ any_chosen t (λ u. nat_lt 0 n && nat_le n capacity) types
      ∙ ap (λ b. b && (nat_lt 0 n && nat_le n capacity)) (any_below t (length schema.types)))

  pub has_number : (c : CellName) → is_some (cell_number schema capacity c) ≡ is_cell schema capacity c
  has_number c = position_any (name_eq c) (cells_in_order schema capacity) ∙ cell_in_order c

-- at most one passes
abbrev once : {X : Type 0} → (X → Bool) → List X → Bool
once p [] = true
once p (x ∷ xs) = cond (p x) (not (list_any p xs)) (once p xs)

module _ {X : Type 0} (p : X → Bool) where
  once_none : (xs : List X) → list_any p xs ≡ false → once p xs ≡ true
  once_none [] none = refl
  once_none (x ∷ xs) none = by (p x) none (once_none xs)
    where
      by : (b : Bool) → b || list_any p xs ≡ false → (list_any p xs ≡ false → once p xs ≡ true) → cond b (not (list_any p xs)) (once p xs) ≡ true
      by true h rest = absurd (true≢false h)
      by false h rest = rest h

  once_before : (xs ys : List X) → list_any p xs ≡ false → once p (xs ++ ys) ≡ once p ys
  once_before [] ys none = refl
  once_before (x ∷ xs) ys none = by (p x) none (once_before xs ys)
    where
      by : (b : Bool) → b || list_any p xs ≡ false → (list_any p xs ≡ false → once p (xs ++ ys) ≡ once p ys) → cond b (not (list_any p (xs ++ ys))) (once p (xs ++ ys)) ≡ once p ys
      by true h rest = absurd (true≢false h)
      by false h rest = rest h

  once_behind : (xs ys : List X) → list_any p ys ≡ false → once p (xs ++ ys) ≡ once p xs
  once_behind [] ys none = once_none ys none
  once_behind (x ∷ xs) ys none =
      let there : list_any p (xs ++ ys) ≡ list_any p xs = any_append p xs ys ∙ ap (λ b. list_any p xs || b) none ∙ or_nothing (list_any p xs) in
      λ i. cond (p x) (not (there i)) (once_behind xs ys none i)

  -- the one that passes stands where the first does
  once_at : (xs : List X) (n : ℕ) (x : X) → once p xs ≡ true → slice_get xs n ≡ Some x → p x ≡ true → position_or_len p xs ≡ n
  once_at [] n x one at passes = absurd (none-some x at)
  once_at (y ∷ ys) zero x one at passes =
      let same : p y ≡ true = ap p (same_Some y x at) ∙ passes in
      ap (λ b. cond (not b) (1 + position_or_len p ys) 0) same
  once_at (y ∷ ys) (suc n) x one at passes = by (p y) one (λ h. once_at ys n x h at passes)
    where
      by : (b : Bool) → cond b (not (list_any p ys)) (once p ys) ≡ true → (once p ys ≡ true → position_or_len p ys ≡ n) → cond (not b) (1 + position_or_len p ys) 0 ≡ suc n
      by true h rest = absurd (true≢false (sym h ∙ ap not (any_passes_from_place p ys n x at passes)))
      by false h rest = let here = rest h in omega (arith, here)

  once_flat : (f : ℕ → List X) (s a n : ℕ) → ((t : ℕ) → once p (f t) ≡ true) → ((t : ℕ) → (s == t) ≡ false → list_any p (f t) ≡ false) → once p (flat_map f (range_with_len a n)) ≡ true
  once_flat f s a zero one other = refl
  once_flat f s a (suc n) one other = by (s == a) refl (once_flat f s (a + 1) n one other)
    where
      later : (b m : ℕ) → s < b → list_any (λ t. list_any p (f t)) (range_with_len b m) ≡ false
      later b zero l = refl
      later b (suc m) l = let apart : (s == b) ≡ false = grind (arith, nat_tests) in λ i. other b apart i || later (b + 1) m (omega arith) i

      by : (b : Bool) → (s == a) ≡ b → once p (flat_map f (range_with_len (a + 1) n)) ≡ true → once p (f a ++ flat_map f (range_with_len (a + 1) n)) ≡ true
      by true e rest =
          let same : s < a + 1 = grind (arith, nat_tests) in
          once_behind (f a) (flat_map f (range_with_len (a + 1) n)) (any_flat p f (range_with_len (a + 1) n) ∙ later (a + 1) n same) ∙ one a
      by false e rest = once_before (f a) (flat_map f (range_with_len (a + 1) n)) (other a e) ∙ rest

  once_map : (f : ℕ → X) (q a n : ℕ) → ((t : ℕ) → (q == t) ≡ false → p (f t) ≡ false) → once p (map f (range_with_len a n)) ≡ true
  once_map f q a zero other = refl
  once_map f q a (suc n) other = by (q == a) refl (once_map f q (a + 1) n other)
    where
      later : (b m : ℕ) → q < b → list_any p (map f (range_with_len b m)) ≡ false
      later b zero l = refl
      later b (suc m) l = let apart : (q == b) ≡ false = grind (arith, nat_tests) in λ i. other b apart i || later (b + 1) m (omega arith) i

      by : (b : Bool) → (q == a) ≡ b → once p (map f (range_with_len (a + 1) n)) ≡ true → cond (p (f a)) (not (list_any p (map f (range_with_len (a + 1) n)))) (once p (map f (range_with_len (a + 1) n))) ≡ true
      by true e rest =
          let same : q < a + 1 = grind (arith, nat_tests) in
          let none = later (a + 1) n same in
          (λ i. cond (p (f a)) (not (none i)) (once_none (map f (range_with_len (a + 1) n)) none i)) ∙ both (p (f a))
        where
          both : (b : Bool) → cond b true true ≡ true
          both true = refl
          both false = refl
      by false e rest = ap (λ b. cond b (not (list_any p (map f (range_with_len (a + 1) n)))) (once p (map f (range_with_len (a + 1) n)))) (other a e) ∙ rest

module _ (schema : Lists) (capacity : ℕ) where
  once_ring : (c : CellName) (t : ℕ) → once (name_eq c) (rings_of schema capacity t) ≡ true
  once_ring c t = by (is_system schema t) (owner_type schema t)
    where
      by : (b : Bool) (o : Option ℕ) → once (name_eq c) (cond b (Ring t None ∷ []) (unwrap_or (option_map (λ u. map (λ n. Ring t (Some (u, n))) (range_with_len 1 capacity)) o) [])) ≡ true
      by true o = single (name_eq c (Ring t None))
        where
          single : (b : Bool) → cond b true true ≡ true
          single true = refl
          single false = refl
      by false None = refl
      by false (Some u) = owned c
        where
          owned : (c : CellName) → once (name_eq c) (map (λ n. Ring t (Some (u, n))) (range_with_len 1 capacity)) ≡ true
          owned (Ring s (Some p)) = once_map (name_eq (Ring s (Some p))) (λ n. Ring t (Some (u, n))) p.1 1 capacity (λ n e. ap (λ b. (s == t) && ((p.0 == u) && b)) e ∙ ap (λ b. (s == t) && b) (and_nothing (p.0 == u)) ∙ and_nothing (s == t))
          owned (Ring s None) = once_none (name_eq (Ring s None)) (map (λ n. Ring t (Some (u, n))) (range_with_len 1 capacity)) (none_mapped (Ring s None) (λ n. Ring t (Some (u, n))) (range_with_len 1 capacity) (λ n. and_nothing (s == t)))
          owned (Usage a) = once_none (name_eq (Usage a)) (map (λ n. Ring t (Some (u, n))) (range_with_len 1 capacity)) (none_mapped (Usage a) (λ n. Ring t (Some (u, n))) (range_with_len 1 capacity) (λ n. refl))
          owned (Extent r) = once_none (name_eq (Extent r)) (map (λ n. Ring t (Some (u, n))) (range_with_len 1 capacity)) (none_mapped (Extent r) (λ n. Ring t (Some (u, n))) (range_with_len 1 capacity) (λ n. refl))
          owned (Slot r m) = once_none (name_eq (Slot r m)) (map (λ n. Ring t (Some (u, n))) (range_with_len 1 capacity)) (none_mapped (Slot r m) (λ n. Ring t (Some (u, n))) (range_with_len 1 capacity) (λ n. refl))

  once_cell : (c : CellName) → once (name_eq c) (cells_in_order schema capacity) ≡ true
  once_cell (Usage a) =
      once_behind (name_eq (Usage a)) (map Usage (areas schema capacity)) _
      (any_append (name_eq (Usage a)) (map Extent (types schema capacity)) _
      ∙ (λ i. none_mapped (Usage a) Extent (types schema capacity) (λ t. refl) i || any_append (name_eq (Usage a)) (flat_map (rings_of schema capacity) (set_numbers schema)) (flat_map (slots_of capacity) (types schema capacity)) i)
      ∙ (λ i. none_flat (Usage a) (rings_of schema capacity) (set_numbers schema) (no_ring schema capacity (Usage a) (λ s o. refl)) i || no_slot schema capacity (Usage a) (λ t n. refl) i))
      ∙ once_map (name_eq (Usage a)) Usage a 0 (length schema.areas) (λ t e. e)
  once_cell (Extent t) =
      once_before (name_eq (Extent t)) (map Usage (areas schema capacity)) _ (none_mapped (Extent t) Usage (areas schema capacity) (λ a. refl))
      ∙ once_behind (name_eq (Extent t)) (map Extent (types schema capacity)) _
      (any_append (name_eq (Extent t)) (flat_map (rings_of schema capacity) (set_numbers schema)) (flat_map (slots_of capacity) (types schema capacity))
      ∙ (λ i. none_flat (Extent t) (rings_of schema capacity) (set_numbers schema) (no_ring schema capacity (Extent t) (λ s o. refl)) i || no_slot schema capacity (Extent t) (λ u n. refl) i))
      ∙ once_map (name_eq (Extent t)) Extent t 0 (length schema.types) (λ u e. e)
  once_cell (Ring s o) =
      once_before (name_eq (Ring s o)) (map Usage (areas schema capacity)) _ (none_mapped (Ring s o) Usage (areas schema capacity) (λ a. refl))
      ∙ once_before (name_eq (Ring s o)) (map Extent (types schema capacity)) _ (none_mapped (Ring s o) Extent (types schema capacity) (λ a. refl))
      ∙ once_behind (name_eq (Ring s o)) (flat_map (rings_of schema capacity) (set_numbers schema)) (flat_map (slots_of capacity) (types schema capacity)) (no_slot schema capacity (Ring s o) (λ u n. refl))
      ∙ once_flat (name_eq (Ring s o)) (rings_of schema capacity) s 0 (length schema.sets) (once_ring (Ring s o)) (λ t e. elsewhere o t e)
    where
      elsewhere : (o : Option (ℕ × ℕ)) (t : ℕ) → (s == t) ≡ false → list_any (name_eq (Ring s o)) (rings_of schema capacity t) ≡ false
      elsewhere None t e = system_ring schema capacity s t ∙ ap (λ b. b && is_system schema t) e
      elsewhere (Some p) t e = owned_ring schema capacity s t p ∙ ap (λ b. b && (owns schema t p.0 && (nat_lt 0 p.1 && nat_le p.1 capacity))) e
  once_cell (Slot t n) =
      once_before (name_eq (Slot t n)) (map Usage (areas schema capacity)) _ (none_mapped (Slot t n) Usage (areas schema capacity) (λ a. refl))
      ∙ once_before (name_eq (Slot t n)) (map Extent (types schema capacity)) _ (none_mapped (Slot t n) Extent (types schema capacity) (λ a. refl))
      ∙ once_before (name_eq (Slot t n)) (flat_map (rings_of schema capacity) (set_numbers schema)) _ (none_flat (Slot t n) (rings_of schema capacity) (set_numbers schema) (no_ring schema capacity (Slot t n) (λ s o. refl)))
      ∙ once_flat (name_eq (Slot t n)) (slots_of capacity) t 0 (length schema.types)
      (λ u. once_map (name_eq (Slot t n)) (Slot u) n 1 capacity (λ m e. ap (λ b. (t == u) && b) e ∙ and_nothing (t == u)))
      (λ u e. slot_any schema capacity t n u ∙ ap (λ b. b && (nat_lt 0 n && nat_le n capacity)) e)

  pub numbered_at : (number : ℕ) (c : CellName) → slice_get (cells_in_order schema capacity) number ≡ Some c → cell_number schema capacity c ≡ Some number
  numbered_at number c at =
      let place : position_or_len (name_eq c) (cells_in_order schema capacity) ≡ number = once_at (name_eq c) (cells_in_order schema capacity) number c (once_cell c) at (name_eq_refl c) in
      let inside : nat_lt number (length (cells_in_order schema capacity)) ≡ true = ap (λ n. nat_lt n (length (cells_in_order schema capacity))) (sym place) ∙ within_any (name_eq c) (cells_in_order schema capacity) ∙ any_passes_from_place (name_eq c) (cells_in_order schema capacity) number c at (name_eq_refl c) in
      (λ i. cond (nat_lt (place i) (length (cells_in_order schema capacity))) (Some (place i)) None) ∙ ap (λ b. cond b (Some number) None) inside
