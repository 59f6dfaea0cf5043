-- The image that is read from the cells of a legal database is the database's.
use Rattle.std.proofs.Common.{◌≡◌, refl, sym, ◌∙◌, ap, ℕ, zero, suc, ◌+◌, ◌<◌, ◌≤◌, Bool, true, false, cond, ◌&&◌, List, [], ◌∷◌, ◌++◌, length, map, Option, Some, None, arith, eqb, inl, inr}
use Rattle.std.specs.Prelude.{filter, is_some, nat_le, nat_lt, option_map, unwrap_or}
use Rattle.std.specs.List.{flat_map, range_with_len}
use Rattle.std.proofs.lemmas.Bool.{and_from, cases_Bool, eq-eqb}
use Rattle.std.proofs.lemmas.Bool.Decides.{nat_tests}
use Rattle.std.proofs.lemmas.List.{map-append}
use Rattle.std.proofs.lemmas.List.FromFn.{length-map-range_with_len}
use Rattle.dbtg_schema.specs.Lists.{Lists}
use Rattle.dbtg_schema.specs.Lookups.{some_and}
use Rattle.dbtg_schema.specs.Sound.{IsSound}
use Rattle.dbtg_schema.specs.Structure.{is_system, owner_type, owns, set_numbers}
use Rattle.dbtg_cells.specs.declared.cell.Cell.{Cell}
use Rattle.dbtg_cells.specs.declared.cell.Cell.TheVariants.{Usage as UsageCell, Extent as ExtentCell, Ring as RingCell, Slot as SlotCell}
use Rattle.dbtg_cells.specs.declared.extent.Number.{Number}
use Rattle.dbtg_cells.specs.declared.key.DbKey.{DbKey}
use Rattle.dbtg_cells.specs.declared.key.Owner.{Owner}
use Rattle.dbtg_cells.specs.declared.key.Owner.TheVariants.{System, Rec}
use Rattle.dbtg_cells.specs.declared.key.Value.{Value}
use Rattle.dbtg_cells.specs.declared.name.CellName.{CellName}
use Rattle.dbtg_cells.specs.declared.name.CellName.TheVariants.{Usage, Extent, Ring, Slot}
use Rattle.dbtg_cells.specs.declared.ring.Occurrence.{Occurrence}
use Rattle.dbtg_cells.specs.declared.slot.Stored.{Stored}
use Rattle.dbtg_cells.specs.declared.usage.Mode.{Mode}
use Rattle.dbtg_cells.specs.CellNumbers.{is_cell}
use Rattle.dbtg_cells.specs.Cells.{shown}
use Rattle.dbtg_cells.specs.Numbers.{is_used, last_of, numbers_from, numbers_where}
use Rattle.dbtg_cells.specs.Shown.{UsageValue, ExtentValue, RingValue, SlotValue}
use Rattle.dbtg_cells.proofs.Public.{map_twice}
use Rattle.dbtg_unit.specs.Database.State.Base.{Database, Record, calc_items, is_live, items_of, key_at, live_keys, members_of, owners, sort_key}
use Rattle.dbtg_unit.specs.Database.State.Cells.{cell, number_of, owner_at, ring_of, slot_of}
use Rattle.dbtg_unit.specs.Database.Statements.Doomed.{all_keys}
use Rattle.dbtg_unit.specs.Database.Statements.Effect.{free_number}
use Rattle.dbtg_unit.specs.Database.Statements.Effect as effects
use Rattle.dbtg_unit.specs.Database.State.Image.{image_of}
use Rattle.dbtg_unit.specs.Hands.InHand.{numbers_of, users_of}
use Rattle.dbtg_unit.specs.Database.State.Legal.{Legal}
use Rattle.dbtg_unit.proofs.Public.{extent_in, firsts_pairs, free_in_hand, last_in_hand, owner_is_type, ring_in, slot_in, usage_in}
use Rattle.dbtg_step.specs.Inside.Imaging.{generations_in, image_from, list_of, lists_of, live_of, next_in, occurrence_at, owned_lists, record_of, records_of, stored_at, version_of, versions_of}

-- a cell is found, and shows what the database has
pub record ShowsCell (schema : Lists) (capacity : ℕ) (db : Database) (found : CellName → Option Cell) (c : CellName) : Type 0 where
  pub which : Cell
  pub there : found c ≡ Some which
  pub shows : shown which ≡ cell schema capacity db c

-- LISTS

-- what is made of the parts
pub map_flat : {X Y Z : Type 0} (f : Y → Z) (g : X → List Y) (xs : List X) → map f (flat_map g xs) ≡ flat_map (λ x. map f (g x)) xs
map_flat f g [] = refl
map_flat f g (x ∷ xs) = map-append f (g x) (flat_map g xs) ∙ ap (λ ys. map f (g x) ++ ys) (map_flat f g xs)

flat_range : {X : Type 0} (f g : ℕ → List X) (a n : ℕ) → ((m : ℕ) → a ≤ m → m < a + n → f m ≡ g m) → flat_map f (range_with_len a n) ≡ flat_map g (range_with_len a n)
flat_range f g a zero same = refl
flat_range f g a (suc n) same = λ i. same a (omega arith) (omega arith) i ++ flat_range f g (a + 1) n (λ m low high. same m (omega (arith, low)) (omega (arith, high))) i

map_range : {X : Type 0} (f g : ℕ → X) (a n : ℕ) → ((m : ℕ) → a ≤ m → m < a + n → f m ≡ g m) → map f (range_with_len a n) ≡ map g (range_with_len a n)
map_range f g a zero same = refl
map_range f g a (suc n) same = λ i. same a (omega arith) (omega arith) i ∷ map_range f g (a + 1) n (λ m low high. same m (omega (arith, low)) (omega (arith, high))) i

-- each element that passes
map_kept : {X Y Z : Type 0} (p : Y → Bool) (h : X → Y) (f : Y → Z) (xs : List X) → flat_map (λ x. cond (p (h x)) (f (h x) ∷ []) []) xs ≡ map f (filter p (map h xs))
map_kept p h f [] = refl
map_kept p h f (x ∷ xs) =
    ap (λ zs. cond (p (h x)) (f (h x) ∷ []) [] ++ zs) (map_kept p h f xs)
    ∙ elim (p (h x)) as (λ b. cond b (f (h x) ∷ []) [] ++ map f (filter p (map h xs)) ≡ map f (cond b (h x ∷ filter p (map h xs)) (filter p (map h xs)))) [ true ↦ refl | false ↦ refl ]

-- what is made of the numbers whose entries pass, of entries that are made number by number
flat_passing : {X : Type 0} (test : Number → Bool) (g : ℕ → Number) (f : ℕ → List X) (a n : ℕ) → flat_map f (numbers_from a test (map g (range_with_len a n))) ≡ flat_map (λ m. cond (test (g m)) (f m) []) (range_with_len a n)
flat_passing test g f a zero = refl
flat_passing test g f a (suc n) =
    let next : suc a ≡ a + 1 = omega arith in
    let rest = numbers_from (suc a) test (map g (range_with_len (a + 1) n)) in
    elim (test (g a)) as (λ b. flat_map f (cond b (a ∷ rest) rest) ≡ cond b (f a) [] ++ flat_map f rest) [ true ↦ refl | false ↦ refl ]
    ∙ ap (λ ys. cond (test (g a)) (f a) [] ++ ys) (ap (λ m. flat_map f (numbers_from m test (map g (range_with_len (a + 1) n)))) next ∙ flat_passing test g f (a + 1) n)

-- where a record of type t has the number, its entry passes
used_where_live : {X : Type 0} (schema : Lists) (t : ℕ) (r : Option Record) (xs ys : List X) → xs ≡ cond (is_some r) ys [] → cond (is_some (option_map (λ (x : Record). calc_items schema t x.items) r)) xs [] ≡ cond (is_some r) ys []
used_where_live schema t None xs ys e = refl
used_where_live schema t (Some r) xs ys e = e

-- the lists of a set with an owner type
pub lists_of_owners : (schema : Lists) (found : CellName → Option Cell) (s t : ℕ) → is_system schema s ≡ false → owner_type schema s ≡ Some t → lists_of schema found s ≡ owned_lists found s t
lists_of_owners schema found s t e o = λ i. cond (e i) (list_of (occurrence_at (found (Ring s None)))) (unwrap_or (option_map (owned_lists found s) (o i)) [])

-- WHAT A CELL HAS, BY WHAT IT SHOWS

stored_shown : (x : Cell) (v : Option Stored) → shown x ≡ SlotValue v → stored_at (Some x) ≡ v
stored_shown (SlotCell s) v e = ap slot_in e
stored_shown (UsageCell u) v e = absurd (cc (e))
stored_shown (ExtentCell u) v e = absurd (cc (e))
stored_shown (RingCell u) v e = absurd (cc (e))

occurrence_shown : (x : Cell) (v : Option Occurrence) → shown x ≡ RingValue v → occurrence_at (Some x) ≡ v
occurrence_shown (RingCell r) v e = ap ring_in e
occurrence_shown (UsageCell u) v e = absurd (cc (e))
occurrence_shown (ExtentCell u) v e = absurd (cc (e))
occurrence_shown (SlotCell u) v e = absurd (cc (e))

numbers_shown : (x : Cell) (v : List Number) → shown x ≡ ExtentValue v → numbers_of (Some x) ≡ v
numbers_shown (ExtentCell r) v e = ap extent_in e
numbers_shown (UsageCell u) v e = absurd (cc (e))
numbers_shown (RingCell u) v e = absurd (cc (e))
numbers_shown (SlotCell u) v e = absurd (cc (e))

users_shown : (x : Cell) (v : List (ℕ × Mode)) → shown x ≡ UsageValue v → users_of (Some x) ≡ v
users_shown (UsageCell r) v e = ap usage_in e
users_shown (ExtentCell u) v e = absurd (cc (e))
users_shown (RingCell u) v e = absurd (cc (e))
users_shown (SlotCell u) v e = absurd (cc (e))

module _ (schema : Lists) (capacity : ℕ) (db : Database) (sound : IsSound schema) (legal : Legal schema capacity db) (found : CellName → Option Cell)
    (shows : (c : CellName) → is_cell schema capacity c ≡ true → ShowsCell schema capacity db found c) where
  -- NUMBERS

  numbers_are : (t : ℕ) → t < length schema.types → numbers_of (found (Extent t)) ≡ map (number_of schema db t) (range_with_len 1 capacity)
  unfolding cell
  numbers_are t below =
      let a : nat_lt t (length schema.types) ≡ true = grind (arith, nat_tests) in
      let c = shows (Extent t) a in
      ap numbers_of c.there ∙ numbers_shown c.which _ c.shows

  -- what is made of each number that a record has
  of_live : {X : Type 0} (f g : ℕ → List X) (t : ℕ) → t < length schema.types → ((n : ℕ) → 0 < n → n ≤ capacity → f n ≡ cond (is_live db (key_at db t n)) (g n) []) → flat_map f (live_of found t) ≡ flat_map (λ n. cond (is_live db (key_at db t n)) (g n) []) (range_with_len 1 capacity)
  of_live f g t below same =
      ap (λ numbers. flat_map f (numbers_where is_used numbers)) (numbers_are t below)
      ∙ flat_passing is_used (number_of schema db t) f 1 capacity
      ∙ flat_range (λ n. cond (is_used (number_of schema db t n)) (f n) []) (λ n. cond (is_live db (key_at db t n)) (g n) []) 1 capacity
      (λ n low high. used_where_live schema t (db.records (key_at db t n)) (f n) (g n) (same n (omega arith) (omega arith)))

  -- RECORDS AND VERSIONS

  stored_is : (t n : ℕ) → t < length schema.types → 0 < n → n ≤ capacity → stored_at (found (Slot t n)) ≡ option_map (slot_of schema capacity db (key_at db t n)) (db.records (key_at db t n))
  unfolding cell
  stored_is t n below low high =
      let a : nat_lt t (length schema.types) ≡ true = grind (arith, nat_tests) in
      let b : nat_lt 0 n ≡ true = grind (arith, nat_tests) in
      let d : nat_le n capacity ≡ true = grind (arith, nat_tests) in
      let c = shows (Slot t n) (and_from _ _ a (and_from _ _ b d)) in
      ap stored_at c.there ∙ stored_shown c.which _ c.shows

  record_row : (k : DbKey) (r : Option Record) → record_of k.rtype k.number (option_map (slot_of schema capacity db k) r) ≡ cond (is_some r) ((k, unwrap_or (option_map (λ (x : Record). x.items) r) []) ∷ []) []
  record_row k None = refl
  record_row k (Some r) = refl

  version_row : (k : DbKey) (r : Option Record) → version_of k.rtype k.number (option_map (slot_of schema capacity db k) r) ≡ cond (is_some r) ((k, unwrap_or (option_map (λ (x : Record). x.version) r) 0) ∷ []) []
  version_row k None = refl
  version_row k (Some r) = refl

  abbrev with_items : DbKey → DbKey × List Value
  with_items k = (k, items_of db k)

  abbrev with_version : DbKey → DbKey × ℕ
  with_version k = (k, effects.version_of db k)

  records_type : (t : ℕ) → t < length schema.types → records_of found t ≡ map with_items (live_keys capacity db t)
  records_type t below =
      of_live (λ n. record_of t n (stored_at (found (Slot t n)))) (λ n. with_items (key_at db t n) ∷ []) t below
      (λ n low high. ap (record_of t n) (stored_is t n below low high) ∙ record_row (key_at db t n) (db.records (key_at db t n)))
      ∙ map_kept (is_live db) (key_at db t) with_items (range_with_len 1 capacity)

  versions_type : (t : ℕ) → t < length schema.types → versions_of found t ≡ map with_version (live_keys capacity db t)
  versions_type t below =
      of_live (λ n. version_of t n (stored_at (found (Slot t n)))) (λ n. with_version (key_at db t n) ∷ []) t below
      (λ n low high. ap (version_of t n) (stored_is t n below low high) ∙ version_row (key_at db t n) (db.records (key_at db t n)))
      ∙ map_kept (is_live db) (key_at db t) with_version (range_with_len 1 capacity)

  records_are : flat_map (records_of found) (range_with_len 0 (length schema.types)) ≡ map with_items (all_keys schema capacity db)
  records_are =
      flat_range (records_of found) (λ t. map with_items (live_keys capacity db t)) 0 (length schema.types) (λ t low high. records_type t (omega arith))
      ∙ sym (map_flat with_items (live_keys capacity db) (range_with_len 0 (length schema.types)))

  versions_are : flat_map (versions_of found) (range_with_len 0 (length schema.types)) ≡ map with_version (all_keys schema capacity db)
  versions_are =
      flat_range (versions_of found) (λ t. map with_version (live_keys capacity db t)) 0 (length schema.types) (λ t low high. versions_type t (omega arith))
      ∙ sym (map_flat with_version (live_keys capacity db) (range_with_len 0 (length schema.types)))

  -- LISTS OF SETS

  occurrence_is : (s : ℕ) (p : Option (ℕ × ℕ)) → is_cell schema capacity (Ring s p) ≡ true → occurrence_at (found (Ring s p)) ≡ option_map (ring_of schema db s (owner_at db p)) (db.lists s (owner_at db p))
  unfolding cell
  occurrence_is s p h = let c = shows (Ring s p) h in ap occurrence_at c.there ∙ occurrence_shown c.which _ c.shows

  list_row : (s : ℕ) (o : Owner) (l : Option (List DbKey)) → list_of (option_map (ring_of schema db s o) l) ≡ cond (is_some l) ((o, unwrap_or l []) ∷ []) []
  list_row s o None = refl
  list_row s o (Some l) = ap (λ ks. (o, ks) ∷ []) (firsts_pairs (sort_key schema db s) l)

  abbrev with_members : ℕ → Owner → Owner × List DbKey
  with_members s o = (o, members_of db s o)

  abbrev list_at : CellName → List (Owner × List DbKey)
  list_at c = list_of (occurrence_at (found c))

  system_list : (s : ℕ) → is_system schema s ≡ true → list_at (Ring s None) ≡ with_members s System ∷ []
  system_list s e = ap list_of (occurrence_is s None e) ∙ list_row s System (db.lists s System) ∙ ap (λ b. cond b (with_members s System ∷ []) []) (legal.pairs s System ∙ e)

  owned : (s t : ℕ) → owner_type schema s ≡ Some t → owns schema s t ≡ true
  owned s t e = ap (some_and (λ owner. eqb owner t)) e ∙ eq-eqb t t refl

  owned_list : (s t n : ℕ) → owner_type schema s ≡ Some t → 0 < n → n ≤ capacity → list_at (Ring s (Some (t, n))) ≡ cond (is_live db (key_at db t n)) (with_members s (Rec (key_at db t n)) ∷ []) []
  owned_list s t n e low high =
      let b : nat_lt 0 n ≡ true = grind (arith, nat_tests) in
      let d : nat_le n capacity ≡ true = grind (arith, nat_tests) in
      let o = Rec (key_at db t n) in
      ap list_of (occurrence_is s (Some (t, n)) (and_from _ _ (owned s t e) (and_from _ _ b d))) ∙ list_row s o (db.lists s o)
      ∙ ap (λ b. cond b (with_members s o ∷ []) []) (legal.pairs s o ∙ ap (λ b. b && is_live db (key_at db t n)) (owned s t e))

  lists_set : (s : ℕ) → lists_of schema found s ≡ map (with_members s) (owners schema capacity db s)
  lists_set s =
      elim (cases_Bool (is_system schema s)) [
        | inl e ↦
            ap (λ b. cond b (list_at (Ring s None)) (unwrap_or (option_map (owned_lists found s) (owner_type schema s)) [])) e
            ∙ system_list s e
            ∙ sym (ap (λ b. map (with_members s) (cond b (System ∷ []) (unwrap_or (option_map (λ t. map Rec (live_keys capacity db t)) (owner_type schema s)) []))) e)
        | inr e ↦
            ap (λ b. cond b (list_at (Ring s None)) (unwrap_or (option_map (owned_lists found s) (owner_type schema s)) [])) e
            ∙ of_type (owner_type schema s) refl
            ∙ sym (ap (λ b. map (with_members s) (cond b (System ∷ []) (unwrap_or (option_map (λ t. map Rec (live_keys capacity db t)) (owner_type schema s)) []))) e)
      ] where
        of_type : (o : Option ℕ) → owner_type schema s ≡ o → unwrap_or (option_map (owned_lists found s) o) []
            ≡ map (with_members s) (unwrap_or (option_map (λ t. map Rec (live_keys capacity db t)) o) [])
        of_type None q = refl
        of_type (Some t) q =
            of_live (λ n. list_at (Ring s (Some (t, n)))) (λ n. with_members s (Rec (key_at db t n)) ∷ []) t (owner_is_type schema sound s t (owned s t q)) (λ n low high. owned_list s t n q low high)
            ∙ map_kept (is_live db) (key_at db t) (λ k. with_members s (Rec k)) (range_with_len 1 capacity)
            ∙ sym (map_twice (with_members s) Rec (live_keys capacity db t))

  lists_are : map (lists_of schema found) (set_numbers schema) ≡ map (λ s. map (with_members s) (owners schema capacity db s)) (set_numbers schema)
  lists_are = map_range (lists_of schema found) (λ s. map (with_members s) (owners schema capacity db s)) 0 (length schema.sets) (λ s low high. lists_set s)

  -- NEXT NUMBERS, GENERATIONS AND USERS

  next_are : map (λ t. next_in (numbers_of (found (Extent t)))) (range_with_len 0 (length schema.types)) ≡ map (λ t. unwrap_or (free_number capacity db t) 0) (range_with_len 0 (length schema.types))
  next_are =
      map_range (λ t. next_in (numbers_of (found (Extent t)))) (λ t. unwrap_or (free_number capacity db t) 0) 0 (length schema.types)
      (λ t low high. ap (λ o. unwrap_or o 0) (sym (free_in_hand schema capacity db legal t (numbers_of (found (Extent t))) (numbers_are t (omega arith)))))

  generations_type : (t : ℕ) → t < length schema.types → generations_in (numbers_of (found (Extent t))) ≡ map (db.last t) (range_with_len 1 capacity)
  generations_type t below =
      let numbers = numbers_of (found (Extent t)) in
      ap (λ m. map (λ n. last_of n numbers) (range_with_len 1 m)) (ap length (numbers_are t below) ∙ length-map-range_with_len (number_of schema db t) 1 capacity)
      ∙ map_range (λ n. last_of n numbers) (db.last t) 1 capacity (λ n low high. sym (last_in_hand schema capacity db legal t numbers (numbers_are t below) n))

  last_are : map (λ t. generations_in (numbers_of (found (Extent t)))) (range_with_len 0 (length schema.types)) ≡ map (λ t. map (db.last t) (range_with_len 1 capacity)) (range_with_len 0 (length schema.types))
  last_are =
      map_range (λ t. generations_in (numbers_of (found (Extent t)))) (λ t. map (db.last t) (range_with_len 1 capacity)) 0 (length schema.types)
      (λ t low high. generations_type t (omega arith))

  users_are : (a : ℕ) → a < length schema.areas → users_of (found (Usage a)) ≡ db.usage a
  unfolding cell
  users_are a below =
      let b : nat_lt a (length schema.areas) ≡ true = grind (arith, nat_tests) in
      let c = shows (Usage a) b in
      ap users_of c.there ∙ users_shown c.which _ c.shows

  usage_is : map (λ a. users_of (found (Usage a))) (range_with_len 0 (length schema.areas)) ≡ map db.usage (range_with_len 0 (length schema.areas))
  usage_is = map_range (λ a. users_of (found (Usage a))) db.usage 0 (length schema.areas) (λ a low high. users_are a (omega arith))

  -- THE IMAGE

  pub read_is_image : image_from schema found ≡ image_of schema capacity db
  unfolding image_of
  read_is_image = λ i. record { records = records_are i; versions = versions_are i; lists = lists_are i; next = next_are i; last = last_are i; usage = usage_is i }
