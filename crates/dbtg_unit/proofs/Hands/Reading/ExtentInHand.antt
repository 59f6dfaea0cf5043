-- What is read from a held extent: which keys are live, which have given CALC values, and which number is free.
use Rattle.std.proofs.Common.{◌≡◌, refl, sym, ◌∙◌, ap, ℕ, zero, suc, ◌+◌, Bool, true, false, cond, not, ◌&&◌, ◌||◌, List, [], ◌∷◌, Option, Some, None, arith, eqb, map, inl, inr}
use Rattle.std.specs.Prelude.{◌==◌, nat_lt, filter, is_some, is_none, option_map, option_and_then, unwrap_or}
use Rattle.std.specs.List.{list_any, range_with_len}
use Rattle.std.proofs.lemmas.Bool.{cases_Bool, false≢true, false_from_ne_true, eqb-true, eq-eqb}
use Rattle.std.proofs.lemmas.Bool.Decides.{nat_tests}
use Rattle.std.proofs.lemmas.List.Elements.{filter_agree}
use Rattle.dbtg_schema.specs.Lists.{Lists}
use Rattle.dbtg_schema.specs.Lookups.{first, some_and}
use Rattle.dbtg_cells.specs.declared.key.DbKey.{DbKey}
use Rattle.dbtg_cells.specs.declared.key.Value.{Value}
use Rattle.dbtg_cells.specs.declared.extent.Number.{Number}
use Rattle.dbtg_cells.specs.declared.name.CellName.TheVariants.{Extent}
use Rattle.dbtg_cells.specs.Keys.{key_eq, key_below, values_eq}
use Rattle.dbtg_cells.specs.Members.{is_left_out}
use Rattle.dbtg_cells.specs.Numbers.{numbers_from, numbers_where, is_used, is_free, has_values, entry_of, last_of, is_number_left_out}
use Rattle.dbtg_cells.specs.Shown.{ExtentValue}
use Rattle.dbtg_cells.proofs.Public.{key_eq_refl, same_key}
use Rattle.dbtg_unit.specs.Database.State.Base.{Database, Record, is_live, items_of, key_at, live_keys, calc_items}
use Rattle.dbtg_unit.specs.Database.State.Cells.{cell, number_of}
use Rattle.dbtg_unit.specs.Database.Statements.Effect.{free_number, new_key}
use Rattle.dbtg_unit.specs.Hands.Hands.{Hands}
use Rattle.dbtg_unit.specs.Database.Statements.Found.{with_calc}
use Rattle.dbtg_unit.specs.Hands.InHand.{in_hand, next_key_of, numbers_in}
use Rattle.dbtg_unit.specs.Inside.InHand.{key_of, values_of_key}
use Rattle.dbtg_unit.specs.Database.State.Legal.{Legal}
use Rattle.dbtg_unit.specs.Hands.Local.{Agrees, holds}
use Rattle.dbtg_unit.specs.Database.Statements.StoredFacts.{whole}
use Rattle.dbtg_unit.specs.declared.unit.Unit.{Unit}
use Rattle.dbtg_unit.proofs.Hands.Reading.AsTheDatabase.{numbers_in_hand}
use Rattle.dbtg_unit.proofs.Database.Legal.SameFacts.{SameNumbers}
use Rattle.dbtg_unit.proofs.Hands.Reading.ReadingCells.{calc_at, calc_in, calc_reads, last_reads}

-- LISTS

-- the numbers whose entries pass, of entries that are made number by number
numbers_made : (test : Number → Bool) (f : ℕ → Number) (a n : ℕ) → numbers_from a test (map f (range_with_len a n)) ≡ filter (λ m. test (f m)) (range_with_len a n)
numbers_made test f a zero = refl
numbers_made test f a (suc n) =
    let next : suc a ≡ a + 1 = omega arith in
    ap (λ ms. cond (test (f a)) (a ∷ ms) ms) (ap (λ m. numbers_from m test (map f (range_with_len (a + 1) n))) next ∙ numbers_made test f (a + 1) n)

pub filter_map : {X Y : Type 0} (p : Y → Bool) (f : X → Y) (xs : List X) → filter p (map f xs) ≡ map f (filter (λ x. p (f x)) xs)
filter_map p f [] = refl
filter_map p f (x ∷ xs) =
    ap (λ ys. cond (p (f x)) (f x ∷ ys) ys) (filter_map p f xs)
    ∙ elim (p (f x)) as (λ b. cond b (f x ∷ map f (filter (λ x. p (f x)) xs)) (map f (filter (λ x. p (f x)) xs)) ≡ map f (cond b (x ∷ filter (λ x. p (f x)) xs) (filter (λ x. p (f x)) xs))) [ true ↦ refl | false ↦ refl ]

both_pass : {X : Type 0} (p q : X → Bool) (xs : List X) → filter p (filter q xs) ≡ filter (λ x. q x && p x) xs
both_pass p q [] = refl
both_pass p q (x ∷ xs) = elim (q x) as (λ b. filter p (cond b (x ∷ filter q xs) (filter q xs)) ≡ cond (b && p x) (x ∷ filter (λ x. q x && p x) xs) (filter (λ x. q x && p x) xs)) [
  | true ↦ ap (λ ys. cond (p x) (x ∷ ys) ys) (both_pass p q xs)
  | false ↦ both_pass p q xs
]

any_made : {X Y : Type 0} (p : Y → Bool) (q : X → Bool) (f : X → Y) → ((x : X) → p (f x) ≡ q x) → (xs : List X) → list_any p (map f xs) ≡ list_any q xs
any_made p q f h [] = refl
any_made p q f h (x ∷ xs) = λ i. h x i || any_made p q f h xs i

pub first_map : {X Y : Type 0} (f : X → Y) (xs : List X) → first (map f xs) ≡ option_map f (first xs)
first_map f [] = refl
first_map f (x ∷ xs) = refl

module _ (schema : Lists) (capacity : ℕ) (db : Database) (legal : Legal schema capacity db) (t : ℕ) (numbers : List Number) (are : numbers ≡ map (number_of schema db t) (range_with_len 1 capacity)) where
  shows : ExtentValue numbers ≡ cell schema capacity db (Extent t)
  unfolding cell
  shows = ap ExtentValue are

  -- NUMBERS AND THEIR KEYS

  pub last_in_hand : (n : ℕ) → db.last t n ≡ last_of n numbers
  last_in_hand zero = last_reads schema capacity db legal t numbers shows zero
  last_in_hand (suc n) = last_reads schema capacity db legal t numbers shows (suc n)

  pub key_in_hand : (n : ℕ) → key_at db t n ≡ key_of numbers t n
  key_in_hand n = λ i. record { rtype = t; number = n; generation = last_in_hand n i }

  pub new_key_in_hand : (n : ℕ) → new_key db t n ≡ next_key_of numbers t n
  new_key_in_hand n = λ i. record { rtype = t; number = n; generation = last_in_hand n i + 1 }

  -- the numbers whose entries pass
  numbers_are : (test : Number → Bool) → numbers_where test numbers ≡ filter (λ n. test (number_of schema db t n)) (range_with_len 1 capacity)
  numbers_are test = ap (numbers_from 1 test) are ∙ numbers_made test (number_of schema db t) 1 capacity

  pub free_in_hand : free_number capacity db t ≡ first (numbers_where is_free numbers)
  free_in_hand =
      ap first
      (filter_agree (λ n. not (is_live db (key_at db t n)) && nat_lt (db.last t n) 255) (λ n. is_free (number_of schema db t n)) (λ n. ap (λ b. b && nat_lt (db.last t n) 255) (vacant (db.records (key_at db t n)))) (range_with_len 1 capacity)
      ∙ sym (numbers_are is_free)) where
        vacant : (r : Option Record) → not (is_some r) ≡ is_none (option_map (λ (r : Record). calc_items schema t r.items) r)
        vacant None = refl
        vacant (Some r) = refl

  keys_at : (ns : List ℕ) → map (key_at db t) ns ≡ map (key_of numbers t) ns
  keys_at ns = λ i. map (λ n. key_in_hand n i) ns

  pub live_keys_in_hand : live_keys capacity db t ≡ map (key_of numbers t) (numbers_where is_used numbers)
  live_keys_in_hand =
      filter_map (is_live db) (key_at db t) (range_with_len 1 capacity)
      ∙ ap (map (key_at db t))
      (filter_agree (λ n. is_live db (key_at db t n)) (λ n. is_used (number_of schema db t n)) (λ n. used (db.records (key_at db t n))) (range_with_len 1 capacity)
      ∙ sym (numbers_are is_used))
      ∙ keys_at (numbers_where is_used numbers) where
        used : (r : Option Record) → is_some r ≡ is_some (option_map (λ (r : Record). calc_items schema t r.items) r)
        used None = refl
        used (Some r) = refl

  -- the keys with these CALC values
  pub with_calc_in_hand : (values : List Value) → with_calc schema capacity db t values ≡ map (key_of numbers t) (numbers_where (has_values values) numbers)
  with_calc_in_hand values =
      ap (filter has) (filter_map (is_live db) (key_at db t) (range_with_len 1 capacity))
      ∙ filter_map has (key_at db t) (filter (λ n. is_live db (key_at db t n)) (range_with_len 1 capacity))
      ∙ ap (map (key_at db t))
      (both_pass (λ n. has (key_at db t n)) (λ n. is_live db (key_at db t n)) (range_with_len 1 capacity)
      ∙ filter_agree (λ n. is_live db (key_at db t n) && has (key_at db t n)) (λ n. has_values values (number_of schema db t n)) (λ n. valued (db.records (key_at db t n))) (range_with_len 1 capacity)
      ∙ sym (numbers_are (has_values values)))
      ∙ keys_at (numbers_where (has_values values) numbers) where
        has : DbKey → Bool
        has k = values_eq (calc_items schema t (items_of db k)) values

        valued : (r : Option Record) → is_some r && values_eq (calc_items schema t (unwrap_or (option_map (λ (r : Record). r.items) r) [])) values ≡ some_and (λ v. values_eq v values) (option_map (λ (r : Record). calc_items schema t r.items) r)
        valued None = refl
        valued (Some r) = refl

  -- A KEY OF THE TYPE

  -- its CALC values, where it is live
  pub values_in_hand : (k : DbKey) → k.rtype ≡ t → option_map (λ (r : Record). calc_items schema t r.items) (db.records k) ≡ values_of_key numbers k
  values_in_hand k is_t = calc_reads schema capacity db legal t numbers shows k is_t ∙ entry k.number where
    entry : (n : ℕ) → calc_in numbers n k ≡ option_and_then (λ (e : Number). calc_at e k) (entry_of n numbers)
    entry zero = refl
    entry (suc n) = refl

  pub live_by_extent : (k : DbKey) → k.rtype ≡ t → is_live db k ≡ is_some (values_of_key numbers k)
  live_by_extent k is_t = there (db.records k) ∙ ap is_some (values_in_hand k is_t) where
    there : (r : Option Record) → is_some r ≡ is_some (option_map (λ (r : Record). calc_items schema t r.items) r)
    there None = refl
    there (Some r) = refl

  pub calc_items_in_hand : (k : DbKey) → k.rtype ≡ t → calc_items schema t (items_of db k) ≡ unwrap_or (values_of_key numbers k) (calc_items schema t [])
  calc_items_in_hand k is_t = there (db.records k) ∙ ap (λ (v : Option (List Value)). unwrap_or v (calc_items schema t [])) (values_in_hand k is_t) where
    there : (r : Option Record) → calc_items schema t (unwrap_or (option_map (λ (r : Record). r.items) r) []) ≡ unwrap_or (option_map (λ (r : Record). calc_items schema t r.items) r) (calc_items schema t [])
    there None = refl
    there (Some r) = refl

  -- before and behind the key of a number
  pub above_in_hand : (k : DbKey) → k.rtype ≡ t → (n : ℕ) → key_below k (key_of numbers t n) ≡ nat_lt k.number n || (k.number == n && nat_lt k.generation (last_of n numbers))
  above_in_hand k is_t n = grind (arith, nat_tests, is_t)

  module _ (k : DbKey) (is_t : k.rtype ≡ t) (live : is_live db k ≡ true) where
    generation_is : (n : ℕ) → k.number ≡ n → k.generation ≡ last_of n numbers
    generation_is n e = (legal.keys k live).4 ∙ (λ i. db.last (is_t i) (e i)) ∙ last_in_hand n

    -- a live key is that of its number
    pub live_key_in_hand : k ≡ key_of numbers t k.number
    live_key_in_hand = λ i. record { rtype = is_t i; number = k.number; generation = generation_is k.number refl i }

    pub same_in_hand : (n : ℕ) → key_eq k (key_of numbers t n) ≡ k.number == n
    same_in_hand n =
        elim (cases_Bool (eqb k.number n)) [
          | inl e ↦ ap (key_eq k) (sym (live_key_in_hand ∙ ap (key_of numbers t) (eqb-true k.number n e))) ∙ key_eq_refl k ∙ sym e
          | inr e ↦ false_from_ne_true _ (λ h. false≢true (sym e ∙ eq-eqb k.number n (ap (λ (x : DbKey). x.number) (same_key k (key_of numbers t n) h)))) ∙ sym e
        ]

    pub behind_in_hand : (n : ℕ) → key_below k (key_of numbers t n) ≡ nat_lt k.number n
    behind_in_hand n =
        above_in_hand k is_t n ∙ elim (cases_Bool (eqb k.number n)) [
          | inl e ↦ let same : k.generation ≡ last_of n numbers = generation_is n (eqb-true k.number n e) in grind (arith, nat_tests, same)
          | inr e ↦ grind (arith, nat_tests, e)
        ]

    -- the keys of this list behind it
    pub keys_behind_in_hand : (ns : List ℕ) → filter (key_below k) (map (key_of numbers t) ns) ≡ map (key_of numbers t) (filter (nat_lt k.number) ns)
    keys_behind_in_hand ns = filter_map (key_below k) (key_of numbers t) ns ∙ ap (map (key_of numbers t)) (filter_agree (λ n. key_below k (key_of numbers t n)) (nat_lt k.number) behind_in_hand ns)

  -- CALC VALUES THAT A RECORD HAS

  has_unless : (values : List Value) (left : Option DbKey) → ((n : ℕ) → is_left_out left (key_of numbers t n) ≡ is_number_left_out (option_map (λ (k : DbKey). k.number) left) n)
      → list_any (λ n. not (is_number_left_out (option_map (λ (k : DbKey). k.number) left) n)) (numbers_where (has_values values) numbers) ≡ (whole schema capacity db).has_calc t values left
  has_unless values left h =
      sym (ap (list_any (λ k. not (is_left_out left k))) (with_calc_in_hand values)
      ∙ any_made (λ k. not (is_left_out left k)) (λ n. not (is_number_left_out (option_map (λ (k : DbKey). k.number) left) n)) (key_of numbers t) (λ n. ap not (h n)) (numbers_where (has_values values) numbers))

module _ (schema : Lists) (capacity : ℕ) (db : Database) (hands : Hands) (unit : Unit) (agrees : Agrees schema capacity db hands unit) (t : ℕ) (held : holds hands.cells (Extent t) ≡ true) where
  -- its extent answers as the database does
  pub same_numbers : SameNumbers (in_hand hands) (whole schema capacity db) t
  same_numbers =
      let are = numbers_in_hand schema capacity db hands unit agrees t held in
      record {
        is_full = ap is_none (sym (free_in_hand schema capacity db agrees.legal t (numbers_in hands t) are));
        has_calc = λ values. has_unless schema capacity db agrees.legal t (numbers_in hands t) are values None (λ n. refl);
      }

  -- also beside a live record of the type
  pub same_calc_beside : (k : DbKey) → k.rtype ≡ t → is_live db k ≡ true → (values : List Value) → (in_hand hands).has_calc t values (Some k) ≡ (whole schema capacity db).has_calc t values (Some k)
  same_calc_beside k is_t live values =
      let are = numbers_in_hand schema capacity db hands unit agrees t held in
      has_unless schema capacity db agrees.legal t (numbers_in hands t) are values (Some k) (same_in_hand schema capacity db agrees.legal t (numbers_in hands t) are k is_t live)
