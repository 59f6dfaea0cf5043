-- Lists of members, cut at a key; and what holds of any list, by its indexes, and of any test.
use Rattle.std.proofs.Common.{◌≡◌, ℕ, zero, suc, ◌<◌, Bool, true, false, cond, ◌||◌, List, [], ◌∷◌, ◌++◌, map, reverse, length, take, drop, refl, sym, ap, ◌∙◌, arith, slice_get, Some, ◌≢◌, get_or}
use Rattle.std.proofs.lemmas.List.{reverse-append, map-append}
use Rattle.std.specs.List.{list_any, position_or_len, insert, list_all}
use Rattle.std.specs.Prelude.{is_some, slice_set}
use Rattle.std.proofs.lemmas.Bool.{false≢true, and_parts}
use Rattle.dbtg_schema.specs.Lookups.{behind, in_front}
use Rattle.dbtg_cells.specs.Placed.{after, before}

module _ {X : Type 0} (is : X → Bool) where
  pub place_first : (x : X) (xs : List X) → is x ≡ true → position_or_len is (x ∷ xs) ≡ 0
  place_first x xs p = rw p refl

  pub place_later : (x : X) (xs : List X) → is x ≡ false → position_or_len is (x ∷ xs) ≡ suc (position_or_len is xs)
  place_later x xs p = rw p (omega arith)

  pub behind_drop : (xs : List X) → behind is xs ≡ drop (suc (position_or_len is xs)) xs
  behind_drop [] = refl
  behind_drop (x ∷ xs) = by (is x) refl (behind_drop xs)
    where
      by : (b : Bool) → is x ≡ b → behind is xs ≡ drop (suc (position_or_len is xs)) xs → behind is (x ∷ xs) ≡ drop (suc (position_or_len is (x ∷ xs))) (x ∷ xs)
      by true p rest = rw (place_first x xs p, p) refl
      by false p rest = rw (place_later x xs p, p) rest

  pub in_front_take : (xs : List X) → in_front is xs ≡ take (position_or_len is xs) xs
  in_front_take [] = refl
  in_front_take (x ∷ xs) = by (is x) refl (in_front_take xs)
    where
      by : (b : Bool) → is x ≡ b → in_front is xs ≡ take (position_or_len is xs) xs → in_front is (x ∷ xs) ≡ take (position_or_len is (x ∷ xs)) (x ∷ xs)
      by true p rest = rw (place_first x xs p, p) refl
      by false p rest = rw (place_later x xs p, p) (ap (λ ys. x ∷ ys) rest)

  pub after_insert : (m : X) (xs : List X) → position_or_len is xs < length xs → insert xs (suc (position_or_len is xs)) m ≡ after is m xs
  after_insert m [] h = absurd (omega arith)
  after_insert m (x ∷ xs) h = by (is x) refl (after_insert m xs)
    where
      by : (b : Bool) → is x ≡ b → (position_or_len is xs < length xs → insert xs (suc (position_or_len is xs)) m ≡ after is m xs) → insert (x ∷ xs) (suc (position_or_len is (x ∷ xs))) m ≡ after is m (x ∷ xs)
      by true p rest = rw (place_first x xs p, p) refl
      by false p rest =
          let within : position_or_len is xs < length xs = omega (arith, place_later x xs p) in
          rw (place_later x xs p, p) (ap (λ ys. x ∷ ys) (rest within))

  pub before_insert : (m : X) (xs : List X) → insert xs (position_or_len is xs) m ≡ before is m xs
  before_insert m [] = refl
  before_insert m (x ∷ xs) = by (is x) refl (before_insert m xs)
    where
      by : (b : Bool) → is x ≡ b → insert xs (position_or_len is xs) m ≡ before is m xs → insert (x ∷ xs) (position_or_len is (x ∷ xs)) m ≡ before is m (x ∷ xs)
      by true p rest = rw (place_first x xs p, p) refl
      by false p rest = rw (place_later x xs p, p) (ap (λ ys. x ∷ ys) rest)

module _ {X Y : Type 0} (f : X → Y) (is : Y → Bool) where
  pub behind_map : (xs : List X) → behind is (map f xs) ≡ map f (behind (λ x. is (f x)) xs)
  behind_map [] = refl
  behind_map (x ∷ xs) = by (is (f x)) (behind_map xs)
    where
      by : (b : Bool) → behind is (map f xs) ≡ map f (behind (λ x. is (f x)) xs) → cond b (map f xs) (behind is (map f xs)) ≡ map f (cond b xs (behind (λ x. is (f x)) xs))
      by true rest = refl
      by false rest = rest

  pub in_front_map : (xs : List X) → in_front is (map f xs) ≡ map f (in_front (λ x. is (f x)) xs)
  in_front_map [] = refl
  in_front_map (x ∷ xs) = by (is (f x)) (in_front_map xs)
    where
      by : (b : Bool) → in_front is (map f xs) ≡ map f (in_front (λ x. is (f x)) xs) → cond b [] (f x ∷ in_front is (map f xs)) ≡ map f (cond b [] (x ∷ in_front (λ x. is (f x)) xs))
      by true rest = refl
      by false rest = ap (λ ys. f x ∷ ys) rest

  pub any_map : (xs : List X) → list_any is (map f xs) ≡ list_any (λ x. is (f x)) xs
  any_map [] = refl
  any_map (x ∷ xs) = ap (λ b. is (f x) || b) (any_map xs)

-- a mapped list turned round
pub map_reverse : {X Y : Type 0} (f : X → Y) (xs : List X) → map f (reverse xs) ≡ reverse (map f xs)
map_reverse f [] = refl
map_reverse f (x ∷ xs) =
    ap (map f) (reverse-append (x ∷ []) xs) ∙ map-append f (reverse xs) (x ∷ []) ∙ ap (λ ys. ys ++ f x ∷ []) (map_reverse f xs) ∙ sym (reverse-append (f x ∷ []) (map f xs))

-- a list has something at each index below its length
pub there_is : {X : Type 0} (xs : List X) (i : ℕ) → i < length xs → (x : X) × (slice_get xs i ≡ Some x)
there_is [] i l = absurd (omega arith)
there_is (x ∷ xs) zero l = (x, refl)
there_is (x ∷ xs) (suc i) l = there_is xs i (omega arith)

-- an index at which a list has something is below its length
pub index_within : {X : Type 0} (xs : List X) (i : ℕ) → is_some (slice_get xs i) ≡ true → i < length xs
index_within [] i h = absurd (false≢true h)
index_within (x ∷ xs) zero h = omega arith
index_within (x ∷ xs) (suc i) h = let r = index_within xs i h in omega arith

-- what was written at an index is there
pub get_set_same : {X : Type 0} (xs : List X) (i : ℕ) (x : X) → i < length xs → slice_get (slice_set xs i x) i ≡ Some x
get_set_same [] i x low = absurd (omega arith)
get_set_same (y ∷ ys) zero x low = refl
get_set_same (y ∷ ys) (suc i) x low = get_set_same ys i x (omega arith)

-- what stands at another index than was written stays
pub get_set_other : {X : Type 0} (xs : List X) (i j : ℕ) (y : X) → j ≢ i → slice_get (slice_set xs i y) j ≡ slice_get xs j
get_set_other [] i j y n = refl
get_set_other (x ∷ xs) zero zero y n = absurd (n refl)
get_set_other (x ∷ xs) zero (suc j) y n = refl
get_set_other (x ∷ xs) (suc i) zero y n = refl
get_set_other (x ∷ xs) (suc i) (suc j) y n = get_set_other xs i j y (λ q. n (ap suc q))

-- what follows a list is at the index of its length
pub get_behind : {X : Type 0} (xs : List X) (x : X) (ys : List X) → slice_get (xs ++ x ∷ ys) (length xs) ≡ Some x
get_behind [] x ys = refl
get_behind (z ∷ zs) x ys = get_behind zs x ys

-- where both are the same, the test does not matter
pub either_way : {X : Type 0} (b : Bool) (x : X) → cond b x x ≡ x
either_way true x = refl
either_way false x = refl

-- two tests are the same where each passes with the other
pub same_truth : (a b : Bool) → (a ≡ true → b ≡ true) → (b ≡ true → a ≡ true) → a ≡ b
same_truth true b there back = sym (there refl)
same_truth false true there back = back refl
same_truth false false there back = refl

-- a list with one more at its end, turned round
pub reverse_more : {X : Type 0} (xs : List X) (x : X) → reverse (xs ++ x ∷ []) ≡ x ∷ reverse xs
reverse_more xs x = reverse-append xs (x ∷ [])

-- one is put before another: there is one more
pub length_before : {X : Type 0} (is : X → Bool) (m : X) (xs : List X) → length (before is m xs) ≡ suc (length xs)
length_before is m [] = refl
length_before is m (x ∷ xs) = elim (is x) as (λ b. length (cond b (m ∷ (x ∷ xs)) (x ∷ before is m xs)) ≡ suc (suc (length xs))) [ true ↦ refl | false ↦ ap suc (length_before is m xs) ]

-- what is made of what is made
pub map_twice : {X Y Z : Type 0} (f : Y → Z) (g : X → Y) (xs : List X) → map f (map g xs) ≡ map (λ x. f (g x)) xs
map_twice f g [] = refl
map_twice f g (x ∷ xs) = ap (λ zs. f (g x) ∷ zs) (map_twice f g xs)

-- where all pass, the one at an index does
pub passes_at : {X : Type 0} (p : X → Bool) (xs : List X) (i : ℕ) (d : X) → list_all p xs ≡ true → i < length xs → p (get_or xs i d) ≡ true
passes_at p [] i d h low = absurd (omega arith)
passes_at p (y ∷ ys) zero d h low = (and_parts _ _ h).0
passes_at p (y ∷ ys) (suc i) d h low = passes_at p ys i d (and_parts _ _ h).1 (omega arith)
