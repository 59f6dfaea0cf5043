-- Lists of units, numbered from 1, where one is written; and the locations of cells.
use Rattle.std.proofs.Common.{ℕ, zero, suc, ◌≡◌, ◌≢◌, Bool, true, false, cond, List, [], ◌∷◌, map, Some, slice_get, slice_set, ◌⊎◌, inl, inr, refl, sym, ap, ◌∙◌, subst, arith}
use Rattle.std.specs.Prelude.{option_map}
use Rattle.std.proofs.lemmas.Option.{slice_get-map}
use Rattle.std.proofs.lemmas.Bool.{false_from_ne_true}
use Rattle.std.proofs.lemmas.List.{set-set, map-set}
use Rattle.dbtg_cells.proofs.Public.{get_set_other}
use Rattle.dbtg_step.specs.Machine.SequentialDatabase.{SequentialDatabase, NamesCells, unit_at, with_unit_at}
use Rattle.dbtg_step.specs.Machine.Machine.{CellLocation, relocated}

-- BY INDEX

-- what is found in a list after a write: what was written, or what was there
pub found_of : {X : Type 0} (xs : List X) (i j : ℕ) (y z : X) → slice_get (slice_set xs i y) j ≡ Some z → ((j ≡ i) × (y ≡ z)) ⊎ ((j ≢ i) × (slice_get xs j ≡ Some z))
found_of [] i j y z e = absurd (cc)
found_of (x ∷ xs) zero zero y z e = inl (refl, cc)
found_of (x ∷ xs) zero (suc j) y z e = inr (omega arith, e)
found_of (x ∷ xs) (suc i) zero y z e = inr (omega arith, e)
found_of (x ∷ xs) (suc i) (suc j) y z e = elim (found_of xs i j y z e) [ inl p ↦ inl (ap suc p.0, p.1) | inr p ↦ inr (λ q. p.0 (cc), p.1) ]

found_there : {X : Type 0} (xs : List X) (i : ℕ) (x y : X) → slice_get xs i ≡ Some x → slice_get (slice_set xs i y) i ≡ Some y
found_there [] i x y e = cc
found_there (x' ∷ xs) zero x y e = refl
found_there (x' ∷ xs) (suc i) x y e = found_there xs i x y e

mapped_same : {X Y : Type 0} (f : X → Y) (xs : List X) (i : ℕ) (x y : X) → slice_get xs i ≡ Some x → f y ≡ f x → map f (slice_set xs i y) ≡ map f xs
mapped_same f [] i x y e q = refl
mapped_same f (x' ∷ xs) zero x y e q = let h : x' ≡ x = cc in ap (λ a. a ∷ map f xs) (q ∙ ap f (sym h))
mapped_same f (x' ∷ xs) (suc i) x y e q = ap (λ ys. f x' ∷ ys) (mapped_same f xs i x y e q)

-- what stands at an index, written there again
pub set_same_at : {X : Type 0} (xs : List X) (i : ℕ) (x : X) → slice_get xs i ≡ Some x → slice_set xs i x ≡ xs
set_same_at [] i x e = refl
set_same_at (y ∷ xs) zero x e = let h : y ≡ x = cc in ap (λ a. a ∷ xs) (sym h)
set_same_at (y ∷ xs) (suc i) x e = ap (λ ys. y ∷ ys) (set_same_at xs i x e)

pub mapped_found : {X Y : Type 0} (f : X → Y) (xs : List X) (i : ℕ) (x : X) → slice_get xs i ≡ Some x → slice_get (map f xs) i ≡ Some (f x)
mapped_found f [] i x e = cc
mapped_found f (x' ∷ xs) zero x e = let h : x' ≡ x = cc in ap (λ a. Some (f a)) h
mapped_found f (x' ∷ xs) (suc i) x e = mapped_found f xs i x e

-- BY NUMBER

-- what is found in a list that was written at number u
pub set_found : {X : Type 0} (xs : List X) (u w : ℕ) (y z : X) → unit_at (with_unit_at xs u y) w ≡ Some z → ((w ≡ u) × (y ≡ z)) ⊎ ((w ≢ u) × (unit_at xs w ≡ Some z))
unfolding unit_at with_unit_at
set_found xs u zero y z e = absurd (cc (e))
set_found xs zero (suc w) y z e = inr (omega arith, e)
set_found xs (suc u) (suc w) y z e = elim (found_of xs u w y z e) [ inl p ↦ inl (ap suc p.0, p.1) | inr p ↦ inr (λ q. p.0 (cc), p.1) ]

pub set_at : {X : Type 0} (xs : List X) (u : ℕ) (x y : X) → unit_at xs u ≡ Some x → unit_at (with_unit_at xs u y) u ≡ Some y
unfolding unit_at with_unit_at
set_at xs zero x y e = absurd (cc (e))
set_at xs (suc u) x y e = found_there xs u x y e

pub set_elsewhere : {X : Type 0} (xs : List X) (u w : ℕ) (y : X) → w ≢ u → unit_at (with_unit_at xs u y) w ≡ unit_at xs w
unfolding unit_at with_unit_at
set_elsewhere xs u zero y n = refl
set_elsewhere xs zero (suc w) y n = refl
set_elsewhere xs (suc u) (suc w) y n = get_set_other xs u w y (λ q. n (ap suc q))

pub map_set_same : {X Y : Type 0} (f : X → Y) (xs : List X) (u : ℕ) (x y : X) → unit_at xs u ≡ Some x → f y ≡ f x → map f (with_unit_at xs u y) ≡ map f xs
unfolding unit_at with_unit_at
map_set_same f xs zero x y e q = refl
map_set_same f xs (suc u) x y e q = mapped_same f xs u x y e q

pub map_set : {X Y : Type 0} (f : X → Y) (xs : List X) (u : ℕ) (y : X) → map f (with_unit_at xs u y) ≡ with_unit_at (map f xs) u (f y)
unfolding with_unit_at
map_set f xs zero y = refl
map_set f xs (suc u) y = map-set f xs u y

pub map_found : {X Y : Type 0} (f : X → Y) (xs : List X) (u : ℕ) (x : X) → unit_at xs u ≡ Some x → unit_at (map f xs) u ≡ Some (f x)
unfolding unit_at
map_found f xs zero x e = absurd (cc (e))
map_found f xs (suc u) x e = mapped_found f xs u x e

pub map_at : {X Y : Type 0} (f : X → Y) (xs : List X) (u : ℕ) → unit_at (map f xs) u ≡ option_map f (unit_at xs u)
unfolding unit_at
map_at f xs zero = refl
map_at f xs (suc u) = slice_get-map f xs u

-- a unit that is written twice has what was written last
pub set_again : {X : Type 0} (xs : List X) (u : ℕ) (y z : X) → with_unit_at (with_unit_at xs u y) u z ≡ with_unit_at xs u z
unfolding with_unit_at
set_again xs zero y z = refl
set_again xs (suc u) y z = set-set xs u y z

pub set_same : {X : Type 0} (xs : List X) (u : ℕ) (x : X) → unit_at xs u ≡ Some x → with_unit_at xs u x ≡ xs
unfolding unit_at with_unit_at
set_same xs zero x e = refl
set_same xs (suc u) x e = set_same_at xs u x e

-- LOCATIONS

cond_tells : {X : Type 0} (b : Bool) (x y z : X) → cond b x y ≡ z → ((b ≡ true) × (x ≡ z)) ⊎ ((b ≡ false) × (y ≡ z))
cond_tells true x y z e = inl (refl, e)
cond_tells false x y z e = inr (refl, e)

module _ (D : SequentialDatabase) (names : NamesCells D) where
  pub relocated_found : (location : D.Cell → CellLocation D.Value) (c d : D.Cell) (p q : CellLocation D.Value) → relocated D location c p d ≡ q → ((d ≡ c) × (p ≡ q)) ⊎ ((d ≢ c) × (location d ≡ q))
  unfolding relocated
  relocated_found location c d p q e = elim (cond_tells (D.same_name d c) p (location d) q e) [
    | inl h ↦ inl (names.same_is d c h.0, h.1)
    | inr h ↦ inr ((λ k. let t : D.same_name d c ≡ true = subst (λ x. D.same_name d x ≡ true) k (names.same_self d) in cc), h.1)
  ]

  pub relocated_at : (location : D.Cell → CellLocation D.Value) (c : D.Cell) (p : CellLocation D.Value) → relocated D location c p c ≡ p
  unfolding relocated
  relocated_at location c p = rw (names.same_self c)

  pub relocated_elsewhere : (location : D.Cell → CellLocation D.Value) (c d : D.Cell) (p : CellLocation D.Value) → d ≢ c → relocated D location c p d ≡ location d
  unfolding relocated
  relocated_elsewhere location c d p n = rw (false_from_ne_true (D.same_name d c) (λ t. n (names.same_is d c t)))
