-- Lists, tests and places.
use Rattle.std.proofs.Common.{◌≡◌, refl, ◌∙◌, ap, Bool, true, false, cond, not, ◌||◌, List, [], ◌∷◌, ◌++◌}
use Rattle.std.specs.List.{list_any, list_all, filter}
use Rattle.std.proofs.lemmas.List.Folds.{list_any-append}
use Rattle.std.proofs.lemmas.Bool.{and_parts, and_from}
use Rattle.dbtg_cells.specs.Placed.{Spot, Front, Back, After, Before, Among, placed, after, before}
use Rattle.dbtg_unit.specs.Database.State.Legal.{pairwise}

pub or_assoc : (a b c : Bool) → ((a || b) || c) ≡ (a || (b || c))
or_assoc true b c = refl
or_assoc false b c = refl

pub or_comm : (a b : Bool) → (a || b) ≡ (b || a)
or_comm true true = refl
or_comm true false = refl
or_comm false true = refl
or_comm false false = refl

pub or_swap : (a b c : Bool) → (a || (b || c)) ≡ (b || (a || c))
or_swap true true c = refl
or_swap true false c = refl
or_swap false b c = refl

-- a new member is the one more that a list has, wherever it is placed
pub any_after : {X : Type 0} (p is : X → Bool) (m : X) (xs : List X) → list_any p (after is m xs) ≡ (p m || list_any p xs)
any_after p is m [] = refl
any_after p is m (x ∷ xs) =
    elim (is x) as (λ b. list_any p (cond b (x ∷ (m ∷ xs)) (x ∷ after is m xs)) ≡ (p m || list_any p (x ∷ xs))) [
      | true ↦ or_swap (p x) (p m) (list_any p xs)
      | false ↦ ap (λ b. p x || b) (any_after p is m xs) ∙ or_swap (p x) (p m) (list_any p xs)
    ]

pub any_before : {X : Type 0} (p is : X → Bool) (m : X) (xs : List X) → list_any p (before is m xs) ≡ (p m || list_any p xs)
any_before p is m [] = refl
any_before p is m (x ∷ xs) =
    elim (is x) as (λ b. list_any p (cond b (m ∷ (x ∷ xs)) (x ∷ before is m xs)) ≡ (p m || list_any p (x ∷ xs))) [
      | true ↦ refl
      | false ↦ ap (λ b. p x || b) (any_before p is m xs) ∙ or_swap (p x) (p m) (list_any p xs)
    ]

pub any_parts : {X : Type 0} (p q : X → Bool) (xs : List X) → (list_any p (filter q xs) || list_any p (filter (λ x. not (q x)) xs)) ≡ list_any p xs
any_parts p q [] = refl
any_parts p q (x ∷ xs) =
    elim (q x) as (λ b. (list_any p (cond b (x ∷ filter q xs) (filter q xs)) || list_any p (cond (not b) (x ∷ filter (λ x. not (q x)) xs) (filter (λ x. not (q x)) xs))) ≡ (p x || list_any p xs)) [
      | true ↦ or_assoc (p x) _ _ ∙ ap (λ b. p x || b) (any_parts p q xs)
      | false ↦ or_swap _ (p x) _ ∙ ap (λ b. p x || b) (any_parts p q xs)
    ]

pub any_placed : {X : Type 0} (p : X → Bool) (spot : Spot X) (m : X) (xs : List X) → list_any p (placed spot m xs) ≡ (p m || list_any p xs)
any_placed p Front m xs = refl
any_placed p Back m xs = list_any-append p xs (m ∷ []) ∙ ap (λ b. list_any p xs || b) (or_comm (p m) false) ∙ or_comm (list_any p xs) (p m)
any_placed p (After is) m xs = any_after p is m xs
any_placed p (Before is) m xs = any_before p is m xs
any_placed p (Among c) m xs =
    list_any-append p (filter c xs) (m ∷ filter (λ x. not (c x)) xs)
    ∙ or_swap (list_any p (filter c xs)) (p m) (list_any p (filter (λ x. not (c x)) xs))
    ∙ ap (λ b. p m || b) (any_parts p c xs)

-- one more at the end
pub pairwise_push : {X : Type 0} (test : X → X → Bool) (xs : List X) (m : X) → pairwise test xs ≡ true → list_all (λ x. test x m) xs ≡ true → pairwise test (xs ++ m ∷ []) ≡ true
pairwise_push test [] m h g = refl
pairwise_push test (x ∷ xs) m h g =
    let hs = and_parts (list_all (test x) xs) (pairwise test xs) h in
    let gs = and_parts (test x m) (list_all (λ y. test y m) xs) g in
    and_from (list_all (test x) (xs ++ m ∷ [])) (pairwise test (xs ++ m ∷ [])) (all_push (test x) xs m hs.0 gs.0) (pairwise_push test xs m hs.1 gs.1) where
      all_push : {X : Type 0} (p : X → Bool) (xs : List X) (m : X) → list_all p xs ≡ true → p m ≡ true → list_all p (xs ++ m ∷ []) ≡ true
      all_push p [] m h g = and_from (p m) true g refl
      all_push p (x ∷ xs) m h g = let hs = and_parts (p x) (list_all p xs) h in and_from (p x) (list_all p (xs ++ m ∷ [])) hs.0 (all_push p xs m hs.1 g)
