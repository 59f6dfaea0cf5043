-- A list with a new member: what it has, how long it is, what it is without that member, and its order.
use Rattle.std.proofs.Common.{◌≡◌, refl, sym, ◌∙◌, ap, subst, suc, Bool, true, false, cond, not, ◌&&◌, ◌||◌, List, [], ◌∷◌, ◌++◌, length, inl, inr, arith, length-append}
use Rattle.std.specs.Prelude.{filter}
use Rattle.std.specs.List.{list_any, list_all}
use Rattle.std.proofs.lemmas.List.Folds.{list_all-append}
use Rattle.std.proofs.lemmas.List.Elements.{filter-append}
use Rattle.std.proofs.lemmas.List.Filters.{length-filter_both}
use Rattle.std.proofs.lemmas.Bool.{and_parts, and_from, or_parts, cases_Bool, not_from_true, not_from_false, not-true}
use Rattle.dbtg_cells.specs.Placed.{Spot, Front, Back, After, Before, Among, placed, after, before}
use Rattle.dbtg_cells.proofs.Public.{length_before}
use Rattle.dbtg_unit.specs.Database.State.Legal.{pairwise}

-- ALL

pub and_swap : (a b c : Bool) → (a && (b && c)) ≡ (b && (a && c))
and_swap true b c = refl
and_swap false true c = refl
and_swap false false c = refl

pub and_assoc : (a b c : Bool) → ((a && b) && c) ≡ (a && (b && c))
and_assoc true b c = refl
and_assoc false b c = refl

-- if all of both parts pass, all pass
pub all_parts : {X : Type 0} (p q : X → Bool) (xs : List X) → (list_all p (filter q xs) && list_all p (filter (λ x. not (q x)) xs)) ≡ list_all p xs
all_parts p q [] = refl
all_parts p q (x ∷ xs) =
    elim (q x) as (λ b. (list_all p (cond b (x ∷ filter q xs) (filter q xs)) && list_all p (cond (not b) (x ∷ filter (λ x. not (q x)) xs) (filter (λ x. not (q x)) xs))) ≡ (p x && list_all p xs)) [
      | true ↦ and_assoc (p x) _ _ ∙ ap (λ b. p x && b) (all_parts p q xs)
      | false ↦ and_swap _ (p x) _ ∙ ap (λ b. p x && b) (all_parts p q xs)
    ]

all_after : {X : Type 0} (p is : X → Bool) (m : X) (xs : List X) → list_all p (after is m xs) ≡ (p m && list_all p xs)
all_after p is m [] = refl
all_after p is m (x ∷ xs) =
    elim (is x) as (λ b. list_all p (cond b (x ∷ (m ∷ xs)) (x ∷ after is m xs)) ≡ (p m && list_all p (x ∷ xs))) [
      | true ↦ and_swap (p x) (p m) (list_all p xs)
      | false ↦ ap (λ b. p x && b) (all_after p is m xs) ∙ and_swap (p x) (p m) (list_all p xs)
    ]

all_before : {X : Type 0} (p is : X → Bool) (m : X) (xs : List X) → list_all p (before is m xs) ≡ (p m && list_all p xs)
all_before p is m [] = refl
all_before p is m (x ∷ xs) =
    elim (is x) as (λ b. list_all p (cond b (m ∷ (x ∷ xs)) (x ∷ before is m xs)) ≡ (p m && list_all p (x ∷ xs))) [
      | true ↦ refl
      | false ↦ ap (λ b. p x && b) (all_before p is m xs) ∙ and_swap (p x) (p m) (list_all p xs)
    ]

-- if each passes, so does each that a test keeps
pub all_filter : {X : Type 0} (p t : X → Bool) (xs : List X) → list_all p xs ≡ true → list_all p (filter t xs) ≡ true
all_filter p t xs h = (and_parts _ _ (all_parts p t xs ∙ h)).0

-- what holds of each that passes two tests
pub all_both : {X : Type 0} (p q r : X → Bool) (xs : List X) → ((x : X) → p x ≡ true → q x ≡ true → r x ≡ true) → list_all p xs ≡ true → list_all q xs ≡ true → list_all r xs ≡ true
all_both p q r [] f h g = refl
all_both p q r (x ∷ xs) f h g =
    let hs = and_parts _ _ h in
    let gs = and_parts _ _ g in
    and_from _ _ (f x hs.0 gs.0) (all_both p q r xs f hs.1 gs.1)

pub all_weaker : {X : Type 0} (p q : X → Bool) (xs : List X) → ((x : X) → p x ≡ true → q x ≡ true) → list_all p xs ≡ true → list_all q xs ≡ true
all_weaker p q xs f h = all_both p p q xs (λ x a b. f x a) h h

pub all_kept : {X : Type 0} (t : X → Bool) (xs : List X) → list_all t (filter t xs) ≡ true
all_kept t [] = refl
all_kept t (x ∷ xs) =
    elim (cases_Bool (t x)) [
      | inl e ↦ subst (λ b. list_all t (cond b (x ∷ filter t xs) (filter t xs)) ≡ true) (sym e) (and_from _ _ e (all_kept t xs))
      | inr e ↦ subst (λ b. list_all t (cond b (x ∷ filter t xs) (filter t xs)) ≡ true) (sym e) (all_kept t xs)
    ]

-- LENGTH

length_after : {X : Type 0} (is : X → Bool) (m : X) (xs : List X) → length (after is m xs) ≡ suc (length xs)
length_after is m [] = refl
length_after is m (x ∷ xs) = elim (is x) as (λ b. length (cond b (x ∷ (m ∷ xs)) (x ∷ after is m xs)) ≡ suc (suc (length xs))) [ true ↦ refl | false ↦ ap suc (length_after is m xs) ]

-- one longer, wherever the new member goes
pub length_placed : {X : Type 0} (spot : Spot X) (m : X) (xs : List X) → length (placed spot m xs) ≡ suc (length xs)
length_placed Front m xs = refl
length_placed {X} Back m xs = omega (arith, length-append xs (m ∷ []))
length_placed (After is) m xs = length_after is m xs
length_placed (Before is) m xs = length_before is m xs
length_placed {X} (Among c) m xs =
    let parts = length-filter_both c (λ x. not (c x)) (λ x. refl) xs in
    omega (arith, parts, length-append (filter c xs) (m ∷ filter (λ x. not (c x)) xs))

-- THE LIST WITHOUT THE NEW MEMBER

filter_after : {X : Type 0} (p is : X → Bool) (m : X) (xs : List X) → p m ≡ false → filter p (after is m xs) ≡ filter p xs
filter_after p is m [] h = ap (λ b. cond b (m ∷ []) []) h
filter_after p is m (x ∷ xs) h =
    elim (is x) as (λ b. filter p (cond b (x ∷ (m ∷ xs)) (x ∷ after is m xs)) ≡ filter p (x ∷ xs)) [
      | true ↦ ap (λ b. cond (p x) (x ∷ cond b (m ∷ filter p xs) (filter p xs)) (cond b (m ∷ filter p xs) (filter p xs))) h
      | false ↦ ap (λ ys. cond (p x) (x ∷ ys) ys) (filter_after p is m xs h)
    ]

filter_before : {X : Type 0} (p is : X → Bool) (m : X) (xs : List X) → p m ≡ false → filter p (before is m xs) ≡ filter p xs
filter_before p is m [] h = ap (λ b. cond b (m ∷ []) []) h
filter_before p is m (x ∷ xs) h =
    elim (is x) as (λ b. filter p (cond b (m ∷ (x ∷ xs)) (x ∷ before is m xs)) ≡ filter p (x ∷ xs)) [
      | true ↦ ap (λ b. cond b (m ∷ filter p (x ∷ xs)) (filter p (x ∷ xs))) h
      | false ↦ ap (λ ys. cond (p x) (x ∷ ys) ys) (filter_before p is m xs h)
    ]

-- the elements that come before a new one stand before the others
abbrev pub divides : {X : Type 0} → Spot X → List X → Bool
divides (Among c) xs = pairwise (λ x y. c x || not (c y)) xs
divides _ xs = true

pub filter_all : {X : Type 0} (p : X → Bool) (xs : List X) → list_all p xs ≡ true → filter p xs ≡ xs
filter_all p [] h = refl
filter_all p (x ∷ xs) h =
    let hs = and_parts _ _ h in
    ap (λ b. cond b (x ∷ filter p xs) (filter p xs)) hs.0 ∙ ap (λ ys. x ∷ ys) (filter_all p xs hs.1)

pub filter_none : {X : Type 0} (p : X → Bool) (xs : List X) → list_all (λ x. not (p x)) xs ≡ true → filter p xs ≡ []
filter_none p [] h = refl
filter_none p (x ∷ xs) h =
    let hs = and_parts _ _ h in
    ap (λ b. cond b (x ∷ filter p xs) (filter p xs)) (not-true (p x) hs.0) ∙ filter_none p xs hs.1

-- the two parts of a divided list are the list
pub parts : {X : Type 0} (c : X → Bool) (xs : List X) → pairwise (λ x y. c x || not (c y)) xs ≡ true → filter c xs ++ filter (λ x. not (c x)) xs ≡ xs
parts c [] h = refl
parts {X} c (x ∷ xs) h =
    elim (cases_Bool (c x)) [
      | inl e ↦ subst (λ b. goal b) (sym e) (ap (λ ys. x ∷ ys) (parts c xs (and_parts _ _ h).1))
      | inr e ↦
          let rest : list_all (λ y. not (c y)) xs ≡ true = subst (λ b. list_all (λ y. b || not (c y)) xs ≡ true) e (and_parts _ _ h).0 in
          subst (λ b. goal b) (sym e) ((λ i. filter_none c xs rest i ++ x ∷ filter_all (λ y. not (c y)) xs rest i))
    ] where
      goal : Bool → Type 0
      goal b = cond b (x ∷ filter c xs) (filter c xs) ++ cond (not b) (x ∷ filter (λ y. not (c y)) xs) (filter (λ y. not (c y)) xs) ≡ x ∷ xs

-- what is kept of a list is kept of it with a new member that is dropped
pub filter_placed : {X : Type 0} (p : X → Bool) (spot : Spot X) (m : X) (xs : List X) → p m ≡ false → divides spot xs ≡ true → filter p (placed spot m xs) ≡ filter p xs
filter_placed p Front m xs h d = ap (λ b. cond b (m ∷ filter p xs) (filter p xs)) h
filter_placed p Back m xs h d = filter-append p xs (m ∷ []) ∙ ap (λ b. filter p xs ++ cond b (m ∷ []) []) h ∙ append_nil (filter p xs) where
  append_nil : {X : Type 0} (ys : List X) → ys ++ [] ≡ ys
  append_nil [] = refl
  append_nil (y ∷ ys) = ap (λ zs. y ∷ zs) (append_nil ys)
filter_placed p (After is) m xs h d = filter_after p is m xs h
filter_placed p (Before is) m xs h d = filter_before p is m xs h
filter_placed p (Among c) m xs h d =
    filter-append p (filter c xs) (m ∷ filter (λ x. not (c x)) xs)
    ∙ ap (λ b. filter p (filter c xs) ++ cond b (m ∷ filter p (filter (λ x. not (c x)) xs)) (filter p (filter (λ x. not (c x)) xs))) h
    ∙ sym (filter-append p (filter c xs) (filter (λ x. not (c x)) xs))
    ∙ ap (filter p) (parts c xs d)

-- and is the list itself, if only the new member is dropped
pub less_placed : {X : Type 0} (is : X → Bool) (spot : Spot X) (m : X) (xs : List X) → is m ≡ true → list_any is xs ≡ false → divides spot xs ≡ true → filter (λ x. not (is x)) (placed spot m xs) ≡ xs
less_placed is spot m xs h none d = filter_placed (λ x. not (is x)) spot m xs (not_from_true _ h) d ∙ filter_all _ xs (all_from_none is xs none) where
  all_from_none : {X : Type 0} (is : X → Bool) (xs : List X) → list_any is xs ≡ false → list_all (λ x. not (is x)) xs ≡ true
  all_from_none is [] h = refl
  all_from_none is (x ∷ xs) h = let hs = or_parts _ _ h in and_from _ _ (not_from_false _ hs.0) (all_from_none is xs hs.1)

-- PAIRS

-- two lists in a row: each in itself, and each element of the first with each of the second
pub pairwise_append : {X : Type 0} (r : X → X → Bool) (xs ys : List X) → pairwise r xs ≡ true → pairwise r ys ≡ true → list_all (λ x. list_all (r x) ys) xs ≡ true → pairwise r (xs ++ ys) ≡ true
pairwise_append r [] ys h g f = g
pairwise_append r (x ∷ xs) ys h g f =
    let hs = and_parts _ _ h in
    let fs = and_parts _ _ f in
    and_from _ _ (list_all-append (r x) xs ys ∙ and_from _ _ hs.0 fs.0) (pairwise_append r xs ys hs.1 g fs.1)

-- what holds between each two, holds between each two that a test keeps
pub pairwise_filter : {X : Type 0} (r : X → X → Bool) (t : X → Bool) (xs : List X) → pairwise r xs ≡ true → pairwise r (filter t xs) ≡ true
pairwise_filter r t [] h = refl
pairwise_filter r t (x ∷ xs) h =
    let hs = and_parts _ _ h in
    elim (t x) as (λ b. pairwise r (cond b (x ∷ filter t xs) (filter t xs)) ≡ true) [
      | true ↦ and_from _ _ (all_filter (r x) t xs hs.0) (pairwise_filter r t xs hs.1)
      | false ↦ pairwise_filter r t xs hs.1
    ]

-- x stands on its side of m
abbrev pub on_its_side : {X : Type 0} → (X → X → Bool) → (X → Bool) → X → X → Bool
on_its_side r c m x = cond (c x) (r x m) (r m x)

-- a new member among a list in order, each element on its side of it
pub pairwise_among : {X : Type 0} (r : X → X → Bool) (c : X → Bool) (m : X) (xs : List X)
    → ((x y : X) → c x ≡ true → c y ≡ false → r x m ≡ true → r m y ≡ true → r x y ≡ true)
    → list_all (on_its_side r c m) xs ≡ true → pairwise r xs ≡ true → pairwise r (placed (Among c) m xs) ≡ true
pairwise_among {X} r c m xs across sides h =
    let others : X → Bool = λ x. not (c x) in
    let low : list_all (λ x. r x m) (filter c xs) ≡ true = all_both c (on_its_side r c m) (λ x. r x m) (filter c xs) (λ x e s. subst (λ b. cond b (r x m) (r m x) ≡ true) e s) (all_kept c xs) (all_filter (on_its_side r c m) c xs sides) in
    let high : list_all (r m) (filter others xs) ≡ true = all_both others (on_its_side r c m) (r m) (filter others xs) (λ x e s. subst (λ b. cond b (r x m) (r m x) ≡ true) (not-true (c x) e) s) (all_kept others xs) (all_filter (on_its_side r c m) others xs sides) in
    pairwise_append r (filter c xs) (m ∷ filter others xs) (pairwise_filter r c xs h) (and_from _ _ high (pairwise_filter r others xs h))
    (all_both c (λ x. r x m) (λ x. list_all (r x) (m ∷ filter others xs)) (filter c xs)
    (λ x e l. and_from _ _ l (all_both others (r m) (r x) (filter others xs) (λ y f g. across x y e (not-true (c y) f) l g) (all_kept others xs) high))
    (all_kept c xs) low)

module _ {X : Type 0} (r : X → X → Bool) (same : (x y : X) → r x y ≡ true → r y x ≡ true) where
  -- each kept element with each other one
  across : (c : X → Bool) (xs : List X) → pairwise r xs ≡ true → list_all (λ x. list_all (r x) (filter (λ y. not (c y)) xs)) (filter c xs) ≡ true
  across c [] h = refl
  across c (x ∷ xs) h =
      let hs = and_parts _ _ h in
      elim (c x) as (λ b. list_all (λ z. list_all (r z) (cond (not b) (x ∷ filter (λ y. not (c y)) xs) (filter (λ y. not (c y)) xs))) (cond b (x ∷ filter c xs) (filter c xs)) ≡ true) [
        | true ↦ and_from _ _ (all_filter (r x) (λ y. not (c y)) xs hs.0) (across c xs hs.1)
        | false ↦ all_both (r x) (λ z. list_all (r z) (filter (λ y. not (c y)) xs)) _ (filter c xs) (λ z e f. and_from _ _ (same x z e) f) (all_filter (r x) c xs hs.0) (across c xs hs.1)
      ]

  pairwise_after : (is : X → Bool) (m : X) (xs : List X) → list_all (r m) xs ≡ true → pairwise r xs ≡ true → pairwise r (after is m xs) ≡ true
  pairwise_after is m [] h g = refl
  pairwise_after is m (x ∷ xs) h g =
      let hs = and_parts _ _ h in
      let gs = and_parts _ _ g in
      elim (is x) as (λ b. pairwise r (cond b (x ∷ (m ∷ xs)) (x ∷ after is m xs)) ≡ true) [
        | true ↦ and_from _ _ (and_from _ _ (same m x hs.0) gs.0) (and_from _ _ hs.1 gs.1)
        | false ↦ and_from _ _ (all_after (r x) is m xs ∙ and_from _ _ (same m x hs.0) gs.0) (pairwise_after is m xs hs.1 gs.1)
      ]

  pairwise_before : (is : X → Bool) (m : X) (xs : List X) → list_all (r m) xs ≡ true → pairwise r xs ≡ true → pairwise r (before is m xs) ≡ true
  pairwise_before is m [] h g = refl
  pairwise_before is m (x ∷ xs) h g =
      let hs = and_parts _ _ h in
      let gs = and_parts _ _ g in
      elim (is x) as (λ b. pairwise r (cond b (m ∷ (x ∷ xs)) (x ∷ before is m xs)) ≡ true) [
        | true ↦ and_from _ _ h g
        | false ↦ and_from _ _ (all_before (r x) is m xs ∙ and_from _ _ (same m x hs.0) gs.0) (pairwise_before is m xs hs.1 gs.1)
      ]

  -- what holds of all pairs, either way round, and of the new member with each, holds wherever the new member goes
  pub pairwise_placed : (spot : Spot X) (m : X) (xs : List X) → list_all (r m) xs ≡ true → pairwise r xs ≡ true → pairwise r (placed spot m xs) ≡ true
  pairwise_placed Front m xs h g = and_from _ _ h g
  pairwise_placed Back m xs h g =
      pairwise_append r xs (m ∷ []) g refl (all_weaker (r m) (λ x. list_all (r x) (m ∷ [])) xs (λ x e. and_from _ _ (same m x e) refl) h)
  pairwise_placed (After is) m xs h g = pairwise_after is m xs h g
  pairwise_placed (Before is) m xs h g = pairwise_before is m xs h g
  pairwise_placed (Among c) m xs h g =
      let others : X → Bool = λ x. not (c x) in
      pairwise_append r (filter c xs) (m ∷ filter others xs) (pairwise_filter r c xs g) (and_from _ _ (all_filter (r m) others xs h) (pairwise_filter r others xs g))
      (all_both (r m) (λ z. list_all (r z) (filter others xs)) (λ z. list_all (r z) (m ∷ filter others xs)) (filter c xs) (λ z e f. and_from _ _ (same m z e) f) (all_filter (r m) c xs h) (across c xs g))

-- THE PLACE

-- behind the element that passes the test
pub placed_after : {X : Type 0} (is : X → Bool) (p m : X) (xs ys : List X) → is p ≡ true → list_any is xs ≡ false → placed (After is) m (xs ++ p ∷ ys) ≡ xs ++ p ∷ (m ∷ ys)
placed_after is p m [] ys h none = ap (λ b. cond b (p ∷ (m ∷ ys)) (p ∷ after is m ys)) h
placed_after is p m (x ∷ xs) ys h none =
    let ns = or_parts _ _ none in
    ap (λ b. cond b (x ∷ (m ∷ (xs ++ p ∷ ys))) (x ∷ after is m (xs ++ p ∷ ys))) ns.0 ∙ ap (λ zs. x ∷ zs) (placed_after is p m xs ys h ns.1)

-- in front of it
pub placed_before : {X : Type 0} (is : X → Bool) (p m : X) (xs ys : List X) → is p ≡ true → list_any is xs ≡ false → placed (Before is) m (xs ++ p ∷ ys) ≡ xs ++ m ∷ (p ∷ ys)
placed_before is p m [] ys h none = ap (λ b. cond b (m ∷ (p ∷ ys)) (p ∷ before is m ys)) h
placed_before is p m (x ∷ xs) ys h none =
    let ns = or_parts _ _ none in
    ap (λ b. cond b (m ∷ (x ∷ (xs ++ p ∷ ys))) (x ∷ before is m (xs ++ p ∷ ys))) ns.0 ∙ ap (λ zs. x ∷ zs) (placed_before is p m xs ys h ns.1)
