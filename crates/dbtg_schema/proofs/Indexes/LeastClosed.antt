-- `least_closed` is closed, and is in each closed set.
use Rattle.std.proofs.Common.{◌≡◌, refl, sym, ap, subst, ℕ, zero, suc, ◌<◌, ◌≤◌, Bool, true, false, cond, ◌||◌, List, [], ◌∷◌, length, inl, inr, ⊎_elim, ◌⊎◌, arith}
use Rattle.std.specs.Prelude.{filter}
use Rattle.std.specs.List.{list_any, list_all}
use Rattle.std.proofs.lemmas.Bool.{and_parts, and_from, or_cases, or_left, or_right, false≢true, cases_Bool}
use Rattle.dbtg_schema.specs.Closure.{grown, reached_in, least_closed, IsLeastClosed}

-- a wider test keeps the same elements, or more
wider : {X : Type 0} (t u : X → Bool) (xs : List X) → ((x : X) → t x ≡ true → u x ≡ true) → (filter t xs ≡ filter u xs) ⊎ (length (filter t xs) < length (filter u xs))
wider t u [] h = inl refl
wider {X} t u (x ∷ xs) h =
    elim (cases_Bool (t x)) [
      | inl tx ↦ subst (λ b. goal b (u x)) (sym tx) (subst (λ b. goal true b) (sym (h x tx)) (⊎_elim (λ e. inl (ap (λ (ys : List X). x ∷ ys) e)) (λ l. inr (omega arith)) (wider t u xs h)))
      | inr tx ↦ subst (λ b. goal b (u x)) (sym tx) (elim (u x) as (λ b. goal false b) [
        | true ↦ inr (⊎_elim (λ e. let same : length (filter t xs) ≡ length (filter u xs) = ap length e in omega arith) (λ l. omega arith) (wider t u xs h))
        | false ↦ wider t u xs h
      ])
    ] where
      goal : Bool → Bool → Type 0
      goal b c = (cond b (x ∷ filter t xs) (filter t xs) ≡ cond c (x ∷ filter u xs) (filter u xs)) ⊎ (length (cond b (x ∷ filter t xs) (filter t xs)) < length (cond c (x ∷ filter u xs) (filter u xs)))

-- if some element that a test keeps passes, so does some element that a wider test keeps
any_wider : {X : Type 0} (q t u : X → Bool) (xs : List X) → ((x : X) → t x ≡ true → u x ≡ true) → list_any q (filter t xs) ≡ true → list_any q (filter u xs) ≡ true
any_wider q t u [] h g = g
any_wider q t u (x ∷ xs) h g =
    elim (cases_Bool (t x)) [
      | inl tx ↦
          let kept = subst (λ b. list_any q (cond b (x ∷ filter t xs) (filter t xs)) ≡ true) tx g in
          subst (λ b. list_any q (cond b (x ∷ filter u xs) (filter u xs)) ≡ true) (sym (h x tx)) (⊎_elim (λ a. or_left (q x) _ a) (λ a. or_right (q x) _ (any_wider q t u xs h a)) (or_cases (q x) _ kept))
      | inr tx ↦
          let rest = any_wider q t u xs h (subst (λ b. list_any q (cond b (x ∷ filter t xs) (filter t xs)) ≡ true) tx g) in
          elim (u x) as (λ b. list_any q (cond b (x ∷ filter u xs) (filter u xs)) ≡ true) [ true ↦ or_right (q x) _ rest | false ↦ rest ]
    ]

-- a list is no shorter than what a test keeps of it
pub length_filter : {X : Type 0} (t : X → Bool) (xs : List X) → length (filter t xs) ≤ length xs
length_filter t [] = omega arith
length_filter t (x ∷ xs) =
    let below = length_filter t xs in
    elim (t x) as (λ b. length (cond b (x ∷ filter t xs) (filter t xs)) ≤ length (x ∷ xs)) [ true ↦ omega arith | false ↦ omega arith ]

-- where each element passes p and some passes q, one passes both
both : {X : Type 0} (p q : X → Bool) (xs : List X) → list_all p xs ≡ true → list_any q xs ≡ true → (x : X) × (p x ≡ true) × (q x ≡ true)
both p q [] h g = absurd (false≢true g)
both p q (x ∷ xs) h g =
    let hs = and_parts (p x) (list_all p xs) h in
    ⊎_elim (λ a. (x, hs.0, a)) (λ a. both p q xs hs.1 a) (or_cases (q x) (list_any q xs) g)

kept_pass : {X : Type 0} (p t : X → Bool) (xs : List X) → ((x : X) → t x ≡ true → p x ≡ true) → list_all p (filter t xs) ≡ true
kept_pass p t [] h = refl
kept_pass p t (x ∷ xs) h =
    elim (cases_Bool (t x)) [
      | inl tx ↦ subst (λ b. list_all p (cond b (x ∷ filter t xs) (filter t xs)) ≡ true) (sym tx) (and_from (p x) _ (h x tx) (kept_pass p t xs h))
      | inr tx ↦ subst (λ b. list_all p (cond b (x ∷ filter t xs) (filter t xs)) ≡ true) (sym tx) (kept_pass p t xs h)
    ]

module _ {X : Type 0} (leads : X → X → Bool) (start : X → Bool) (xs : List X) where
  -- who is reached in one step more
  joins : ℕ → X → Bool
  joins n y = start y || list_any (λ x. leads x y) (reached_in leads start xs n)

  joins_more : (n : ℕ) (y : X) → joins n y ≡ true → joins (suc n) y ≡ true
  unfolding joins
  joins_more zero y h = ⊎_elim (λ a. or_left (start y) _ a) (λ a. absurd (false≢true a)) (or_cases (start y) _ h)
  joins_more (suc n) y h =
      ⊎_elim (λ a. or_left (start y) _ a)
      (λ a. or_right (start y) _ (any_wider (λ x. leads x y) (joins n) (joins (suc n)) xs (joins_more n) a))
      (or_cases (start y) _ h)

  -- nothing more is reached, or there are more than the steps
  stable : (n : ℕ) → (reached_in leads start xs (suc n) ≡ reached_in leads start xs n) ⊎ (n < length (reached_in leads start xs (suc n)))
  unfolding joins
  stable zero = few (reached_in leads start xs 1) where
    few : (ys : List X) → (ys ≡ []) ⊎ (0 < length ys)
    few [] = inl refl
    few (y ∷ ys) = inr (omega arith)
  stable (suc n) =
      ⊎_elim (λ e. inl (ap (grown leads start xs) e))
      (λ l. ⊎_elim (λ e. inl (sym e)) (λ m. inr (omega arith)) (wider (joins n) (joins (suc n)) xs (joins_more n)))
      (stable n)

  pub closed : reached_in leads start xs (suc (length xs)) ≡ least_closed leads start xs
  closed =
      ⊎_elim (λ e. e) (λ l. let most = length_filter (λ y. start y || list_any (λ x. leads x y) (least_closed leads start xs)) xs in absurd (omega arith)) (stable (length xs))

  -- each closed set has it
  pub least : (p : X → Bool) → ((y : X) → start y ≡ true → p y ≡ true) → ((x y : X) → p x ≡ true → leads x y ≡ true → p y ≡ true) → (n : ℕ) → list_all p (reached_in leads start xs n) ≡ true
  least p starts goes zero = refl
  least p starts goes (suc n) =
      kept_pass p _ xs (λ y h. ⊎_elim (starts y) (λ a. let found = both p (λ x. leads x y) (reached_in leads start xs n) (least p starts goes n) a in goes found.0 y found.1 found.2) (or_cases (start y) _ h))

  pub least_closed_is_least : IsLeastClosed leads start xs (least_closed leads start xs)
  least_closed_is_least = record { closed = closed; least = λ p starts goes. least p starts goes (length xs) }
