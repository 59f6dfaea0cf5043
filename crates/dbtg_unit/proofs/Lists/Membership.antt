-- What a list contains, what comes from it, and what is found in it.
use Rattle.std.proofs.Common.{◌≡◌, refl, sym, ◌∙◌, ap, subst, ℕ, zero, suc, ◌+◌, ◌<◌, ◌≤◌, Bool, true, false, cond, List, [], ◌∷◌, ◌++◌, Option, Some, None, arith, inl, inr, ⊎_elim, ◌⊎◌, map}
use Rattle.std.specs.Prelude.{filter, slice_get}
use Rattle.std.specs.List.{list_any, list_all, find, range_with_len, flat_map}
use Rattle.std.proofs.lemmas.Bool.{and_parts, or_cases, or_left, or_right, cases_Bool, false≢true, false_from_ne_true, cases_eq}
use Rattle.std.proofs.lemmas.Option.{none-some, same_Some}
use Rattle.dbtg_schema.specs.Lookups.{some_and}

-- x is an element of the list
abbrev pub In : {X : Type 0} → X → List X → Type 0
In x [] = ⊥
In x (y ∷ ys) = (y ≡ x) ⊎ In x ys

-- some element passes
pub any_in : {X : Type 0} (p : X → Bool) (x : X) (xs : List X) → In x xs → p x ≡ true → list_any p xs ≡ true
any_in p x [] i h = absurd i
any_in {X} p x (y ∷ xs) i h = ⊎_elim (λ e. or_left _ _ (subst (λ (z : X). p z ≡ true) (sym e) h)) (λ j. or_right _ _ (any_in p x xs j h)) i

-- and the one that does
pub any_element : {X : Type 0} (p : X → Bool) (xs : List X) → list_any p xs ≡ true → (x : X) × In x xs × (p x ≡ true)
any_element p [] h = absurd (false≢true h)
any_element p (x ∷ xs) h = ⊎_elim (λ l. (x, inl refl, l)) (λ r. let e = any_element p xs r in (e.0, inr e.1, e.2)) (or_cases _ _ h)

pub all_at : {X : Type 0} (p : X → Bool) (x : X) (xs : List X) → list_all p xs ≡ true → In x xs → p x ≡ true
all_at p x [] h i = absurd i
all_at {X} p x (y ∷ xs) h i = ⊎_elim (λ e. subst (λ (z : X). p z ≡ true) e (and_parts _ _ h).0) (λ j. all_at p x xs (and_parts _ _ h).1 j) i

pub in_map : {X Y : Type 0} (f : X → Y) (x : X) (xs : List X) → In x xs → In (f x) (map f xs)
in_map f x [] i = i
in_map f x (y ∷ xs) i = ⊎_elim (λ e. inl (ap f e)) (λ j. inr (in_map f x xs j)) i

pub in_filter : {X : Type 0} (p : X → Bool) (x : X) (xs : List X) → In x xs → p x ≡ true → In x (filter p xs)
in_filter p x [] i h = i
in_filter {X} p x (y ∷ xs) i h =
    ⊎_elim
    (λ e. subst (λ b. In x (cond b (y ∷ filter p xs) (filter p xs))) (sym (subst (λ (z : X). p z ≡ true) (sym e) h)) (inl e))
    (λ j. elim (p y) as (λ b. In x (cond b (y ∷ filter p xs) (filter p xs))) [ true ↦ inr (in_filter p x xs j h) | false ↦ in_filter p x xs j h ])
    i

pub in_left : {X : Type 0} (x : X) (xs ys : List X) → In x xs → In x (xs ++ ys)
in_left x [] ys i = absurd i
in_left x (y ∷ xs) ys i = ⊎_elim (λ e. inl e) (λ j. inr (in_left x xs ys j)) i

pub in_right : {X : Type 0} (x : X) (xs ys : List X) → In x ys → In x (xs ++ ys)
in_right x [] ys i = i
in_right x (y ∷ xs) ys i = inr (in_right x xs ys i)

pub in_flat_map : {X Y : Type 0} (f : X → List Y) (x : X) (y : Y) (xs : List X) → In x xs → In y (f x) → In y (flat_map f xs)
in_flat_map f x y [] i j = absurd i
in_flat_map {X} f x y (z ∷ xs) i j =
    ⊎_elim (λ e. in_left y (f z) (flat_map f xs) (subst (λ (w : X). In y (f w)) (sym e) j)) (λ k. in_right y (f z) (flat_map f xs) (in_flat_map f x y xs k j)) i

-- what an element of a kept, mapped or joined list comes from
pub of_filter : {X : Type 0} (p : X → Bool) (x : X) (xs : List X) → In x (filter p xs) → In x xs × (p x ≡ true)
of_filter p x [] i = absurd i
of_filter {X} p x (y ∷ xs) i =
    elim (cases_Bool (p y)) [
      | inl h ↦ ⊎_elim (λ e. (inl e, subst (λ (z : X). p z ≡ true) e h)) (λ j. let r = of_filter p x xs j in (inr r.0, r.1)) (subst (λ b. In x (cond b (y ∷ filter p xs) (filter p xs))) h i)
      | inr h ↦ let r = of_filter p x xs (subst (λ b. In x (cond b (y ∷ filter p xs) (filter p xs))) h i) in (inr r.0, r.1)
    ]

pub of_map : {X Y : Type 0} (f : X → Y) (y : Y) (xs : List X) → In y (map f xs) → (x : X) × In x xs × (f x ≡ y)
of_map f y [] i = absurd i
of_map f y (x ∷ xs) i = ⊎_elim (λ e. (x, inl refl, e)) (λ j. let r = of_map f y xs j in (r.0, inr r.1, r.2)) i

pub of_append : {X : Type 0} (x : X) (xs ys : List X) → In x (xs ++ ys) → In x xs ⊎ In x ys
of_append x [] ys i = inr i
of_append x (y ∷ xs) ys i = ⊎_elim (λ e. inl (inl e)) (λ j. ⊎_elim (λ k. inl (inr k)) (λ k. inr k) (of_append x xs ys j)) i

pub of_flat_map : {X Y : Type 0} (f : X → List Y) (y : Y) (xs : List X) → In y (flat_map f xs) → (x : X) × In x xs × In y (f x)
of_flat_map f y [] i = absurd i
of_flat_map f y (x ∷ xs) i = ⊎_elim (λ j. (x, inl refl, j)) (λ j. let r = of_flat_map f y xs j in (r.0, inr r.1, r.2)) (of_append y (f x) (flat_map f xs) i)

pub in_range : (n a i : ℕ) → a ≤ i → i < a + n → In i (range_with_len a n)
in_range zero a i h g = absurd (omega arith)
in_range (suc n) a i h g = elim (cases_eq a i) [ inl e ↦ inl e | inr e ↦ inr (in_range n (a + 1) i (omega arith) (omega arith)) ]

pub of_range : (n a i : ℕ) → In i (range_with_len a n) → (a ≤ i) × (i < a + n)
of_range zero a i h = absurd h
of_range (suc n) a i h = ⊎_elim (λ e. (omega arith, omega arith)) (λ j. let r = of_range n (a + 1) i j in let low = r.0 in let high = r.1 in (omega arith, omega arith)) h

-- where an element stands
pub place_of_element : {X : Type 0} (x : X) (xs : List X) → In x xs → (j : ℕ) × (slice_get xs j ≡ Some x)
place_of_element x [] i = absurd i
place_of_element x (y ∷ xs) i = elim i [ inl e ↦ (0, ap Some e) | inr k ↦ let r = place_of_element x xs k in (suc r.0, r.1) ]

-- WHAT IS FOUND

pub some_and_value : {X : Type 0} (test : X → Bool) (o : Option X) → some_and test o ≡ true → (x : X) × (o ≡ Some x) × (test x ≡ true)
some_and_value test None h = absurd (false≢true h)
some_and_value test (Some x) h = (x, refl, h)

-- the first that passes
pub find_element : {X : Type 0} (p : X → Bool) (xs : List X) (x : X) → find p xs ≡ Some x → In x xs × (p x ≡ true)
find_element p [] x h = absurd (none-some x h)
find_element {X} p (y ∷ xs) x h =
    elim (cases_Bool (p y)) [
      | inl e ↦ let same = same_Some y x (subst (λ b. cond b (Some y) (find p xs) ≡ Some x) e h) in (inl same, subst (λ (z : X). p z ≡ true) same e)
      | inr e ↦ let r = find_element p xs x (subst (λ b. cond b (Some y) (find p xs) ≡ Some x) e h) in (inr r.0, r.1)
    ]

-- the only one that passes
pub find_only : {X : Type 0} (p : X → Bool) (xs : List X) (x : X) → In x xs → p x ≡ true → ((y : X) → p y ≡ true → y ≡ x) → find p xs ≡ Some x
find_only p [] x i h only = absurd i
find_only p (y ∷ xs) x i h only =
    elim (cases_Bool (p y)) [
      | inl e ↦ ap (λ b. cond b (Some y) (find p xs)) e ∙ ap Some (only y e)
      | inr e ↦ ap (λ b. cond b (Some y) (find p xs)) e
          ∙ ⊎_elim (λ same. absurd (false≢true (sym e ∙ ap p same ∙ h))) (λ j. find_only p xs x j h only) i
    ]

pub find_none : {X : Type 0} (p : X → Bool) (xs : List X) → ((x : X) → p x ≡ true → ⊥) → find p xs ≡ None
find_none p [] h = refl
find_none p (x ∷ xs) h = ap (λ b. cond b (Some x) (find p xs)) (false_from_ne_true _ (h x)) ∙ find_none p xs h

-- what is not found is not at the head
find_skips : {X : Type 0} (p : X → Bool) (y : X) (ys : List X) (b : Bool) → p y ≡ b → find p (y ∷ ys) ≡ None → (p y ≡ false) × (find p ys ≡ None)
find_skips p y ys true h e = absurd (cc (e, h))
find_skips p y ys false h e = (h, (let k : find p ys ≡ None = cc (e, h) in k))

-- where none is found, no element passes
pub find_none_of : {X : Type 0} (p : X → Bool) (xs : List X) → find p xs ≡ None → (x : X) → In x xs → p x ≡ false
find_none_of p [] e x i = absurd i
find_none_of {X} p (y ∷ ys) e x (inl q) = subst (λ (z : X). p z ≡ false) q (find_skips p y ys (p y) refl e).0
find_none_of p (y ∷ ys) e x (inr j) = find_none_of p ys (find_skips p y ys (p y) refl e).1 x j
