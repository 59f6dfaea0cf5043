-- Names that differ, and the numbers that they have.
use Rattle.std.proofs.Common.{◌≡◌, ℕ, ◌+◌, ◌≤◌, Bool, true, false, cond, not, ◌||◌, List, [], ◌∷◌, ◌++◌, map, Some, refl, sym, ap, subst, ◌∙◌, arith, inl, inr, true≢false}
use Rattle.std.specs.Prelude.{unwrap_or, ◌==◌}
use Rattle.std.specs.List.{list_any, position_from}
use Rattle.std.specs.Str.{bytes_eq}
use Rattle.std.proofs.lemmas.Bool.{cases_Bool, eqb-true, and_parts, or_parts}
use Rattle.std.proofs.lemmas.Slice.Eq.{bytes_eq-Decides}
use Rattle.std.proofs.lemmas.List.Folds.{list_any-append}
use Rattle.dbtg_schema.specs.Texts.Spelling.{among}
use Rattle.dbtg_schema.specs.Texts.SchemaLists.{number_of}
use Rattle.dbtg_schema.specs.WellFormed.{distinct, same_number}

-- the other of two, where the first is false
pub second_of_two : (a b : Bool) → a ≡ false → (a || b) ≡ true → b ≡ true
second_of_two true b e h = absurd cc
second_of_two false b e h = h

pub same_bytes : (m n : List ℕ) → bytes_eq m n ≡ true → m ≡ n
same_bytes m n h = (bytes_eq-Decides m n).0 h

pub bytes_same : (n : List ℕ) → bytes_eq n n ≡ true
bytes_same n = (bytes_eq-Decides n n).1 refl

-- texts that differ do so either way round
pub other_bytes : (m n : List ℕ) → bytes_eq m n ≡ false → bytes_eq n m ≡ false
other_bytes m n h = elim (cases_Bool (bytes_eq n m)) [
  | inl same ↦ absurd (true≢false (sym (bytes_same m) ∙ ap (bytes_eq m) (sym (same_bytes n m same)) ∙ h))
  | inr other ↦ other
]

pub name_among_append : (n : List ℕ) (xs ys : List (List ℕ)) → among n (xs ++ ys) ≡ (among n xs || among n ys)
name_among_append n xs ys = list_any-append (bytes_eq n) xs ys

-- a name that is not among the others may stand anywhere between them
pub distinct_with : (xs ys : List (List ℕ)) (n : List ℕ) → distinct bytes_eq (xs ++ ys) ≡ true → among n (xs ++ ys) ≡ false → distinct bytes_eq (xs ++ n ∷ ys) ≡ true
distinct_with [] ys n d a = rw (a, d) refl
distinct_with (x ∷ xs) ys n d a =
    let parts = and_parts (not (among x (xs ++ ys))) (distinct bytes_eq (xs ++ ys)) d in
    let apart = or_parts (bytes_eq n x) (among n (xs ++ ys)) a in
    rw (still x xs parts.0 (other_bytes n x apart.0), distinct_with xs ys n parts.1 apart.1) refl
  where
    still : (x : List ℕ) (xs : List (List ℕ)) → not (among x (xs ++ ys)) ≡ true → bytes_eq x n ≡ false → not (among x (xs ++ n ∷ ys)) ≡ true
    still x xs h e = ap not (name_among_append x xs (n ∷ ys) ∙ ap (λ b. among x xs || b) (ap (λ b. b || among x ys) e) ∙ sym (name_among_append x xs ys)) ∙ h

pub distinct_behind : (xs : List (List ℕ)) (n : List ℕ) → distinct bytes_eq xs ≡ true → among n xs ≡ false → distinct bytes_eq (xs ++ n ∷ []) ≡ true
distinct_behind xs n d a = distinct_with xs [] n (subst (λ z. distinct bytes_eq z ≡ true) (sym (nil xs)) d) (subst (λ z. among n z ≡ false) (sym (nil xs)) a)
  where
    nil : (xs : List (List ℕ)) → xs ++ [] ≡ xs
    nil [] = refl
    nil (x ∷ xs) = ap (λ z. x ∷ z) (nil xs)

-- THE NUMBER OF A NAME

-- where a name is found from a number on
abbrev Found : List ℕ → ℕ → List (List ℕ) → Type 0
Found n i names = (p : ℕ) × (position_from (bytes_eq n) i names ≡ Some p) × (i ≤ p)

found_from : (n : List ℕ) (i : ℕ) (names : List (List ℕ)) → among n names ≡ true → Found n i names
found_from n i [] h = absurd cc
found_from n i (x ∷ names) h = elim (cases_Bool (bytes_eq n x)) [
  | inl same ↦ (i, ap (λ b. cond b (Some i) (position_from (bytes_eq n) (i + 1) names)) same, omega arith)
  | inr other ↦
      let r = found_from n (i + 1) names (second_of_two (bytes_eq n x) (among n names) other h) in
      let k = r.2 in
      (r.0, ap (λ b. cond b (Some i) (position_from (bytes_eq n) (i + 1) names)) other ∙ r.1, omega arith)
]

one_value : (p q : ℕ) → Some p ≡ Some q → p ≡ q
one_value p q h = cc

same_place : (m n : List ℕ) (i : ℕ) (names : List (List ℕ)) (p : ℕ) → position_from (bytes_eq m) i names ≡ Some p → position_from (bytes_eq n) i names ≡ Some p → among m names ≡ true → among n names ≡ true → m ≡ n
same_place m n i [] p h k a b = absurd cc
same_place m n i (x ∷ names) p h k a b = elim (cases_Bool (bytes_eq m x)) [
  | inl mx ↦ elim (cases_Bool (bytes_eq n x)) [
    | inl nx ↦ same_bytes m x mx ∙ sym (same_bytes n x nx)
    | inr ny ↦
        let at_i : i ≡ p = one_value i p (sym (ap (λ b. cond b (Some i) (position_from (bytes_eq m) (i + 1) names)) mx) ∙ h) in
        let r = found_from n (i + 1) names (second_of_two (bytes_eq n x) (among n names) ny b) in
        let e : r.0 ≡ p = one_value r.0 p (sym r.1 ∙ sym (ap (λ b. cond b (Some i) (position_from (bytes_eq n) (i + 1) names)) ny) ∙ k) in
        let low = r.2 in
        absurd (omega arith)
  ]
  | inr my ↦ elim (cases_Bool (bytes_eq n x)) [
    | inl nx ↦
        let at_i : i ≡ p = one_value i p (sym (ap (λ b. cond b (Some i) (position_from (bytes_eq n) (i + 1) names)) nx) ∙ k) in
        let r = found_from m (i + 1) names (second_of_two (bytes_eq m x) (among m names) my a) in
        let e : r.0 ≡ p = one_value r.0 p (sym r.1 ∙ sym (ap (λ b. cond b (Some i) (position_from (bytes_eq m) (i + 1) names)) my) ∙ h) in
        let low = r.2 in
        absurd (omega arith)
    | inr ny ↦
        same_place m n (i + 1) names p (sym (ap (λ b. cond b (Some i) (position_from (bytes_eq m) (i + 1) names)) my) ∙ h) (sym (ap (λ b. cond b (Some i) (position_from (bytes_eq n) (i + 1) names)) ny) ∙ k)
        (second_of_two (bytes_eq m x) (among m names) my a) (second_of_two (bytes_eq n x) (among n names) ny b)
  ]
]

-- two names that are there have the same number only if they are the same
pub one_name : (m n : List ℕ) (names : List (List ℕ)) → among m names ≡ true → among n names ≡ true → number_of m names ≡ number_of n names → m ≡ n
one_name m n names a b h =
    let p = found_from m 0 names a in
    let q = found_from n 0 names b in
    let e : p.0 ≡ q.0 = sym (ap (λ o. unwrap_or o 0) p.1) ∙ h ∙ ap (λ o. unwrap_or o 0) q.1 in
    same_place m n 0 names q.0 (p.1 ∙ ap Some e) q.1 a b

-- names that are all there
abbrev pub all_among : List (List ℕ) → List (List ℕ) → Type 0
all_among names [] = Unit {0}
all_among names (n ∷ ns) = (among n names ≡ true) × all_among names ns

-- the numbers of names that differ and are there differ
pub distinct_numbers : (names ns : List (List ℕ)) → all_among names ns → distinct bytes_eq ns ≡ true → distinct same_number (map (λ n. number_of n names) ns) ≡ true
distinct_numbers names [] h d = refl
distinct_numbers names (n ∷ ns) h d =
    let parts = and_parts (not (among n ns)) (distinct bytes_eq ns) d in
    rw (apart ns h.1 (was_false (among n ns) parts.0), distinct_numbers names ns h.1 parts.1) refl
  where
    was_false : (b : Bool) → not b ≡ true → b ≡ false
    was_false true h = absurd cc
    was_false false h = refl

    apart : (ms : List (List ℕ)) → all_among names ms → among n ms ≡ false → list_any (same_number (number_of n names)) (map (λ n. number_of n names) ms) ≡ false
    apart [] all a = refl
    apart (m ∷ ms) all a =
        let two = or_parts (bytes_eq n m) (among n ms) a in
        rw (no_number m all.0 two.0, apart ms all.1 two.1) refl
      where
        no_number : (m : List ℕ) → among m names ≡ true → bytes_eq n m ≡ false → same_number (number_of n names) (number_of m names) ≡ false
        no_number m there other = elim (cases_Bool (number_of n names == number_of m names)) [
          | inl e ↦ absurd (true≢false (sym (bytes_same n) ∙ ap (bytes_eq n) (one_name n m names h.0 there (eqb-true _ _ e)) ∙ other))
          | inr f ↦ f
        ]
