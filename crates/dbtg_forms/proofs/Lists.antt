-- Lists of numbers: what they have, where it stands, and how many pass a test. In a list without repetition each stands once.
-- t is a test, x and z are numbers.
use Rattle.std.proofs.Common.{◌≡◌, refl, sym, ◌∙◌, ap, subst, ℕ, zero, suc, ◌+◌, ◌<◌, ◌≤◌, arith, Bool, true, false, List, [], ◌∷◌, ◌++◌, length, map, get_or, inl, inr, ◌⊎◌, Some, None, true≢false}
use Rattle.std.specs.Prelude.{◌==◌, not, ◌||◌, ◌&&◌, cond, filter, unwrap_or}
use Rattle.std.specs.List.{position, position_or_len, range_with_len}
use Rattle.std.proofs.lemmas.Bool.{cases_Bool, cases_lt, eq-eqb, eqb-true, le-ltb, lt-ltb, or_cases, or_left, or_parts, or_right}
use Rattle.dbtg_forms.specs.Graphs.{has}
use Rattle.dbtg_forms.specs.Forms.{place}

-- WHAT A LIST HAS

pub no_is_not_yes : {b : Bool} → b ≡ false → b ≡ true → ⊥
no_is_not_yes h g = true≢false (sym g ∙ h)

pub has_left : (xs ys : List ℕ) (z : ℕ) → has xs z ≡ true → has (xs ++ ys) z ≡ true
has_left [] ys z h = absurd (cc)
has_left (x ∷ xs) ys z h =
    elim (or_cases (z == x) (has xs z) h) [ inl e ↦ or_left (z == x) (has (xs ++ ys) z) e | inr e ↦ or_right (z == x) (has (xs ++ ys) z) (has_left xs ys z e) ]

pub has_right : (xs ys : List ℕ) (z : ℕ) → has ys z ≡ true → has (xs ++ ys) z ≡ true
has_right [] ys z h = h
has_right (x ∷ xs) ys z h = or_right (z == x) (has (xs ++ ys) z) (has_right xs ys z h)

pub has_cases : (xs ys : List ℕ) (z : ℕ) → has (xs ++ ys) z ≡ true → (has xs z ≡ true) ⊎ (has ys z ≡ true)
has_cases [] ys z h = inr h
has_cases (x ∷ xs) ys z h =
    elim (or_cases (z == x) (has (xs ++ ys) z) h) [
      | inl e ↦ inl (or_left (z == x) (has xs z) e)
      | inr e ↦ elim (has_cases xs ys z e) [ inl g ↦ inl (or_right (z == x) (has xs z) g) | inr g ↦ inr g ]
    ]

pub has_one : (x z : ℕ) → has (x ∷ []) z ≡ true → z ≡ x
has_one x z h = elim (or_cases (z == x) false h) [ inl e ↦ eqb-true z x e | inr e ↦ absurd (cc) ]

pub has_first : (x : ℕ) (xs : List ℕ) → has (x ∷ xs) x ≡ true
has_first x xs = or_left (x == x) (has xs x) (eq-eqb x x refl)

pub has_map : (f : ℕ → ℕ) (xs : List ℕ) (z : ℕ) → has xs z ≡ true → has (map f xs) (f z) ≡ true
has_map f [] z h = absurd (cc)
has_map f (x ∷ xs) z h =
    elim (or_cases (z == x) (has xs z) h) [
      | inl e ↦ or_left (f z == f x) (has (map f xs) (f z)) (eq-eqb (f z) (f x) (ap f (eqb-true z x e)))
      | inr e ↦ or_right (f z == f x) (has (map f xs) (f z)) (has_map f xs z e)
    ]

pub from_map : (f : ℕ → ℕ) (xs : List ℕ) (y : ℕ) → has (map f xs) y ≡ true → (z : ℕ) × (has xs z ≡ true) × (y ≡ f z)
from_map f [] y h = absurd (cc)
from_map f (x ∷ xs) y h =
    elim (or_cases (y == f x) (has (map f xs) y) h) [
      | inl e ↦ (x, has_first x xs, eqb-true y (f x) e)
      | inr e ↦ let rest = from_map f xs y e in (rest.0, or_right (rest.0 == x) (has xs rest.0) rest.1, rest.2)
    ]

pub map_along : {X : Type 0} (f g : ℕ → X) (xs : List ℕ) → ((z : ℕ) → has xs z ≡ true → f z ≡ g z) → map f xs ≡ map g xs
map_along f g [] same = refl
map_along f g (x ∷ xs) same = λ i. same x (has_first x xs) i ∷ map_along f g xs (λ z h. same z (or_right (z == x) (has xs z) h)) i

-- NUMBERS BELOW ANOTHER

has_range_from : (a n z : ℕ) → a ≤ z → z < a + n → has (range_with_len a n) z ≡ true
has_range_from a zero z low high = absurd (omega (arith, low, high))
has_range_from a (suc n) z low high =
    elim (cases_Bool (z == a)) [
      | inl e ↦ or_left (z == a) (has (range_with_len (a + 1) n) z) e
      | inr e ↦ or_right (z == a) (has (range_with_len (a + 1) n) z)
          (has_range_from (a + 1) n z (omega (arith, low, λ (s : z ≡ a). no_is_not_yes e (eq-eqb z a s))) (omega (arith, high)))
    ]

pub has_range : (n z : ℕ) → z < n → has (range_with_len 0 n) z ≡ true
has_range n z h = has_range_from 0 n z (omega arith) (omega (arith, h))

from_range_from : (a n z : ℕ) → has (range_with_len a n) z ≡ true → (a ≤ z) × (z < a + n)
from_range_from a zero z h = absurd (cc)
from_range_from a (suc n) z h =
    elim (or_cases (z == a) (has (range_with_len (a + 1) n) z) h) [
      | inl e ↦ let same : z ≡ a = eqb-true z a e in (omega (arith, same), omega (arith, same))
      | inr e ↦ let rest = from_range_from (a + 1) n z e in (omega (arith, rest.0), omega (arith, rest.1))
    ]

pub from_range : (n z : ℕ) → has (range_with_len 0 n) z ≡ true → z < n
from_range n z h = omega (arith, (from_range_from 0 n z h).1)

-- WITHOUT REPETITION

abbrev pub Once : List ℕ → Type 0
Once [] = Unit {0}
Once (x ∷ xs) = (has xs x ≡ false) × Once xs

pub not_behind : (x : ℕ) (xs : List ℕ) → ((has xs x ≡ true) → ⊥) → has xs x ≡ false
not_behind x xs never = elim (cases_Bool (has xs x)) [ inl e ↦ absurd (never e) | inr e ↦ e ]

once_range : (a n : ℕ) → Once (range_with_len a n)
once_range a zero = tt
once_range a (suc n) = (not_behind a (range_with_len (a + 1) n) (λ h. absurd (omega (arith, (from_range_from (a + 1) n a h).0))), once_range (a + 1) n)

pub range_once : (n : ℕ) → Once (range_with_len 0 n)
range_once n = once_range 0 n

pub once_push : (xs : List ℕ) (x : ℕ) → Once xs → has xs x ≡ false → Once (xs ++ x ∷ [])
once_push [] x once h = (refl, tt)
once_push (y ∷ ys) x once h =
    let parts = or_parts (x == y) (has ys x) h in (
      not_behind y (ys ++ x ∷ []) (λ g. elim (has_cases ys (x ∷ []) y g) [
        | inl e ↦ no_is_not_yes once.0 e
        | inr e ↦ no_is_not_yes parts.0 (eq-eqb x y (sym (has_one x y e)))
      ]),
      once_push ys x once.1 parts.1,
    )

pub once_map : (f : ℕ → ℕ) (xs : List ℕ) → ((y z : ℕ) → has xs y ≡ true → has xs z ≡ true → f y ≡ f z → y ≡ z) → Once xs → Once (map f xs)
once_map f [] one once = tt
once_map f (x ∷ xs) one once = (
  not_behind (f x) (map f xs) (λ h.
      let from = from_map f xs (f x) h in
      let same : x ≡ from.0 = one x from.0 (has_first x xs) (or_right (from.0 == x) (has xs from.0) from.1) from.2 in
      no_is_not_yes once.0 (ap (has xs) same ∙ from.1)),
  once_map f xs (λ y z p q. one y z (or_right (y == x) (has xs y) p) (or_right (z == x) (has xs z) q)) once.1,
)

-- PLACES

place_here : (x z : ℕ) (xs : List ℕ) → (z == x) ≡ true → place (x ∷ xs) z ≡ 0
place_here x z xs e = ap (λ b. cond (not b) (1 + place xs z) 0) e

place_behind : (x z : ℕ) (xs : List ℕ) → (z == x) ≡ false → place (x ∷ xs) z ≡ suc (place xs z)
place_behind x z xs e = let one : place (x ∷ xs) z ≡ 1 + place xs z = ap (λ b. cond (not b) (1 + place xs z) 0) e in omega (arith, one)

pub place_in : (xs : List ℕ) (z : ℕ) → has xs z ≡ true → place xs z < length xs
place_in [] z h = absurd (cc)
place_in (x ∷ xs) z h =
    elim (cases_Bool (z == x)) [
      | inl e ↦ omega (arith, place_here x z xs e)
      | inr e ↦ elim (or_cases (z == x) (has xs z) h) [
        | inl g ↦ absurd (no_is_not_yes e g)
        | inr g ↦ omega (arith, place_behind x z xs e, place_in xs z g)
      ]
    ]

pub at_place : (xs : List ℕ) (z : ℕ) → has xs z ≡ true → get_or xs (place xs z) 0 ≡ z
at_place [] z h = absurd (cc)
at_place (x ∷ xs) z h =
    elim (cases_Bool (z == x)) [
      | inl e ↦ ap (λ i. get_or (x ∷ xs) i 0) (place_here x z xs e) ∙ sym (eqb-true z x e)
      | inr e ↦ elim (or_cases (z == x) (has xs z) h) [
        | inl g ↦ absurd (no_is_not_yes e g)
        | inr g ↦ ap (λ i. get_or (x ∷ xs) i 0) (place_behind x z xs e) ∙ at_place xs z g
      ]
    ]

pub has_at : (xs : List ℕ) (i : ℕ) → i < length xs → has xs (get_or xs i 0) ≡ true
has_at [] i h = absurd (omega (arith, h))
has_at (x ∷ xs) zero h = has_first x xs
has_at (x ∷ xs) (suc i) h = or_right (get_or xs i 0 == x) (has xs (get_or xs i 0)) (has_at xs i (omega (arith, h)))

pub place_at : (xs : List ℕ) (i : ℕ) → Once xs → i < length xs → place xs (get_or xs i 0) ≡ i
place_at [] i once h = absurd (omega (arith, h))
place_at (x ∷ xs) zero once h = place_here x x xs (eq-eqb x x refl)
place_at (x ∷ xs) (suc i) once h =
    let there = has_at xs i (omega (arith, h)) in
    elim (cases_Bool (get_or xs i 0 == x)) [
      | inl e ↦ absurd (no_is_not_yes once.0 (ap (has xs) (sym (eqb-true (get_or xs i 0) x e)) ∙ there))
      | inr e ↦ place_behind x (get_or xs i 0) xs e ∙ ap suc (place_at xs i once.1 (omega (arith, h)))
    ]

-- HOW MANY PASS A TEST

abbrev pub tally : {X : Type 0} → (X → Bool) → List X → ℕ
tally t [] = 0
tally t (x ∷ xs) = cond (t x) (1 + tally t xs) (tally t xs)

-- those that are not x
abbrev pub without : ℕ → List ℕ → List ℕ
without x xs = filter (λ y. not (y == x)) xs

pub filter_keeps : (t : ℕ → Bool) (xs : List ℕ) (z : ℕ) → has xs z ≡ true → t z ≡ true → has (filter t xs) z ≡ true
filter_keeps t [] z h p = absurd (cc)
filter_keeps t (x ∷ xs) z h p =
    elim (cases_Bool (t x)) [
      | inl e ↦ ap (λ b. has (cond b (x ∷ filter t xs) (filter t xs)) z) e ∙ elim (or_cases (z == x) (has xs z) h) [
        | inl g ↦ or_left (z == x) (has (filter t xs) z) g
        | inr g ↦ or_right (z == x) (has (filter t xs) z) (filter_keeps t xs z g p)
      ]
      | inr e ↦ ap (λ b. has (cond b (x ∷ filter t xs) (filter t xs)) z) e ∙ elim (or_cases (z == x) (has xs z) h) [
        | inl g ↦ absurd (no_is_not_yes e (ap t (sym (eqb-true z x g)) ∙ p))
        | inr g ↦ filter_keeps t xs z g p
      ]
    ]

pub from_filter : (t : ℕ → Bool) (xs : List ℕ) (z : ℕ) → has (filter t xs) z ≡ true → (has xs z ≡ true) × (t z ≡ true)
from_filter t [] z h = absurd (cc)
from_filter t (x ∷ xs) z h =
    elim (cases_Bool (t x)) [
      | inl e ↦ elim (or_cases (z == x) (has (filter t xs) z) (sym (ap (λ b. has (cond b (x ∷ filter t xs) (filter t xs)) z) e) ∙ h)) [
        | inl g ↦ (or_left (z == x) (has xs z) g, ap t (eqb-true z x g) ∙ e)
        | inr g ↦ let rest = from_filter t xs z g in (or_right (z == x) (has xs z) rest.0, rest.1)
      ]
      | inr e ↦ let rest = from_filter t xs z (sym (ap (λ b. has (cond b (x ∷ filter t xs) (filter t xs)) z) e) ∙ h) in (or_right (z == x) (has xs z) rest.0, rest.1)
    ]

pub filter_once : (t : ℕ → Bool) (xs : List ℕ) → Once xs → Once (filter t xs)
filter_once t [] once = tt
filter_once t (x ∷ xs) once =
    elim (cases_Bool (t x)) [
      | inl e ↦ subst (λ b. Once (cond b (x ∷ filter t xs) (filter t xs))) (sym e) (not_behind x (filter t xs) (λ h. no_is_not_yes once.0 (from_filter t xs x h).0), filter_once t xs once.1)
      | inr e ↦ subst (λ b. Once (cond b (x ∷ filter t xs) (filter t xs))) (sym e) (filter_once t xs once.1)
    ]

filter_all : (t : ℕ → Bool) (xs : List ℕ) → ((z : ℕ) → has xs z ≡ true → t z ≡ true) → filter t xs ≡ xs
filter_all t [] all = refl
filter_all t (x ∷ xs) all = ap (λ b. cond b (x ∷ filter t xs) (filter t xs)) (all x (has_first x xs)) ∙ ap (λ l. x ∷ l) (filter_all t xs (λ z h. all z (or_right (z == x) (has xs z) h)))

filter_none : (t : ℕ → Bool) (xs : List ℕ) → ((z : ℕ) → has xs z ≡ true → t z ≡ false) → filter t xs ≡ []
filter_none t [] none = refl
filter_none t (x ∷ xs) none = ap (λ b. cond b (x ∷ filter t xs) (filter t xs)) (none x (has_first x xs)) ∙ filter_none t xs (λ z h. none z (or_right (z == x) (has xs z) h))

filter_twice : (s t u : ℕ → Bool) (xs : List ℕ) → ((z : ℕ) → u z ≡ (t z && s z)) → filter s (filter t xs) ≡ filter u xs
filter_twice s t u [] both = refl
filter_twice s t u (x ∷ xs) both =
    let rest = filter_twice s t u xs both in
    elim (cases_Bool (t x)) [
      | inl e ↦ ap (λ b. filter s (cond b (x ∷ filter t xs) (filter t xs))) e ∙ ap (λ l. cond (s x) (x ∷ l) l) rest ∙ ap (λ b. cond b (x ∷ filter u xs) (filter u xs)) (sym (both x ∙ ap (λ b. b && s x) e))
      | inr e ↦ ap (λ b. filter s (cond b (x ∷ filter t xs) (filter t xs))) e ∙ rest ∙ ap (λ b. cond b (x ∷ filter u xs) (filter u xs)) (sym (both x ∙ ap (λ b. b && s x) e))
    ]

exchange : (a b : Bool) (n : ℕ) → cond a (1 + cond b (1 + n) n) (cond b (1 + n) n) ≡ cond b (1 + cond a (1 + n) n) (cond a (1 + n) n)
exchange true true n = refl
exchange true false n = refl
exchange false true n = refl
exchange false false n = refl

-- a number that a list has, and the others
tally_without : (t : ℕ → Bool) (x : ℕ) (ys : List ℕ) → Once ys → has ys x ≡ true → tally t ys ≡ cond (t x) (1 + tally t (without x ys)) (tally t (without x ys))
tally_without t x [] once h = absurd (cc)
tally_without t x (y ∷ ys) once h =
    elim (cases_Bool (y == x)) [
      | inl e ↦
          let same : y ≡ x = eqb-true y x e in
          let rest : without x (y ∷ ys) ≡ ys =
          ap (λ b. cond (not b) (y ∷ without x ys) (without x ys)) e
          ∙ filter_all (λ z. not (z == x)) ys (λ z g. elim (cases_Bool (z == x)) [
            | inl p ↦ absurd (no_is_not_yes once.0 (ap (has ys) (same ∙ sym (eqb-true z x p)) ∙ g))
            | inr p ↦ ap not p
          ]) in
          ap (λ z. cond (t z) (1 + tally t ys) (tally t ys)) same ∙ ap (λ l. cond (t x) (1 + tally t l) (tally t l)) (sym rest)
      | inr e ↦
          let there : has ys x ≡ true = elim (or_cases (x == y) (has ys x) h) [
            | inl g ↦ absurd (no_is_not_yes e (eq-eqb y x (sym (eqb-true x y g))))
            | inr g ↦ g
          ] in
          let rest : without x (y ∷ ys) ≡ y ∷ without x ys = ap (λ b. cond (not b) (y ∷ without x ys) (without x ys)) e in
          ap (λ n. cond (t y) (1 + n) n) (tally_without t x ys once.1 there)
          ∙ exchange (t y) (t x) (tally t (without x ys))
          ∙ ap (λ l. cond (t x) (1 + tally t l) (tally t l)) (sym rest)
    ]

neither : (a b : Bool) → not (a || b) ≡ (not a && not b)
neither true b = refl
neither false b = refl

joined : (b : Bool) (l m n : ℕ) → l ≡ m + n → cond b (1 + l) l ≡ cond b (1 + m) m + n
joined true l m n e = omega (arith, e)
joined false l m n e = e

-- of a list, another that it has all of, and what is left
pub tally_part : (t : ℕ → Bool) (xs ys : List ℕ) → Once xs → Once ys → ((z : ℕ) → has xs z ≡ true → has ys z ≡ true) → tally t ys ≡ tally t xs + tally t (filter (λ y. not (has xs y)) ys)
tally_part t [] ys once others part = omega (arith, ap (tally t) (filter_all (λ y. not false) ys (λ z h. refl)))
tally_part t (x ∷ xs) ys once others part =
    let left : List ℕ = without x ys in
    let within : (z : ℕ) → has xs z ≡ true → has left z ≡ true =
    λ z h. filter_keeps (λ y. not (y == x)) ys z (part z (or_right (z == x) (has xs z) h)) (elim (cases_Bool (z == x)) [
      | inl e ↦ absurd (no_is_not_yes once.0 (ap (has xs) (sym (eqb-true z x e)) ∙ h))
      | inr e ↦ ap not e
    ]) in
    let rest = tally_part t xs left once.1 (filter_once (λ y. not (y == x)) ys others) within in
    let same = ap (tally t) (filter_twice (λ y. not (has xs y)) (λ y. not (y == x)) (λ y. not (has (x ∷ xs) y)) ys (λ z. neither (z == x) (has xs z))) in
    tally_without t x ys others (part x (has_first x xs)) ∙ joined (t x) (tally t left) (tally t xs) (tally t (filter (λ y. not (has (x ∷ xs) y)) ys)) (rest ∙ ap (λ n. tally t xs + n) same)

tally_all : (xs : List ℕ) → tally (λ x. true) xs ≡ length xs
tally_all [] = refl
tally_all (x ∷ xs) = omega (arith, tally_all xs)

-- a part of a list is no longer than it
pub length_part : (xs ys : List ℕ) → Once xs → Once ys → ((z : ℕ) → has xs z ≡ true → has ys z ≡ true) → length ys ≡ length xs + length (filter (λ y. not (has xs y)) ys)
length_part xs ys once others part =
    sym (tally_all ys) ∙ tally_part (λ x. true) xs ys once others part ∙ (λ i. tally_all xs i + tally_all (filter (λ y. not (has xs y)) ys) i)

-- lists that have the same, each once
pub tally_same : (t : ℕ → Bool) (xs ys : List ℕ) → Once xs → Once ys → ((z : ℕ) → has xs z ≡ true → has ys z ≡ true) → ((z : ℕ) → has ys z ≡ true → has xs z ≡ true) → tally t xs ≡ tally t ys
tally_same t xs ys once others part back =
    omega (arith, tally_part t xs ys once others part, ap (tally t) (filter_none (λ y. not (has xs y)) ys (λ z h. ap not (back z h))))

pub tally_map : {X : Type 0} (t : X → Bool) (f : ℕ → X) (xs : List ℕ) → tally t (map f xs) ≡ tally (λ x. t (f x)) xs
tally_map t f [] = refl
tally_map t f (x ∷ xs) = ap (λ n. cond (t (f x)) (1 + n) n) (tally_map t f xs)

pub tally_along : (s t : ℕ → Bool) (xs : List ℕ) → ((z : ℕ) → has xs z ≡ true → s z ≡ t z) → tally s xs ≡ tally t xs
tally_along s t [] same = refl
tally_along s t (x ∷ xs) same = λ i. cond (same x (has_first x xs) i) (1 + tally_along s t xs (λ z h. same z (or_right (z == x) (has xs z) h)) i) (tally_along s t xs (λ z h. same z (or_right (z == x) (has xs z) h)) i)

-- one passes if the tally is not 0
pub tally_some : (t : ℕ → Bool) (xs : List ℕ) → 0 < tally t xs → (z : ℕ) × (has xs z ≡ true) × (t z ≡ true)
tally_some t [] h = absurd (omega (arith, h))
tally_some t (x ∷ xs) h =
    elim (cases_Bool (t x)) [
      | inl e ↦ (x, has_first x xs, e)
      | inr e ↦
          let rest = tally_some t xs (omega (arith, h, ap (λ b. cond b (1 + tally t xs) (tally t xs)) e)) in
          (rest.0, or_right (rest.0 == x) (has xs rest.0) rest.1, rest.2)
    ]

pub some_tally : (t : ℕ → Bool) (xs : List ℕ) (z : ℕ) → has xs z ≡ true → t z ≡ true → 0 < tally t xs
some_tally t [] z h p = absurd (cc)
some_tally t (x ∷ xs) z h p =
    elim (cases_Bool (t x)) [
      | inl e ↦ omega (arith, ap (λ b. cond b (1 + tally t xs) (tally t xs)) e)
      | inr e ↦ elim (or_cases (z == x) (has xs z) h) [
        | inl g ↦ absurd (no_is_not_yes e (ap t (sym (eqb-true z x g)) ∙ p))
        | inr g ↦ omega (arith, ap (λ b. cond b (1 + tally t xs) (tally t xs)) e, some_tally t xs z g p)
      ]
    ]

position_low : {X : Type 0} (p : X → Bool) (xs : List X) → position_or_len p xs ≤ length xs
position_low p [] = omega arith
position_low p (y ∷ ys) =
    elim (cases_Bool (p y)) [
      | inl e ↦ let here : position_or_len p (y ∷ ys) ≡ 0 = ap (λ b. cond (not b) (1 + position_or_len p ys) 0) e in omega (arith, here)
      | inr e ↦ let behind : position_or_len p (y ∷ ys) ≡ 1 + position_or_len p ys = ap (λ b. cond (not b) (1 + position_or_len p ys) 0) e in omega (arith, behind, position_low p ys)
    ]

-- where one was found, or else the end
pub position_found : {X : Type 0} (p : X → Bool) (xs : List X) (n : ℕ) → length xs ≡ n → unwrap_or (position p xs) n ≡ position_or_len p xs
position_found p xs n e =
    elim (cases_lt (position_or_len p xs) (length xs)) [
      | inl low ↦ ap (λ b. unwrap_or (cond b (Some (position_or_len p xs)) None) n) (lt-ltb (position_or_len p xs) (length xs) low)
      | inr high ↦ ap (λ b. unwrap_or (cond b (Some (position_or_len p xs)) None) n) (le-ltb (position_or_len p xs) (length xs) high) ∙ omega (arith, e, high, position_low p xs)
    ]

-- numbers from a on
pub range_length : (a n : ℕ) → length (range_with_len a n) ≡ n
range_length a zero = refl
range_length a (suc n) = ap suc (range_length (a + 1) n)

range_last : (a n : ℕ) → range_with_len a (suc n) ≡ range_with_len a n ++ (a + n) ∷ []
range_last a zero = let same : a ≡ a + 0 = omega arith in ap (λ k. k ∷ []) same
range_last a (suc n) =
    let same : a + 1 + n ≡ a + suc n = omega arith in
    ap (λ l. a ∷ l) (range_last (a + 1) n ∙ ap (λ k. range_with_len (a + 1) n ++ k ∷ []) same)

-- one number more
pub range_more : (i j : ℕ) → j ≡ i + 1 → range_with_len 0 j ≡ range_with_len 0 i ++ i ∷ []
range_more i zero e = absurd (omega (arith, e))
range_more i (suc j) e =
    let same : j ≡ i = omega (arith, e) in
    let here : 0 + j ≡ i = omega (arith, e) in
    range_last 0 j ∙ (λ k. range_with_len 0 (same k) ++ here k ∷ [])
