-- Two work lists that bring the same of each key whose cells are held are the same as far as the held cells go.
use Rattle.std.proofs.Common.{◌≡◌, refl, sym, ◌∙◌, ap, subst, ℕ, zero, suc, ◌+◌, ◌≤◌, Bool, true, false, cond, List, [], ◌∷◌, ◌++◌, length, Option, Some, None, arith, append_assoc, length-append, append-nil}
use Rattle.std.specs.Prelude.{slice_get}
use Rattle.std.specs.List.{find, flat_map}
use Rattle.std.proofs.lemmas.Option.{none-some, slice_get_within}
use Rattle.dbtg_cells.specs.declared.key.DbKey.{DbKey}
use Rattle.dbtg_cells.specs.declared.name.CellName.{CellName}
use Rattle.dbtg_unit.specs.Hands.Erasing.{brought, brought_from, with_those}
use Rattle.dbtg_unit.proofs.Public.{slice_get_front, with_those_extends}

-- PLACES

-- the elements from place i on
abbrev pub from : {X : Type 0} → ℕ → List X → List X
from zero xs = xs
from (suc i) [] = []
from (suc i) (x ∷ xs) = from i xs

pub from_at : {X : Type 0} (i : ℕ) (xs : List X) (x : X) → slice_get xs i ≡ Some x → from i xs ≡ x ∷ from (suc i) xs
from_at i [] x h = absurd (none-some x h)
from_at zero (y ∷ ys) x h = cc
from_at (suc i) (y ∷ ys) x h = from_at i ys x h

from_past : {X : Type 0} (i : ℕ) (xs : List X) → length xs ≤ i → from i xs ≡ []
from_past zero [] h = refl
from_past (suc i) [] h = refl
from_past zero (x ∷ xs) h = absurd (omega arith)
from_past (suc i) (x ∷ xs) h = from_past i xs (omega arith)

pub past : {X : Type 0} (i : ℕ) (xs : List X) → slice_get xs i ≡ None → length xs ≤ i
past i [] h = omega arith
past zero (x ∷ xs) h = absurd (none-some x (sym h))
past (suc i) (x ∷ xs) h = let rest = past i xs h in omega arith

pub none_past : {X : Type 0} (i : ℕ) (xs : List X) → length xs ≤ i → slice_get xs i ≡ None
none_past i [] h = refl
none_past zero (x ∷ xs) h = absurd (omega arith)
none_past (suc i) (x ∷ xs) h = none_past i xs (omega arith)

-- THE FIRST THAT PASSES

pub find_first : {X : Type 0} (p : X → Bool) (xs ys : List X) (x : X) → find p xs ≡ Some x → find p (xs ++ ys) ≡ Some x
find_first p [] ys x h = absurd (none-some x h)
find_first p (z ∷ xs) ys x h =
    elim (p z) as (λ b. cond b (Some z) (find p xs) ≡ Some x → cond b (Some z) (find p (xs ++ ys)) ≡ Some x) [ true ↦ λ e. e | false ↦ λ e. find_first p xs ys x e ] h

pub find_second : {X : Type 0} (p : X → Bool) (xs ys : List X) → find p xs ≡ None → find p (xs ++ ys) ≡ find p ys
find_second p [] ys h = refl
find_second p (z ∷ xs) ys h =
    elim (p z) as (λ b. cond b (Some z) (find p xs) ≡ None → cond b (Some z) (find p (xs ++ ys)) ≡ find p ys) [ true ↦ λ e. absurd (none-some z (sym e)) | false ↦ λ e. find_second p xs ys e ] h

-- WORK LISTS

pub still_at : (order news : List DbKey) (i : ℕ) (d : DbKey) → slice_get order i ≡ Some d → slice_get (with_those order news) i ≡ Some d
still_at order news i d e =
    let r = with_those_extends order news in
    ap (λ zs. slice_get zs i) r.1 ∙ slice_get_front order r.0 i (slice_get_within order i d e) ∙ e

module _ (taken : DbKey → List DbKey) where
  pub prefix : (n i : ℕ) (order : List DbKey) → (ys : List DbKey) × (brought taken n i order ≡ order ++ ys)
  prefix zero i order = ([], sym (append-nil order))
  prefix (suc n) i order = by (slice_get order i) (λ zs. prefix n (suc i) zs) where
    by : (d : Option DbKey) → ((zs : List DbKey) → (ys : List DbKey) × (brought taken n (suc i) zs ≡ zs ++ ys)) → (ys : List DbKey) × (brought taken n (suc i) (brought_from taken order d) ≡ order ++ ys)
    by None later = later order
    by (Some d) later =
        let those = with_those_extends order (taken d) in
        let rest = later (with_those order (taken d)) in
        (those.0 ++ rest.0, rest.1 ∙ ap (λ xs. xs ++ rest.0) those.1 ∙ append_assoc order those.0 rest.0)

  -- what stands in the list stays in its place
  pub kept_at : (n i j : ℕ) (order : List DbKey) (d : DbKey) → slice_get order j ≡ Some d → slice_get (brought taken n i order) j ≡ Some d
  kept_at n i j order d h =
      let r = prefix n i order in
      ap (λ xs. slice_get xs j) r.1 ∙ slice_get_front order r.0 j (slice_get_within order j d h) ∙ h

  no_shorter : (n i : ℕ) (order : List DbKey) → length order ≤ length (brought taken n i order)
  no_shorter n i order =
      let r = prefix n i order in
      let same : length (brought taken n i order) ≡ length order + length r.0 = ap length r.1 ∙ length-append order r.0 in
      omega arith

  -- past its end the list brings nothing more
  pub stable : (n i : ℕ) (order : List DbKey) → length order ≤ i → brought taken n i order ≡ order
  stable zero i order h = refl
  stable (suc n) i order h = ap (λ d. brought taken n (suc i) (brought_from taken order d)) (none_past i order h) ∙ stable n (suc i) order (omega arith)

  -- some number of steps, followed by some more
  pub in_two : (m n t i j : ℕ) (order : List DbKey) → t ≡ m + n → j ≡ i + m → brought taken t i order ≡ brought taken n j (brought taken m i order)
  in_two zero n t i j order e f =
      let same : t ≡ n = omega arith in
      let here : i ≡ j = omega arith in
      ap (λ u. brought taken u i order) same ∙ ap (λ u. brought taken n u order) here
  in_two (suc m) n zero i j order e f = absurd (omega arith)
  in_two (suc m) n (suc t) i j order e f = in_two m n t (suc i) j (brought_from taken order (slice_get order i)) (omega arith) (omega arith)

module _ (taken taken' : DbKey → List DbKey) (cells cells' : DbKey → List CellName) (wanting : CellName → Bool)
    (finds : (d : DbKey) → find wanting (cells d) ≡ find wanting (cells' d)) (brings_doomed : (d : DbKey) → find wanting (cells d) ≡ None → taken d ≡ taken' d) where
  -- from place i on the first missing cell is the same; where none is missing, the lists are the same
  abbrev pub Agree : ℕ → List DbKey → List DbKey → Type 0
  Agree i xs ys =
      (find wanting (flat_map cells (from i xs)) ≡ find wanting (flat_map cells' (from i ys)))
      × (find wanting (flat_map cells (from i xs)) ≡ None → xs ≡ ys)

  ended : (i : ℕ) (xs ys order : List DbKey) → xs ≡ order → ys ≡ order → length order ≤ i → Agree i xs ys
  ended i xs ys order e f h = (
    ap (λ zs. find wanting (flat_map cells (from i zs))) e ∙ ap (λ zs. find wanting (flat_map cells zs)) (from_past i order h)
        ∙ sym (ap (λ zs. find wanting (flat_map cells' (from i zs))) f ∙ ap (λ zs. find wanting (flat_map cells' zs)) (from_past i order h)),
    λ none. e ∙ sym f,
  )

  -- a key that stands at place i in both
  one_more : (i : ℕ) (d : DbKey) (xs ys : List DbKey) → slice_get xs i ≡ Some d → slice_get ys i ≡ Some d → (find wanting (cells d) ≡ None → Agree (suc i) xs ys) → Agree i xs ys
  one_more i d xs ys e f rest = first (find wanting (cells d)) refl where
    here : find wanting (flat_map cells (from i xs)) ≡ find wanting (cells d ++ flat_map cells (from (suc i) xs))
    here = ap (λ zs. find wanting (flat_map cells zs)) (from_at i xs d e)

    there : find wanting (flat_map cells' (from i ys)) ≡ find wanting (cells' d ++ flat_map cells' (from (suc i) ys))
    there = ap (λ zs. find wanting (flat_map cells' zs)) (from_at i ys d f)

    first : (c : Option CellName) → find wanting (cells d) ≡ c → Agree i xs ys
    first (Some c) h =
        let found : find wanting (flat_map cells (from i xs)) ≡ Some c = here ∙ find_first wanting (cells d) (flat_map cells (from (suc i) xs)) c h in
        (found ∙ sym (there ∙ find_first wanting (cells' d) (flat_map cells' (from (suc i) ys)) c (sym (finds d) ∙ h)), λ none. absurd (none-some c (sym none ∙ found)))
    first None h =
        let rest_is = rest h in (
          here ∙ find_second wanting (cells d) (flat_map cells (from (suc i) xs)) h ∙ rest_is.0
              ∙ sym (there ∙ find_second wanting (cells' d) (flat_map cells' (from (suc i) ys)) (sym (finds d) ∙ h)),
          λ none. rest_is.1 (sym (here ∙ find_second wanting (cells d) (flat_map cells (from (suc i) xs)) h) ∙ none),
        )

  pub agree : (m n i : ℕ) (order : List DbKey) → length (brought taken m i order) ≤ i + m → length (brought taken m i order) ≤ i + n → Agree i (brought taken m i order) (brought taken' n i order)
  agree zero n i order low high =
      let short : length order ≤ i = omega arith in
      ended i order (brought taken' n i order) order refl (stable taken' n i order short) short
  agree (suc m) zero i order low high =
      let longer = no_shorter taken (suc m) i order in
      let short : length order ≤ i = omega arith in
      ended i (brought taken (suc m) i order) order order (stable taken (suc m) i order short) refl short
  agree (suc m) (suc n) i order low high = by (slice_get order i) refl low high (λ zs. agree m n (suc i) zs) where
    by : (d : Option DbKey) → slice_get order i ≡ d → length (brought taken m (suc i) (brought_from taken order d)) ≤ i + suc m → length (brought taken m (suc i) (brought_from taken order d)) ≤ i + suc n
        → ((zs : List DbKey) → length (brought taken m (suc i) zs) ≤ suc i + m → length (brought taken m (suc i) zs) ≤ suc i + n → Agree (suc i) (brought taken m (suc i) zs) (brought taken' n (suc i) zs))
        → Agree i (brought taken m (suc i) (brought_from taken order d)) (brought taken' n (suc i) (brought_from taken' order d))
    by None e low high later =
        let short = past i order e in
        let shorter : length order ≤ suc i = omega arith in
        ended i _ _ order (stable taken m (suc i) order shorter) (stable taken' n (suc i) order shorter) short
    by (Some d) e low high later =
        one_more i d _ _
        (kept_at taken m (suc i) i (with_those order (taken d)) d (still_at order (taken d) i d e)) (kept_at taken' n (suc i) i (with_those order (taken' d)) d (still_at order (taken' d) i d e))
        (λ h. subst (λ zs. Agree (suc i) (brought taken m (suc i) (with_those order (taken d))) (brought taken' n (suc i) (with_those order zs))) (brings_doomed d h)
        (later (with_those order (taken d)) (omega arith) (omega arith)))
