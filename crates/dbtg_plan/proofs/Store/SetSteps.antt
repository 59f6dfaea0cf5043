-- Going through the numbers below n, one after another.
use Rattle.std.proofs.Common.{◌≡◌, refl, sym, ◌∙◌, ap, ℕ, ◌+◌, ◌<◌, ◌≤◌, Bool, true, false, cond, ◌||◌, List, [], ◌∷◌, ◌++◌, Option, Some, None, drop}
use Rattle.std.specs.Prelude.{filter, is_some}
use Rattle.std.specs.List.{find, flat_map, list_any, range_with_len}
use Rattle.std.specs.Option.{option_or}
use Rattle.std.proofs.lemmas.List.Folds.{find-append}
use Rattle.dbtg_schema.specs.Lookups.{first_cause}
use Rattle.dbtg_schema.proofs.Public.{numbers_end, numbers_next}

-- the first one that passes, of what is made of each that is kept
found_at : {X : Type 0} (test : X → Bool) (f : ℕ → List X) (p : ℕ → Bool) (n i : ℕ) → i < n
    → find test (flat_map f (filter p (drop i (range_with_len 0 n)))) ≡ option_or (cond (p i) (find test (f i)) None) (find test (flat_map f (filter p (drop (i + 1) (range_with_len 0 n)))))
found_at test f p n i below =
    let rest = drop (i + 1) (range_with_len 0 n) in
    ap (λ ns. find test (flat_map f (filter p ns))) (numbers_next n i below)
    ∙ elim (p i) as (λ b. find test (flat_map f (cond b (i ∷ filter p rest) (filter p rest))) ≡ option_or (cond b (find test (f i)) None) (find test (flat_map f (filter p rest)))) [
      | true ↦ find-append test (f i) (flat_map f (filter p rest))
      | false ↦ refl
    ]

-- where one is found here, and where none is
pub found_here : {X : Type 0} (test : X → Bool) (f : ℕ → List X) (p : ℕ → Bool) (n i : ℕ) → i < n → (o : Option X) → o ≡ cond (p i) (find test (f i)) None → is_some o ≡ true
    → find test (flat_map f (filter p (drop i (range_with_len 0 n)))) ≡ o
found_here test f p n i below None e h = cc
found_here test f p n i below (Some x) e h = found_at test f p n i below ∙ ap (λ o. option_or o (find test (flat_map f (filter p (drop (i + 1) (range_with_len 0 n)))))) (sym e)

pub found_later : {X : Type 0} (test : X → Bool) (f : ℕ → List X) (p : ℕ → Bool) (n i : ℕ) → i < n → (o : Option X) → o ≡ cond (p i) (find test (f i)) None → is_some o ≡ false
    → find test (flat_map f (filter p (drop i (range_with_len 0 n)))) ≡ find test (flat_map f (filter p (drop (i + 1) (range_with_len 0 n))))
found_later test f p n i below (Some x) e h = cc
found_later test f p n i below None e h = found_at test f p n i below ∙ ap (λ o. option_or o (find test (flat_map f (filter p (drop (i + 1) (range_with_len 0 n)))))) (sym e)

pub found_nowhere : {X : Type 0} (test : X → Bool) (f : ℕ → List X) (p : ℕ → Bool) (n i : ℕ) → n ≤ i → find test (flat_map f (filter p (drop i (range_with_len 0 n)))) ≡ None
found_nowhere test f p n i above = ap (λ ns. find test (flat_map f (filter p ns))) (numbers_end n i above)

-- whether one passes
pub any_step : (p : ℕ → Bool) (n i : ℕ) → i < n → list_any p (drop i (range_with_len 0 n)) ≡ (p i || list_any p (drop (i + 1) (range_with_len 0 n)))
any_step p n i below = ap (list_any p) (numbers_next n i below)

pub any_end : (p : ℕ → Bool) (n i : ℕ) → n ≤ i → list_any p (drop i (range_with_len 0 n)) ≡ false
any_end p n i above = ap (list_any p) (numbers_end n i above)

-- what is made of each
pub flat_step : {X : Type 0} (f : ℕ → List X) (n i : ℕ) → i < n → flat_map f (drop i (range_with_len 0 n)) ≡ f i ++ flat_map f (drop (i + 1) (range_with_len 0 n))
flat_step f n i below = ap (flat_map f) (numbers_next n i below)

-- what is made of each that is kept
pub kept_step : {X : Type 0} (f : ℕ → List X) (p : ℕ → Bool) (n i : ℕ) → i < n
    → flat_map f (filter p (drop i (range_with_len 0 n))) ≡ cond (p i) (f i) [] ++ flat_map f (filter p (drop (i + 1) (range_with_len 0 n)))
kept_step f p n i below =
    let rest = drop (i + 1) (range_with_len 0 n) in
    ap (λ ns. flat_map f (filter p ns)) (numbers_next n i below)
    ∙ elim (p i) as (λ b. flat_map f (cond b (i ∷ filter p rest) (filter p rest)) ≡ cond b (f i) [] ++ flat_map f (filter p rest)) [ true ↦ refl | false ↦ refl ]

pub kept_end : {X : Type 0} (f : ℕ → List X) (p : ℕ → Bool) (n i : ℕ) → n ≤ i → flat_map f (filter p (drop i (range_with_len 0 n))) ≡ []
kept_end f p n i above = ap (λ ns. flat_map f (filter p ns)) (numbers_end n i above)

-- THE FIRST OF TWO

pub or_first : {X : Type 0} (a b : Option X) → is_some a ≡ true → option_or a b ≡ a
or_first None b h = cc
or_first (Some x) b h = refl

pub or_second : {X : Type 0} (a b : Option X) → is_some a ≡ false → option_or a b ≡ b
or_second None b h = refl
or_second (Some x) b h = cc

pub first_cause_append : {C : Type 0} (xs ys : List (Bool × C)) → first_cause (xs ++ ys) ≡ option_or (first_cause xs) (first_cause ys)
first_cause_append [] ys = refl
first_cause_append (x ∷ xs) ys =
    elim x.0 as (λ b. cond b (Some x.1) (first_cause (xs ++ ys)) ≡ option_or (cond b (Some x.1) (first_cause xs)) (first_cause ys)) [ true ↦ refl | false ↦ first_cause_append xs ys ]

-- the one that is found in the second of three lists, and what is found in the third, where none is found in the others
pub found_second : {X : Type 0} (test : X → Bool) (xs ys zs : List X) (a b : Option X) → a ≡ find test xs → is_some a ≡ false → b ≡ find test ys → is_some b ≡ true → b ≡ find test (xs ++ ys ++ zs)
found_second test xs ys zs a b at none at' some =
    sym (find-append test (xs ++ ys) zs
    ∙ ap (λ o. option_or o (find test zs)) (find-append test xs ys ∙ (λ i. option_or (sym at i) (sym at' i)) ∙ or_second a b none)
    ∙ or_first b (find test zs) some)

pub found_third : {X : Type 0} (test : X → Bool) (xs ys zs : List X) (a b c : Option X) → a ≡ find test xs → is_some a ≡ false → b ≡ find test ys → is_some b ≡ false → c ≡ find test zs → c ≡ find test (xs ++ ys ++ zs)
found_third test xs ys zs a b c at none at' none' at'' =
    sym (find-append test (xs ++ ys) zs
    ∙ ap (λ o. option_or o (find test zs)) (find-append test xs ys ∙ (λ i. option_or (sym at i) (sym at' i)) ∙ or_second a b none)
    ∙ or_second b (find test zs) none'
    ∙ sym at'')
