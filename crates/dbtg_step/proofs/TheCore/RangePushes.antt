-- Lists that are made number by number.
use Rattle.std.proofs.Common.{◌≡◌, sym, ◌∙◌, ap, ℕ, zero, suc, ◌+◌, List, [], ◌∷◌, ◌++◌, Some, map, slice_get, take, arith, append_assoc, append-nil}
use Rattle.std.specs.List.{flat_map, range_with_len}
use Rattle.std.proofs.lemmas.List.{map-append}
use Rattle.std.proofs.lemmas.Grind.{flat_map-append}

range_push : (a n j : ℕ) → a + n ≡ j → range_with_len a (n + 1) ≡ range_with_len a n ++ j ∷ []
range_push a zero j e = let here : a ≡ j = omega arith in ap (λ m. m ∷ []) here
range_push a (suc n) j e =
    let more : suc n + 1 ≡ suc (n + 1) = omega arith in
    ap (range_with_len a) more ∙ ap (λ ms. a ∷ ms) (range_push (a + 1) n j (omega arith))

-- one more part
pub flat_pushed : {X : Type 0} (f : ℕ → List X) (a n j : ℕ) → a + n ≡ j → (before old new : List X) → old ≡ before ++ flat_map f (range_with_len a n) → new ≡ old ++ f j
    → new ≡ before ++ flat_map f (range_with_len a (n + 1))
flat_pushed f a n j at before old new e g =
    g ∙ ap (λ xs. xs ++ f j) e ∙ append_assoc before (flat_map f (range_with_len a n)) (f j)
    ∙ ap (λ xs. before ++ xs)
    (sym
    (ap (flat_map f) (range_push a n j at)
    ∙ flat_map-append f (range_with_len a n) (j ∷ [])
    ∙ ap (λ xs. flat_map f (range_with_len a n) ++ xs) (append-nil (f j))))

-- what is made of one more element
flat_more : {X Y : Type 0} (f : X → List Y) (xs : List X) (i : ℕ) (x : X) → slice_get xs i ≡ Some x → flat_map f (take (suc i) xs) ≡ flat_map f (take i xs) ++ f x
flat_more f [] i x is = absurd (cc (is))
flat_more f (y ∷ ys) zero x is = let here : y ≡ x = cc (is) in append-nil (f y) ∙ ap f here
flat_more f (y ∷ ys) (suc i) x is = ap (λ zs. f y ++ zs) (flat_more f ys i x is) ∙ sym (append_assoc (f y) (flat_map f (take i ys)) (f x))

pub flat_taken : {X Y : Type 0} (f : X → List Y) (xs : List X) (i : ℕ) (x : X) → slice_get xs i ≡ Some x → (before old new : List Y) → old ≡ before ++ flat_map f (take i xs) → new ≡ old ++ f x
    → new ≡ before ++ flat_map f (take (i + 1) xs)
flat_taken f xs i x is before old new e g =
    let next : suc i ≡ i + 1 = omega arith in
    g ∙ ap (λ ys. ys ++ f x) e ∙ append_assoc before (flat_map f (take i xs)) (f x) ∙ ap (λ ys. before ++ ys) (sym (flat_more f xs i x is) ∙ ap (λ m. flat_map f (take m xs)) next)

-- one more element
pub map_pushed : {X : Type 0} (f : ℕ → X) (a n j : ℕ) → a + n ≡ j → (x : X) (old new : List X) → old ≡ map f (range_with_len a n) → new ≡ old ++ x ∷ [] → x ≡ f j → new ≡ map f (range_with_len a (n + 1))
map_pushed f a n j at x old new e g is =
    g ∙ (λ i. e i ++ is i ∷ []) ∙ sym (ap (map f) (range_push a n j at) ∙ map-append f (range_with_len a n) (j ∷ []))

-- one more element, after what was there
pub map_pushed_behind : {X : Type 0} (f : ℕ → X) (a n j : ℕ) → a + n ≡ j → (x : X) (before old new : List X) → old ≡ before ++ map f (range_with_len a n) → new ≡ old ++ x ∷ [] → x ≡ f j → new ≡ before ++ map f (range_with_len a (n + 1))
map_pushed_behind f a n j at x before old new e g is =
    g ∙ (λ i. e i ++ is i ∷ []) ∙ append_assoc before (map f (range_with_len a n)) (f j ∷ [])
    ∙ ap (λ xs. before ++ xs) (sym (ap (map f) (range_push a n j at) ∙ map-append f (range_with_len a n) (j ∷ [])))

-- one more number
pub range_pushed_behind : (n j : ℕ) → n ≡ j → (before old new : List ℕ) → old ≡ before ++ range_with_len 0 n → new ≡ old ++ j ∷ [] → new ≡ before ++ range_with_len 0 (n + 1)
range_pushed_behind n j at before old new e g =
    g ∙ ap (λ xs. xs ++ j ∷ []) e ∙ append_assoc before (range_with_len 0 n) (j ∷ []) ∙ ap (λ xs. before ++ xs) (sym (range_push 0 n j (omega (arith, at))))
