-- The first element of a list that passes, as a loop comes to it.
use Rattle.std.proofs.Common.{◌≡◌, sym, ◌∙◌, ap, ℕ, ◌+◌, ◌<◌, Bool, true, false, cond, List, ◌∷◌, Some, drop, get_or, length}
use Rattle.std.specs.List.{find}
use Rattle.std.proofs.lemmas.List.{drop_more}

-- x is the i-th element
left_next : {X : Type 0} (xs : List X) (i : ℕ) (x : X) → i < length xs → x ≡ get_or xs i x → drop i xs ≡ x ∷ drop (i + 1) xs
left_next xs i x below is = drop_more xs i x below ∙ ap (λ y. y ∷ drop (i + 1) xs) (sym is)

-- it is this one
pub find_at : {X : Type 0} (p : X → Bool) (xs : List X) (i : ℕ) (x : X) → i < length xs → x ≡ get_or xs i x → p x ≡ true → find p (drop i xs) ≡ Some x
find_at p xs i x below is on = ap (find p) (left_next xs i x below is) ∙ ap (λ b. cond b (Some x) (find p (drop (i + 1) xs))) on

-- it is a later one
pub find_past : {X : Type 0} (p : X → Bool) (xs : List X) (i : ℕ) (x : X) → i < length xs → x ≡ get_or xs i x → p x ≡ false → find p (drop (i + 1) xs) ≡ find p (drop i xs)
find_past p xs i x below is off = sym (ap (find p) (left_next xs i x below is) ∙ ap (λ b. cond b (Some x) (find p (drop (i + 1) xs))) off)
