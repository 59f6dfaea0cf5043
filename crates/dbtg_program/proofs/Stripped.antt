-- A text without its last byte, if that is a space; and a text that does not end in a space.
use Rattle.std.proofs.Common.{◌≡◌, ℕ, zero, suc, ◌-◌, ◌<◌, ◌≤◌, Bool, false, cond, eqb, List, [], ◌∷◌, ◌++◌, get_or, length, take, refl, sym, ap, ◌∙◌, arith}
use Rattle.std.proofs.Math.Seq.{take-suc}
use Rattle.std.proofs.lemmas.Bool.{ne_eqb}
use Rattle.dbtg_program.specs.Values.{in_front_of, stripped}

strip_space : (xs : List ℕ) → stripped (xs ++ 32 ∷ []) ≡ stripped xs
strip_space [] = refl
strip_space (x ∷ xs) = ap (in_front_of x) (strip_space xs)

in_front_of_some : (x : ℕ) (xs : List ℕ) (b : ℕ) → in_front_of x (xs ++ b ∷ []) ≡ x ∷ xs ++ b ∷ []
in_front_of_some x [] b = refl
in_front_of_some x (y ∷ xs) b = refl

strip_other : (xs : List ℕ) (b : ℕ) → eqb b 32 ≡ false → stripped (xs ++ b ∷ []) ≡ xs ++ b ∷ []
strip_other [] b h = ap (λ (t : Bool). cond t [] (b ∷ [])) h
strip_other (x ∷ xs) b h = ap (in_front_of x) (strip_other xs b h) ∙ in_front_of_some x xs b

last_of : (t : List ℕ) (n : ℕ) → 0 < n → n ≤ length t → take n t ≡ take (n - 1) t ++ get_or t (n - 1) 0 ∷ []
last_of t zero some within = absurd (omega arith)
last_of t (suc n) some within = let e : suc n - 1 ≡ n = omega arith in rw e (take-suc t n 0 (omega arith))

pub stripped_on : (t : List ℕ) (n : ℕ) → 0 < n → n ≤ length t → get_or t (n - 1) 0 ≡ 32 → stripped (take n t) ≡ stripped t → stripped (take (n - 1) t) ≡ stripped t
stripped_on t n some within is inv =
    sym (strip_space (take (n - 1) t)) ∙ ap (λ (b : ℕ). stripped (take (n - 1) t ++ b ∷ [])) (sym is) ∙ ap stripped (sym (last_of t n some within)) ∙ inv

pub stripped_end : (t : List ℕ) (n : ℕ) → n ≤ length t → (0 < n → get_or t (n - 1) 0 ≡ 32 → ⊥) → stripped (take n t) ≡ stripped t → take n t ≡ stripped t
stripped_end t zero within other inv = inv
stripped_end t (suc n) within other inv =
    let last = last_of t (suc n) (omega arith) within in
    let no_space : eqb (get_or t (suc n - 1) 0) 32 ≡ false = ne_eqb _ _ (other (omega arith)) in
    last ∙ sym (strip_other (take (suc n - 1) t) (get_or t (suc n - 1) 0) no_space) ∙ ap stripped (sym last) ∙ inv
