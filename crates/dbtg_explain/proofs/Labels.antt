-- The words up to a label, with and without their places in memory.
use Rattle.std.proofs.Common.{◌≡◌, ◌∙◌, ℕ, Bool, true, false, cond, not, List, [], ◌∷◌, map, take_while, codes, bytes_eq, drop, refl, ap, sym}
use Rattle.std.specs.Borrow.{Bor}
use Rattle.std.proofs.lemmas.List.Sums.{take_while-cons}

-- a word that is not a label
abbrev is_other : List ℕ → Bool
is_other word = not (bytes_eq word (codes "NAME"))

pub up_to_label : (words : List (Bor (List ℕ))) → map (λ word. word.now) (take_while (λ word. not (bytes_eq word.now (codes "NAME"))) words) ≡ take_while (λ word. not (bytes_eq word (codes "NAME"))) (map (λ word. word.now) words)
up_to_label [] = refl
up_to_label (word ∷ words) =
    ap (map (λ (one : Bor (List ℕ)). one.now)) (take_while-cons (λ (one : Bor (List ℕ)). is_other one.now) word words)
    ∙ by (is_other word.now) (up_to_label words)
    ∙ sym (take_while-cons is_other word.now (map (λ (one : Bor (List ℕ)). one.now) words))
  where
    by : (is : Bool) → map (λ one. one.now) (take_while (λ one. is_other one.now) words) ≡ take_while is_other (map (λ one. one.now) words)
        → map (λ one. one.now) (cond is (word ∷ take_while (λ one. is_other one.now) words) []) ≡ cond is (word.now ∷ take_while is_other (map (λ one. one.now) words)) []
    by true more = ap (λ (ws : List (List ℕ)). word.now ∷ ws) more
    by false more = refl

pub behind_first : (words : List (Bor (List ℕ))) → map (λ word. word.now) (drop 1 words) ≡ drop 1 (map (λ word. word.now) words)
behind_first [] = refl
behind_first (word ∷ words) = refl
