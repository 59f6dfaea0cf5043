-- A number that is not kept, or that does not pass, is no answer.
use Rattle.std.proofs.Common.{◌≡◌, sym, ◌∙◌, ap, ℕ, ◌+◌, ◌<◌, Bool, true, false, cond, ◌&&◌, ◌||◌, List, ◌∷◌, Some, drop, inl, inr}
use Rattle.std.specs.Prelude.{filter}
use Rattle.std.specs.List.{find, list_any, range_with_len}
use Rattle.std.proofs.lemmas.Bool.{cases_Bool, and_parts}
use Rattle.dbtg_schema.proofs.Public.{numbers_next}

skipped_one : (p keep : ℕ → Bool) (i : ℕ) (rest : List ℕ) → (keep i && p i) ≡ false → list_any p (filter keep (i ∷ rest)) ≡ list_any p (filter keep rest)
skipped_one p keep i rest off =
    let kept = filter keep rest in
    elim (cases_Bool (keep i)) [
      | inl in_it ↦ ap (λ b. list_any p (cond b (i ∷ kept) kept)) in_it ∙ ap (λ b. b || list_any p kept) (sym (ap (λ b. b && p i) in_it) ∙ off)
      | inr out ↦ ap (λ b. list_any p (cond b (i ∷ kept) kept)) out
    ]

pub skipped : (p keep : ℕ → Bool) (n i : ℕ) → i < n → (keep i && p i) ≡ false → list_any p (filter keep (drop (i + 1) (range_with_len 0 n))) ≡ list_any p (filter keep (drop i (range_with_len 0 n)))
skipped p keep n i h off =
    sym (ap (λ xs. list_any p (filter keep xs)) (numbers_next n i h) ∙ skipped_one p keep i (drop (i + 1) (range_with_len 0 n)) off)

find_one : (p keep : ℕ → Bool) (i : ℕ) (rest : List ℕ) → (keep i && p i) ≡ false → find p (filter keep (i ∷ rest)) ≡ find p (filter keep rest)
find_one p keep i rest off =
    let kept = filter keep rest in
    elim (cases_Bool (keep i)) [
      | inl in_it ↦ ap (λ b. find p (cond b (i ∷ kept) kept)) in_it ∙ ap (λ b. cond b (Some i) (find p kept)) (sym (ap (λ b. b && p i) in_it) ∙ off)
      | inr out ↦ ap (λ b. find p (cond b (i ∷ kept) kept)) out
    ]

-- the first that is kept and passes is not the number that is passed over
pub find_skipped : (p keep : ℕ → Bool) (n i : ℕ) → i < n → (keep i && p i) ≡ false → find p (filter keep (drop (i + 1) (range_with_len 0 n))) ≡ find p (filter keep (drop i (range_with_len 0 n)))
find_skipped p keep n i h off =
    sym (ap (λ xs. find p (filter keep xs)) (numbers_next n i h) ∙ find_one p keep i (drop (i + 1) (range_with_len 0 n)) off)

-- it is this one
pub find_here : (p keep : ℕ → Bool) (n i : ℕ) → i < n → (keep i && p i) ≡ true → find p (filter keep (drop i (range_with_len 0 n))) ≡ Some i
find_here p keep n i h on =
    let both = and_parts _ _ on in
    let kept = filter keep (drop (i + 1) (range_with_len 0 n)) in
    ap (λ xs. find p (filter keep xs)) (numbers_next n i h)
    ∙ ap (λ b. find p (cond b (i ∷ kept) kept)) both.0
    ∙ ap (λ b. cond b (Some i) (find p kept)) both.1
