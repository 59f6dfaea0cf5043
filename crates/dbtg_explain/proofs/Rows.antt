-- The rows of a table are its lines: the first is before the first line feed, the others after it.
use Rattle.std.proofs.Common.{◌≡◌, ◌<◌, ◌≤◌, ℕ, Bool, true, false, eqb, List, [], ◌∷◌, length, refl, arith}
use Rattle.dbtg_script.specs.Lines.{lines}
use Rattle.dbtg_script.specs.Printing.Spelling.{in_front, behind}

pub no_row : (text : List ℕ) → length text ≡ 0 → lines text ≡ []
unfolding lines
no_row [] h = refl
no_row (b ∷ bs) h = absurd (omega arith)

-- one byte more in the first row, if the text begins with a row
onto : (b : ℕ) (bs : List ℕ) → lines bs ≡ in_front 10 bs ∷ lines (behind 10 bs) → lines (b ∷ bs) ≡ in_front 10 (b ∷ bs) ∷ lines (behind 10 (b ∷ bs))
unfolding lines
onto b bs h = by (eqb b 10) refl
  where
    by : (k : Bool) → eqb b 10 ≡ k → lines (b ∷ bs) ≡ in_front 10 (b ∷ bs) ∷ lines (behind 10 (b ∷ bs))
    by true e = rw e refl
    by false e = rw (e, h) refl

-- a text that is not empty begins with a row
pub row_first : (text : List ℕ) → (length text ≡ 0 → ⊥) → lines text ≡ in_front 10 text ∷ lines (behind 10 text)
unfolding lines
row_first [] some = absurd (some refl)
row_first (b ∷ []) some = by (eqb b 10) refl
  where
    by : (k : Bool) → eqb b 10 ≡ k → lines (b ∷ []) ≡ in_front 10 (b ∷ []) ∷ lines (behind 10 (b ∷ []))
    by true e = rw e refl
    by false e = rw e refl
row_first (b ∷ c ∷ cs) some = onto b (c ∷ cs) (row_first (c ∷ cs) (λ h. absurd (omega arith)))

-- what follows a line feed is shorter than the text, or as short
behind_le : (text : List ℕ) → length (behind 10 text) ≤ length text
behind_le [] = omega arith
behind_le (b ∷ bs) = by (eqb b 10) refl (behind_le bs)
  where
    by : (k : Bool) → eqb b 10 ≡ k → length (behind 10 bs) ≤ length bs → length (behind 10 (b ∷ bs)) ≤ length (b ∷ bs)
    by true e le = rw e (omega arith)
    by false e le = rw e (omega arith)

pub behind_shorter : (text : List ℕ) → (length text ≡ 0 → ⊥) → length (behind 10 text) < length text
behind_shorter [] some = absurd (some refl)
behind_shorter (b ∷ bs) some = by (eqb b 10) refl (behind_le bs)
  where
    by : (k : Bool) → eqb b 10 ≡ k → length (behind 10 bs) ≤ length bs → length (behind 10 (b ∷ bs)) < length (b ∷ bs)
    by true e le = rw e (omega arith)
    by false e le = rw e (omega arith)
