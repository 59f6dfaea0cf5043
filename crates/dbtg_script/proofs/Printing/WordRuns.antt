-- Moves that go into one word, taken from the front.
use Rattle.std.proofs.Common.{◌≡◌, ℕ, ◌+◌, Bool, true, false, List, [], ◌∷◌, ◌++◌, refl, ap, ◌∙◌, arith}
use Rattle.std.specs.Prelude.{if◌then◌else◌}
use Rattle.std.proofs.lemmas.Bool.{eqb-true}
use Rattle.dbtg_unit.specs.declared.moves.Move.{Move}
use Rattle.dbtg_unit.specs.declared.moves.Move.TheVariants.{Step, Quit}
use Rattle.dbtg_script.specs.Printing.WordTexts.{in_one_word, onto_run, runs, move_word, run_words, line_of}

-- k moves m before runs
abbrev pub merged : Move → ℕ → List (Move × ℕ) → List (Move × ℕ)
merged m k [] = (m, k) ∷ []
merged m k (r ∷ rs) = if in_one_word m r.0 then (m, k + r.1) ∷ rs else (m, k) ∷ r ∷ rs

pub same_unit : (m n : Move) → in_one_word m n ≡ true → m ≡ n
same_unit (Step u) (Step v) h = ap Step (eqb-true u v h)
same_unit (Step u) (Quit v) h = absurd cc
same_unit (Quit u) n h = absurd cc

pub once : (m : Move) (rs : List (Move × ℕ)) → onto_run m rs ≡ merged m 1 rs
once m [] = refl
once m (r ∷ rs) = refl

one_more : (k l : ℕ) → (k + 1) + l ≡ k + (1 + l)
one_more k l = omega arith

grown : (m n : Move) (k : ℕ) (rs : List (Move × ℕ)) → in_one_word m n ≡ true → merged m (k + 1) rs ≡ merged m k (onto_run n rs)
grown m n k [] h = rw h refl
grown m n k (r ∷ rs) h = by_cases (in_one_word n r.0) refl where
  same : in_one_word m r.0 ≡ in_one_word n r.0
  same = ap (λ (x : Move). in_one_word x r.0) (same_unit m n h)

  by_cases : (b : Bool) → in_one_word n r.0 ≡ b → merged m (k + 1) (r ∷ rs) ≡ merged m k (if b then (n, 1 + r.1) ∷ rs else (n, 1) ∷ r ∷ rs)
  by_cases true e = let s = same ∙ e in rw (s, h, one_more k r.1) refl
  by_cases false e = let s = same ∙ e in rw (s, h) refl

begun : (m n : Move) (k : ℕ) (rs : List (Move × ℕ)) → in_one_word m n ≡ false → merged m k (onto_run n rs) ≡ (m, k) ∷ onto_run n rs
begun m n k [] h = rw h refl
begun m n k (r ∷ rs) h = by_cases (in_one_word n r.0) where
  by_cases : (b : Bool) → (let x : List (Move × ℕ) = if b then (n, 1 + r.1) ∷ rs else (n, 1) ∷ r ∷ rs in merged m k x ≡ (m, k) ∷ x)
  by_cases true = rw h refl
  by_cases false = rw h refl

spaced : (w : List ℕ) (n : Move) (rs : List (Move × ℕ)) → line_of (w ∷ run_words (onto_run n rs)) ≡ w ++ 32 ∷ line_of (run_words (onto_run n rs))
spaced w n [] = refl
spaced w n (r ∷ rs) = by_cases (in_one_word n r.0) where
  by_cases : (b : Bool) → (let x : List (Move × ℕ) = if b then (n, 1 + r.1) ∷ rs else (n, 1) ∷ r ∷ rs in line_of (w ∷ run_words x) ≡ w ++ 32 ∷ line_of (run_words x))
  by_cases true = refl
  by_cases false = refl

-- the line of k moves m and of those after them
abbrev pub line_from : Move → ℕ → List Move → List ℕ
line_from m k ms = line_of (run_words (merged m k (runs ms)))

pub line_grown : (m n : Move) (k : ℕ) (ms after : List Move) → ms ≡ n ∷ after → in_one_word m n ≡ true → line_from m (k + 1) after ≡ line_from m k ms
line_grown m n k ms after e h = rw e (ap (λ (rs : List (Move × ℕ)). line_of (run_words rs)) (grown m n k (runs after) h))

pub line_begun : (m n : Move) (k : ℕ) (ms after : List Move) → ms ≡ n ∷ after → in_one_word m n ≡ false → line_from m k ms ≡ move_word m k ++ 32 ∷ line_from n 1 after
line_begun m n k ms after e h =
    rw e (ap (λ (rs : List (Move × ℕ)). line_of (run_words rs)) (begun m n k (runs after) h) ∙ spaced (move_word m k) n (runs after)
    ∙ ap (λ (rs : List (Move × ℕ)). move_word m k ++ 32 ∷ line_of (run_words rs)) (once n (runs after)))
