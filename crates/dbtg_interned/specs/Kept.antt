-- Lists that are kept once each, under the numbers of the places where they stand.
use Rattle.std.specs.Prelude.{ℕ, ◌≡◌, List, [], ◌++◌, Some, ◌⊎◌, slice_get}

-- the old lists stay where they stood, with others behind them
pub record Keeps (old new : List (List ℕ)) : Type 0 where
  pub rest : List (List ℕ)
  pub new_is : new ≡ old ++ rest

-- no list stands at two places
abbrev pub IsOnce : List (List ℕ) → Type 0
IsOnce lists = (i j : ℕ) (list : List ℕ) → slice_get lists i ≡ Some list → slice_get lists j ≡ Some list → i ≡ j

-- each of the new lists is an old one, or this one
abbrev pub AddsOnly : List (List ℕ) → List ℕ → List (List ℕ) → Type 0
AddsOnly old list new = (i : ℕ) (l : List ℕ) → slice_get new i ≡ Some l → (slice_get old i ≡ Some l) ⊎ (l ≡ list)

-- each list stands once, the empty list at 0
pub record IsContents (lists : List (List ℕ)) : Type 0 where
  pub empty_first : slice_get lists 0 ≡ Some []
  pub once : IsOnce lists
