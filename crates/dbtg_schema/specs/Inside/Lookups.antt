-- A word beside `Lookups` that private functions and lemmas use.
use Rattle.std.specs.Prelude.{◌≡◌, ℕ, List, Some, slice_get}

-- each of these, with its place from 0 on, is as said
unfoldable pub EachAt : {X : Type 0} → (ℕ → X → Type 0) → List X → Type 0
EachAt {X} is xs = (i : ℕ) (x : X) → slice_get xs i ≡ Some x → is i x
