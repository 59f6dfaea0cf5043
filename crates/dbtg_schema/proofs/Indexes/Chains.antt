-- The same set by rules: who is reached along a chain.
use Rattle.std.proofs.Common.{◌≡◌, Bool, true}

pub data Reached {X : Type 0} (leads : X → X → Bool) (start : X → Bool) : X → Type 0 where
  Starts : (y : X) → start y ≡ true → Reached leads start y
  Follows : (x y : X) → Reached leads start x → leads x y ≡ true → Reached leads start y
