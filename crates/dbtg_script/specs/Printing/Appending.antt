-- What a printer does to the bytes before it.
use Rattle.std.specs.Prelude.{ℕ, ◌≡◌, ◌+◌, ◌<◌, ◌≤◌, ◌++◌, List, OnErr, OnOk, Result, length, vec_capacity}
use Rattle.std.specs.Global.{Vec}

-- the text is appended, which fails only where there is no room for all of it; room is never lost
pub record Appends {E : Type 0} (text : List ℕ) (old : Vec ℕ) (result : Result (Unit {0}) E) (new : Vec ℕ) : Type 0 where
  pub items : OnOk result (new.items ≡ old.items ++ text)
  pub full : OnErr result (vec_capacity old < length old.items + length text)
  pub capacity : vec_capacity old ≤ vec_capacity new
