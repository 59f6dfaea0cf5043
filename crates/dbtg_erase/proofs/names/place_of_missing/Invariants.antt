use Rattle.std.proofs.Common.{◌≡◌, take}
use Rattle.std.specs.Prelude.{None}
use Rattle.dbtg_erase.specs.NextCell.{first_missing}
use Rattle.dbtg_erase.proofs.names.place_of_missing.Given as goal

abbrev pub invariant-loop-place : goal.invariant-loop-place
invariant-loop-place l = first_missing l.held (take l.place l.names) ≡ None
