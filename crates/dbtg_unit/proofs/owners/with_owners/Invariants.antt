use Rattle.std.proofs.Common.{◌≡◌, ◌++◌, length, take, drop}
use Rattle.dbtg_unit.specs.Hands.Guesses.{with_owners}
use Rattle.dbtg_unit.proofs.owners.with_owners.Given as goal

abbrev pub invariant-loop-set : goal.invariant-loop-set
invariant-loop-set l = record { count : length l.owners ≡ length l.guesses; is : l.owners ≡ with_owners (take l.set l.guesses) (take l.set l.initial.owners) ++ drop l.set l.initial.owners }
