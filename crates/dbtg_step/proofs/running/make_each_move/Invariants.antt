use Rattle.std.proofs.Common.{drop}
use Rattle.dbtg_step.specs.Core.Parts.{machine}
use Rattle.dbtg_step.proofs.TheCore.RunsShown.{IsUnderWay}
use Rattle.dbtg_step.proofs.running.make_each_move.Given as goal

-- what is left is made from where the core stands
abbrev pub invariant-loop-one : goal.invariant-loop-one
invariant-loop-one l = IsUnderWay (machine l.initial.core) (machine l.core) l.results.items (drop l.one-index l.moves) l.moves
