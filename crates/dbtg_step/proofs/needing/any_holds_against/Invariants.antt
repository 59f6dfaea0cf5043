use Rattle.std.proofs.Common.{◌≡◌, drop}
use Rattle.std.specs.List.{list_any}
use Rattle.dbtg_step.specs.Inside.Stands.{holds_against}
use Rattle.dbtg_step.proofs.needing.any_holds_against.Given as goal

abbrev pub invariant-loop-runner : goal.invariant-loop-runner
invariant-loop-runner l = list_any (holds_against l.exclusive l.area) (drop l.runner-index l.runners) ≡ list_any (holds_against l.exclusive l.area) l.runners
