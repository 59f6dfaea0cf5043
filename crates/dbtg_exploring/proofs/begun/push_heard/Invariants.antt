use Rattle.std.proofs.Common.{◌≡◌, ◌++◌, filter, take}
use Rattle.dbtg_going.specs.Turns.{is_heard}
use Rattle.dbtg_exploring.proofs.begun.push_heard.Given as goal

abbrev pub invariant-loop-unit : goal.invariant-loop-unit
invariant-loop-unit l = l.turns.items ≡ l.initial.turns.items ++ filter (is_heard l.around l.units) (take l.unit-index l.told)
