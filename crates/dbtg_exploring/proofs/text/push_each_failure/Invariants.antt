use Rattle.std.proofs.Common.{◌≡◌, ◌++◌, flat_map, take}
use Rattle.dbtg_exploring.specs.Texts.{failure_text}
use Rattle.dbtg_exploring.proofs.text.push_each_failure.Given as goal

abbrev pub invariant-loop-first : goal.invariant-loop-first
invariant-loop-first l = l.out.items ≡ l.initial.out.items ++ flat_map (failure_text l.told) (take l.first-index l.failures)
