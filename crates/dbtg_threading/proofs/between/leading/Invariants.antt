use Rattle.std.proofs.Common.{◌≡◌, ◌≤◌, ◌-◌, length, take}
use Rattle.std.specs.Prelude.{replicate}
use Rattle.dbtg_unit.specs.declared.limits.TheConstants.{MOST_STATEMENTS}
use Rattle.dbtg_threading.proofs.between.leading.Given as goal

abbrev pub invariant-loop-count : goal.invariant-loop-count
invariant-loop-count l = (l.count ≤ length l.turns) × (l.count ≤ MOST_STATEMENTS) × (take l.count l.turns ≡ replicate l.count l.unit)

abbrev pub decreases-loop-count : goal.decreases-loop-count
decreases-loop-count l = length l.turns - l.count
