use Rattle.std.proofs.Common.{◌≡◌, ◌≤◌, ◌-◌, length, take, true}
use Rattle.std.specs.List.{list_all}
use Rattle.dbtg_threading.specs.Threading.{is_between}
use Rattle.dbtg_threading.proofs.between.leading_between.Given as goal

abbrev pub invariant-loop-count : goal.invariant-loop-count
invariant-loop-count l = (l.count ≤ length l.turns) × (list_all (is_between l.around l.units) (take l.count l.turns) ≡ true)

abbrev pub decreases-loop-count : goal.decreases-loop-count
decreases-loop-count l = length l.turns - l.count
