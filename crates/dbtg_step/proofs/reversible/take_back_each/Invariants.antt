use Rattle.std.proofs.Common.{◌≡◌, ◌-◌, length}
use Rattle.dbtg_step.specs.Core.Reversible.{made_first}
use Rattle.dbtg_step.specs.Inside.Reversible.{HasWaysBack}
use Rattle.dbtg_step.proofs.reversible.take_back_each.Given as goal

abbrev pub invariant-loop-ways : goal.invariant-loop-ways
invariant-loop-ways l = record {
  first : made_first l.count l.database ≡ made_first l.count l.initial.database;
  back : HasWaysBack l.database l.ways.items;
  stays : length l.database.history - length l.ways.items ≡ length l.initial.database.history - length l.initial.ways.items;
}

abbrev pub decreases-loop-ways : goal.decreases-loop-ways
decreases-loop-ways l = length l.database.history
