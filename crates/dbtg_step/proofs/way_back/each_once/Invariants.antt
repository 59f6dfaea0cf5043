use Rattle.std.proofs.Common.{◌≡◌, [], drop}
use Rattle.dbtg_step.specs.Inside.Reversible.{with_names}
use Rattle.dbtg_step.proofs.way_back.each_once.Given as goal

-- the names that are left lead to where all lead
abbrev pub invariant-loop-name : goal.invariant-loop-name
invariant-loop-name l = with_names l.once.items (drop l.name-index l.names) ≡ with_names [] l.names
