use Rattle.std.proofs.Common.{◌≡◌, drop}
use Rattle.dbtg_step.specs.Core.Reversible.{is_named}
use Rattle.dbtg_step.proofs.way_back.is_among.Given as goal

abbrev pub invariant-loop-other : goal.invariant-loop-other
invariant-loop-other l = is_named (drop l.other-index l.names) l.name ≡ is_named l.names l.name
