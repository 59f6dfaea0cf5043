use Rattle.std.proofs.Common.{◌≡◌, drop}
use Rattle.dbtg_cells.specs.Keys.{is_member}
use Rattle.dbtg_refusal.proofs.imaged.has_key.Given as goal

abbrev pub invariant-loop-other : goal.invariant-loop-other
invariant-loop-other l = is_member l.key (drop l.other-index l.keys) ≡ is_member l.key l.keys
