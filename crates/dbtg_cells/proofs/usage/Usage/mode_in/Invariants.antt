use Rattle.std.proofs.Common.{◌≡◌, drop}
use Rattle.dbtg_cells.specs.Users.{mode_in}
use Rattle.dbtg_cells.proofs.usage.Usage.mode_in.Given as goal

abbrev pub invariant-loop-e : goal.invariant-loop-e
invariant-loop-e l = mode_in (drop l.e-index l.e-items) l.unit ≡ mode_in l.self.users l.unit
