use Rattle.std.proofs.Common.{◌≡◌, drop}
use Rattle.std.specs.List.{list_any}
use Rattle.dbtg_cells.specs.Modes.{conflict}
use Rattle.dbtg_cells.proofs.usage.Usage.conflicts_with.Given as goal

abbrev pub invariant-loop-e : goal.invariant-loop-e
invariant-loop-e l = list_any (λ e. conflict e.1 l.mode) (drop l.e-index l.e-items) ≡ list_any (λ e. conflict e.1 l.mode) l.self.users
