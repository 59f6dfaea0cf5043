use Rattle.std.proofs.Common.{◌≡◌, drop}
use Rattle.std.specs.List.{find}
use Rattle.dbtg_cells.specs.Keys.{owner_eq}
use Rattle.dbtg_refusal.specs.Inside.Imaged.{lists_in}
use Rattle.dbtg_refusal.proofs.imaged.list_in.Given as goal

abbrev pub invariant-loop-list : goal.invariant-loop-list
invariant-loop-list l = find (λ e. owner_eq e.0 l.owner) (drop l.list-index l.list-items) ≡ find (λ e. owner_eq e.0 l.owner) (lists_in l.image l.fn.set)
