use Rattle.std.proofs.Common.{◌≡◌, drop}
use Rattle.std.specs.List.{find}
use Rattle.dbtg_cells.specs.Keys.{is_member}
use Rattle.dbtg_refusal.specs.Inside.Imaged.{lists_in}
use Rattle.dbtg_refusal.proofs.imaged.owner_in.Given as goal

abbrev pub invariant-loop-list : goal.invariant-loop-list
invariant-loop-list l = find (λ e. is_member l.key e.1) (drop l.list-index l.list-items) ≡ find (λ e. is_member l.key e.1) (lists_in l.image l.fn.set)
