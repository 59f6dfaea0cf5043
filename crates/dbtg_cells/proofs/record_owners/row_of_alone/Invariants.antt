use Rattle.std.proofs.Common.{◌≡◌, ◌≤◌, None, replicate, vec_capacity}
use Rattle.dbtg_cells.proofs.record_owners.row_of_alone.Given as goal

abbrev pub invariant-loop-set : goal.invariant-loop-set
invariant-loop-set l = record { items : l.row.items ≡ replicate l._set None; room : l.sets ≤ vec_capacity l.row }
