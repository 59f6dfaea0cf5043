use Rattle.std.proofs.Common.{◌≡◌, ◌≤◌, take}
use Rattle.std.specs.Vec.{vec_capacity}
use Rattle.dbtg_cells.proofs.copy.copy_numbers.Given as goal

abbrev pub invariant-loop-number : goal.invariant-loop-number
invariant-loop-number l = (l.copies.items ≡ take l.number-index l.numbers) × (l.room ≤ vec_capacity l.copies)
