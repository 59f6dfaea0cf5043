use Rattle.std.proofs.Common.{◌≡◌, ◌≤◌, length, map}
use Rattle.std.specs.List.{range_with_len}
use Rattle.std.specs.Vec.{vec_capacity}
use Rattle.dbtg_cells.specs.Numbers.{last_of}
use Rattle.dbtg_step.proofs.imaging.generations.Given as goal

abbrev pub invariant-loop-turn : goal.invariant-loop-turn
invariant-loop-turn l = (l.all.items ≡ map (λ n. last_of n l.extent.numbers) (range_with_len 1 l.turn)) × (length l.extent.numbers ≤ vec_capacity l.all)
