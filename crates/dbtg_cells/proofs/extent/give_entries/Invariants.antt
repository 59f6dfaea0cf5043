use Rattle.std.proofs.Common.{◌≡◌, ◌++◌, ◌-◌, ◌+◌, ◌≤◌, length, replicate, None}
use Rattle.std.specs.Vec.{vec_capacity}
use Rattle.std.specs.List.{range_with_len}
use Rattle.dbtg_cells.proofs.extent.give_entries.Given as goal

abbrev pub invariant-loop-before : goal.invariant-loop-before
invariant-loop-before l =
    let entries = length l.fn.numbers.items in
    (l.numbers.items ≡ l.fn.numbers.items ++ replicate (l.before - entries) (record { last = 0; calc = None }))
    × (l.free.items ≡ l.fn.free.items ++ range_with_len (entries + 1) (l.before - entries))
    × (l.before - entries ≤ l.number - entries)
    × (vec_capacity l.numbers ≡ vec_capacity l.fn.numbers)
    × (vec_capacity l.free ≡ vec_capacity l.fn.free)
