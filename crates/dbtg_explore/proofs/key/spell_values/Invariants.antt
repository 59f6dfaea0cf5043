use Rattle.std.proofs.Common.{◌≡◌, ◌++◌, drop}
use Rattle.dbtg_explore.specs.Inside.Keys.{counted_numbers, counts_by, numbers_from}
use Rattle.dbtg_explore.proofs.key.spell_values.Given as goal

abbrev pub invariant-loop-field : goal.invariant-loop-field
invariant-loop-field l = l.out.items ++ numbers_from (counts_by l.goes l.read) l.field (drop l.field l.values) ≡ l.fn.out.items ++ counted_numbers (counts_by l.goes l.read) l.values
