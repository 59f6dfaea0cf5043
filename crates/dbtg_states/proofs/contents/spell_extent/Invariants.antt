use Rattle.std.proofs.Common.{◌≡◌, ◌++◌, take}
use Rattle.std.specs.Prelude.{flat_map}
use Rattle.dbtg_states.specs.Parts.{number_numbers}
use Rattle.dbtg_states.proofs.contents.spell_extent.Given as goal

abbrev pub invariant-loop-before : goal.invariant-loop-before
invariant-loop-before l = l.out.items ≡ l.initial.out.items ++ flat_map number_numbers (take l.before l.extent.numbers)
