use Rattle.std.proofs.Common.{◌≡◌, ◌++◌, map}
use Rattle.std.specs.Vec.Iter.{into_iter_items}
use Rattle.dbtg_program.specs.Scripts.{line_with}
use Rattle.dbtg_program.proofs.program.Program.of_script.Given as goal

-- the lines that are made and those that are left to make are all of them
abbrev pub invariant-loop-statement : goal.invariant-loop-statement
invariant-loop-statement l = l.lines.items ++ map line_with (into_iter_items l.statement-iterator) ≡ map line_with l.fn.script.items
