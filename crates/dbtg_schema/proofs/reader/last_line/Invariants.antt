use Rattle.std.proofs.Common.{◌≡◌, ◌+◌, ◌≤◌, drop}
use Rattle.dbtg_schema.specs.Texts.Words.{last_line}
use Rattle.dbtg_schema.proofs.reader.last_line.Given as goal

abbrev pub invariant-loop-i : goal.invariant-loop-i
invariant-loop-i l = record { so_far : l.line + last_line (drop l.i l.text) ≡ last_line l.text + 1; bound : l.line ≤ l.i + 1 }
