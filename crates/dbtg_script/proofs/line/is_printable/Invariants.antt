use Rattle.std.proofs.Common.{◌≡◌, drop}
use Rattle.std.specs.Prelude.{◌&&◌}
use Rattle.dbtg_script.specs.Lines.{is_printable}
use Rattle.dbtg_script.proofs.line.is_printable.Given as goal

abbrev pub invariant-loop-b : goal.invariant-loop-b
invariant-loop-b l = (l.printable && is_printable (drop l.b-index l.line)) ≡ is_printable l.line
