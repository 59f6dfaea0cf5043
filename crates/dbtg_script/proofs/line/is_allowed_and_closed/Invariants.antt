use Rattle.std.proofs.Common.{◌≡◌, drop, false}
use Rattle.std.specs.Prelude.{◌&&◌}
use Rattle.dbtg_script.specs.Lines.{ends_in_text, is_printable}
use Rattle.dbtg_script.proofs.line.is_allowed_and_closed.Given as goal

abbrev pub invariant-loop-b : goal.invariant-loop-b
invariant-loop-b l = record {
  printable : (l.printable && is_printable (drop l.b-index l.line)) ≡ is_printable l.line;
  inside : ends_in_text l.inside (drop l.b-index l.line) ≡ ends_in_text false l.line;
}
