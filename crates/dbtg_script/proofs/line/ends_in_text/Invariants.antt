use Rattle.std.proofs.Common.{◌≡◌, drop, false}
use Rattle.dbtg_script.specs.Lines.{ends_in_text}
use Rattle.dbtg_script.proofs.line.ends_in_text.Given as goal

abbrev pub invariant-loop-b : goal.invariant-loop-b
invariant-loop-b l = ends_in_text l.inside (drop l.b-index l.line) ≡ ends_in_text false l.line
