use Rattle.std.proofs.Common.{◌≡◌, ◌≤◌, ◌^◌, drop}
use Rattle.std.specs.Prelude.{min}
use Rattle.dbtg_script.specs.Printing.Spelling.{number, number_after}
use Rattle.dbtg_script.proofs.spelling.number.Given as goal

abbrev pub invariant-loop-digit : goal.invariant-loop-digit
invariant-loop-digit l = record {
  bound : l.n ≤ 10 ^ 18;
  value : min (number_after l.n (drop l.digit-index l.text)) (10 ^ 18) ≡ min (number l.text) (10 ^ 18);
}
