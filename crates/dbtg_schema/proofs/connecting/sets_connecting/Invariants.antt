use Rattle.std.proofs.Common.{◌≡◌, ℕ, ◌<◌, length}
use Rattle.dbtg_schema.specs.Inside.Connecting.{connects_in}
use Rattle.dbtg_schema.specs.Erasing.{marked}
use Rattle.dbtg_schema.proofs.connecting.sets_connecting.Given as goal

abbrev pub invariant-loop-s : goal.invariant-loop-s
invariant-loop-s l = record {
  room : length l.marks ≡ 16;
  made : (s : ℕ) → s < l.s → marked l.marks s ≡ connects_in l.schema s l.rtype;
}
