use Rattle.std.proofs.Common.{◌≡◌, ℕ, ◌<◌, length}
use Rattle.dbtg_schema.specs.Erasing.{marked}
use Rattle.dbtg_schema.specs.Inside.Erasing.{touches}
use Rattle.dbtg_schema.proofs.erasing.touched_by.Given as goal

abbrev pub invariant-loop-a : goal.invariant-loop-a
invariant-loop-a l = record {
  room : length l.areas ≡ 16;
  made : (a : ℕ) → a < l.a → marked l.areas a ≡ touches l.schema l.rtype a;
}
