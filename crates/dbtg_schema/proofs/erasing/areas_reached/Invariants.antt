use Rattle.std.proofs.Common.{◌≡◌, ℕ, ◌<◌, length}
use Rattle.dbtg_schema.specs.Erasing.{marked}
use Rattle.dbtg_schema.specs.Inside.Erasing.{is_given}
use Rattle.dbtg_schema.proofs.erasing.areas_reached.Given as goal

abbrev pub invariant-loop-a : goal.invariant-loop-a
invariant-loop-a l = record {
  room : length l.members ≡ 8;
  made : (a : ℕ) → a < l.a → marked l.members a ≡ is_given l.ways.touched l.types l.marks a;
}
