use Rattle.std.proofs.Common.{◌≡◌, ℕ, ◌<◌, ◌||◌, ◌==◌, length}
use Rattle.dbtg_schema.specs.Erasing.{marked}
use Rattle.dbtg_schema.specs.Inside.Erasing.{is_given}
use Rattle.dbtg_schema.proofs.erasing.one_step.Given as goal

abbrev pub invariant-loop-y : goal.invariant-loop-y
invariant-loop-y l = record {
  room : length l.next ≡ 16;
  made : (y : ℕ) → y < l.y → marked l.next y ≡ (y == l.start || is_given l.leads l.types l.marks y);
}
