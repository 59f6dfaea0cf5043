use Rattle.std.proofs.Common.{◌≡◌, ℕ, ◌<◌, length}
use Rattle.dbtg_schema.specs.Erasing.{marked}
use Rattle.dbtg_schema.specs.Inside.Erasing.{leads_to}
use Rattle.dbtg_schema.proofs.erasing.leads_from.Given as goal

abbrev pub invariant-loop-y : goal.invariant-loop-y
invariant-loop-y l = record {
  room : length l.members ≡ 16;
  made : (y : ℕ) → y < l.y → marked l.members y ≡ leads_to l.schema l.owner y;
}
