use Rattle.std.proofs.Common.{◌≡◌, length}
use Rattle.dbtg_schema.specs.Inside.Erasing.{AreErasedOfEach}
use Rattle.dbtg_schema.proofs.erasing.areas_of_each.Given as goal

abbrev pub invariant-loop-t : goal.invariant-loop-t
invariant-loop-t l = record {
  many : length l.each ≡ l.t;
  right : AreErasedOfEach l.each l.schema;
}
