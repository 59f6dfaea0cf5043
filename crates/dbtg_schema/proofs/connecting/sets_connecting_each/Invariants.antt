use Rattle.std.proofs.Common.{◌≡◌, length}
use Rattle.dbtg_schema.specs.Inside.Connecting.{AreConnectingOfEach}
use Rattle.dbtg_schema.proofs.connecting.sets_connecting_each.Given as goal

abbrev pub invariant-loop-t : goal.invariant-loop-t
invariant-loop-t l = record {
  many : length l.each ≡ l.t;
  right : AreConnectingOfEach l.each l.schema;
}
