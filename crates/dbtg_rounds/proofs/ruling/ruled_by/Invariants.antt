-- States that were ruled out so far are so rightly.
use Rattle.std.proofs.Common.{◌≡◌, length}
use Rattle.dbtg_rounds.specs.Inside.Ruling.{AreRuled}
use Rattle.dbtg_rounds.proofs.ruling.ruled_by.Given as goal

abbrev pub invariant-loop-unit : goal.invariant-loop-unit
invariant-loop-unit l = record {
  long : length l.ruled.items ≡ length l.ranks;
  right : AreRuled l.edges l.ruled.items;
}
