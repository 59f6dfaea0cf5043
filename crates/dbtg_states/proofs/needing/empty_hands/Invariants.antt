use Rattle.std.proofs.Common.{◌≡◌, [], length}
use Rattle.dbtg_states.proofs.needing.empty_hands.Given as goal

abbrev pub invariant-loop-area : goal.invariant-loop-area
invariant-loop-area l = record {
  cells : l.held.cells ≡ [];
  guesses : length l.held.guesses ≡ length l.schema.sets;
}
