use Rattle.std.proofs.Common.{◌≡◌, ◌+◌, ◌++◌, ◌≤◌, length, map}
use Rattle.dbtg_script.specs.Moves.{RefusedAtOnce, refused_word, spelled_turn, words}
use Rattle.dbtg_script.specs.Turns.{turns_of}
use Rattle.dbtg_script.proofs.turns.read_turns.Given as goal

abbrev pub invariant-loop-word : goal.invariant-loop-word
invariant-loop-word l = record {
  reached : refused_word (length l.units.items) l.number (map spelled_turn (words l.left.rest.now)) ≡ refused_word 0 1 (map spelled_turn (words l.fn.text));
  said : l.units.items ++ turns_of (words l.left.rest.now) ≡ turns_of (words l.fn.text);
  first : RefusedAtOnce spelled_turn l.fn.text ((l.number ≡ 1) × (words l.left.rest.now ≡ words l.fn.text));
  in_range : l.number + length l.left.rest.now ≤ length l.fn.text + 1;
}

abbrev pub decreases-loop-word : goal.decreases-loop-word
decreases-loop-word l = length l.left.rest.now
