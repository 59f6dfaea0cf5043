use Rattle.std.proofs.Common.{◌≡◌, ◌+◌, ◌++◌, ◌≤◌, length, map}
use Rattle.dbtg_script.specs.Moves.{RefusedAtOnce, moves_of, refused_word, spelled_move, words}
use Rattle.dbtg_script.proofs.moves.read_moves.Given as goal

abbrev pub invariant-loop-word : goal.invariant-loop-word
invariant-loop-word l = record {
  reached : refused_word (length l.moves.items) l.number (map spelled_move (words l.left.rest.now)) ≡ refused_word 0 1 (map spelled_move (words l.fn.text));
  said : l.moves.items ++ moves_of (words l.left.rest.now) ≡ moves_of (words l.fn.text);
  first : RefusedAtOnce spelled_move l.fn.text ((l.number ≡ 1) × (words l.left.rest.now ≡ words l.fn.text));
  in_range : l.number + length l.left.rest.now ≤ length l.fn.text + 1;
}

abbrev pub decreases-loop-word : goal.decreases-loop-word
decreases-loop-word l = length l.left.rest.now
