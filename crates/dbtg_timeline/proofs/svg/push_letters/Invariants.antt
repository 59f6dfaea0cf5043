use Rattle.std.proofs.Common.{◌≡◌, ◌++◌, ◌+◌, ◌*◌, drop}
use Rattle.dbtg_timeline.specs.Svg.{letters_text}
use Rattle.dbtg_timeline.proofs.svg.push_letters.Given as goal

abbrev pub invariant-loop-letter : goal.invariant-loop-letter
invariant-loop-letter l = record { text : l.out.items ++ letters_text l.x l.y (drop l.letter-index l.letters) ≡ l.initial.out.items ++ letters_text l.left l.y l.letters; count : l.x ≡ l.left + 9 * l.letter-index }
