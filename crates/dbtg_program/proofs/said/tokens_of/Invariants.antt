use Rattle.std.proofs.Common.{◌≡◌, length, map, take}
use Rattle.dbtg_script.specs.Tokens.{view}
use Rattle.dbtg_program.specs.Going.{said_word}
use Rattle.dbtg_program.proofs.said.tokens_of.Given as goal

abbrev pub invariant-loop-word : goal.invariant-loop-word
invariant-loop-word l = record { count : length l.tokens.items ≡ l.word-index; tokens : map view l.tokens.items ≡ map (said_word l.state) (take l.word-index l.words) }
