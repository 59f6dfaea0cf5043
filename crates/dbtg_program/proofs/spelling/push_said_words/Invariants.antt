use Rattle.std.proofs.Common.{◌≡◌, ◌++◌, drop, map}
use Rattle.dbtg_program.specs.Going.{said_word}
use Rattle.dbtg_program.specs.Spelling.{words_behind, words_text}
use Rattle.dbtg_program.proofs.spelling.push_said_words.Given as goal

abbrev pub invariant-loop-word : goal.invariant-loop-word
invariant-loop-word l = l.out.items ++ words_behind (map (said_word l.state) (drop l.word-index l.others)) ≡ l.fn.out.items ++ words_text (map (said_word l.state) l.words)
