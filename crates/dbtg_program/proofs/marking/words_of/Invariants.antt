use Rattle.std.proofs.Common.{◌≡◌, map, take}
use Rattle.dbtg_program.specs.Sentences.{fields_in, word_of}
use Rattle.dbtg_program.specs.Inside.Views.{view_marked}
use Rattle.dbtg_program.proofs.marking.words_of.Given as goal

abbrev pub invariant-loop-word : goal.invariant-loop-word
invariant-loop-word l = l.out.items ≡ map (word_of (fields_in l.text)) (map view_marked (take l.word-index l.words))
