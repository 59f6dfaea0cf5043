use Rattle.std.proofs.Common.{◌≡◌, ◌++◌, drop, map}
use Rattle.dbtg_script.specs.Tokens.{view}
use Rattle.dbtg_program.specs.Sentences.{marked_from}
use Rattle.dbtg_program.specs.Inside.Views.{view_marked}
use Rattle.dbtg_program.proofs.marking.push_marked.Given as goal

abbrev pub invariant-loop-word : goal.invariant-loop-word
invariant-loop-word l = map view_marked l.marked.items ++ marked_from l.here (map view (drop l.word-index l.words)) ≡ map view_marked l.initial.marked.items ++ marked_from l.fn.here (map view l.words)
