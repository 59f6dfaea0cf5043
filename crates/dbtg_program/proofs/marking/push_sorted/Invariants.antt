use Rattle.std.proofs.Common.{◌≡◌, ◌++◌, false, drop, map}
use Rattle.dbtg_script.specs.Tokens.{view}
use Rattle.dbtg_program.specs.Inside.Views.{view_marked}
use Rattle.dbtg_program.proofs.marking.push_sorted.Given as goal

abbrev pub invariant-loop-word : goal.invariant-loop-word
invariant-loop-word l = map view_marked l.marked.items ++ map (λ w. (view w, false)) (drop l.word-index l.words) ≡ map view_marked l.initial.marked.items ++ map (λ w. (view w, false)) l.words
