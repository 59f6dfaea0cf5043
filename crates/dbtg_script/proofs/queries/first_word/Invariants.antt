use Rattle.std.proofs.Common.{◌≡◌, drop}
use Rattle.dbtg_script.specs.Labels.{first_word}
use Rattle.dbtg_script.specs.Inside.Views.{views}
use Rattle.dbtg_script.proofs.queries.first_word.Given as goal

abbrev pub invariant-loop-word : goal.invariant-loop-word
invariant-loop-word l = first_word l.role (views (drop l.word-index l.words)) ≡ first_word l.role (views l.words)
