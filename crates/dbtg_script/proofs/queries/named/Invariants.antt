use Rattle.std.proofs.Common.{◌≡◌, drop}
use Rattle.dbtg_script.specs.Labels.{last_text, named}
use Rattle.dbtg_script.specs.Inside.Views.{views}
use Rattle.dbtg_script.proofs.queries.named.Given as goal

abbrev pub invariant-loop-word : goal.invariant-loop-word
invariant-loop-word l = last_text l.role l.text (views (drop l.word-index l.words)) ≡ named l.role (views l.words)
