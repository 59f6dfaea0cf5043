use Rattle.std.proofs.Common.{◌≡◌, drop}
use Rattle.dbtg_schema.specs.Texts.Spelling.{among}
use Rattle.dbtg_script.specs.Labels.{texts}
use Rattle.dbtg_script.specs.Inside.Views.{views}
use Rattle.dbtg_script.proofs.queries.is_named.Given as goal

abbrev pub invariant-loop-word : goal.invariant-loop-word
invariant-loop-word l = among l.text (texts l.role (views (drop l.word-index l.words))) ≡ among l.text (texts l.role (views l.words))
