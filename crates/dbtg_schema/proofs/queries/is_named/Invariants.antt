use Rattle.std.proofs.Common.{◌≡◌, drop}
use Rattle.dbtg_schema.specs.Texts.Spelling.{among}
use Rattle.dbtg_schema.specs.Texts.Labels.{named}
use Rattle.dbtg_schema.specs.Inside.Views.{views}
use Rattle.dbtg_schema.proofs.queries.is_named.Given as goal

abbrev pub invariant-loop-word : goal.invariant-loop-word
invariant-loop-word l = among l.text (named l.role (views (drop l.word-index l.words))) ≡ among l.text (named l.role (views l.words))
