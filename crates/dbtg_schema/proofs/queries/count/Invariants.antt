use Rattle.std.proofs.Common.{◌≡◌, ◌+◌, ◌≤◌, drop}
use Rattle.dbtg_schema.specs.Texts.Labels.{count_of}
use Rattle.dbtg_schema.specs.Inside.Views.{views}
use Rattle.dbtg_schema.proofs.queries.count.Given as goal

abbrev pub invariant-loop-word : goal.invariant-loop-word
invariant-loop-word l = record { so_far : l.n + count_of l.role (views (drop l.word-index l.words)) ≡ count_of l.role (views l.words); bound : l.n ≤ l.word-index }
