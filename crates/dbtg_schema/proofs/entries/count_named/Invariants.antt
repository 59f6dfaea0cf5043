use Rattle.std.proofs.Common.{◌≡◌, ◌+◌, ◌≤◌, drop}
use Rattle.std.specs.Prelude.{count_by}
use Rattle.std.specs.Str.{bytes_eq}
use Rattle.dbtg_schema.specs.Texts.Labels.{named}
use Rattle.dbtg_schema.specs.Inside.Views.{views}
use Rattle.dbtg_schema.proofs.entries.count_named.Given as goal

abbrev pub invariant-loop-word : goal.invariant-loop-word
invariant-loop-word l = record {
  so_far : l.n + count_by (bytes_eq l.text) (named l.role (views (drop l.word-index l.words))) ≡ count_by (bytes_eq l.text) (named l.role (views l.words));
  bound : l.n ≤ l.word-index;
}
