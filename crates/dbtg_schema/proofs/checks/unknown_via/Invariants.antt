use Rattle.std.proofs.Common.{◌≡◌, drop}
use Rattle.dbtg_schema.specs.Lookups.{first}
use Rattle.dbtg_schema.specs.Texts.SchemaFaults.{unknown_vias}
use Rattle.dbtg_schema.specs.Inside.Views.{views}
use Rattle.dbtg_schema.proofs.checks.unknown_via.Given as goal

abbrev pub invariant-loop-word : goal.invariant-loop-word
invariant-loop-word l = first (unknown_vias (views l.words) (views (drop l.word-index l.words))) ≡ first (unknown_vias (views l.words) (views l.words))
