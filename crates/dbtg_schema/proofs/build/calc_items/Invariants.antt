use Rattle.std.proofs.Common.{◌≡◌, ◌++◌, drop}
use Rattle.dbtg_schema.specs.Texts.SchemaLists.{calc_items_from}
use Rattle.dbtg_schema.specs.Inside.Views.{views}
use Rattle.dbtg_schema.proofs.build.calc_items.Given as goal

abbrev pub invariant-loop-word : goal.invariant-loop-word
invariant-loop-word l = l.out.items ++ calc_items_from l.items (views (drop l.word-index l.entry)) ≡ calc_items_from l.items (views l.entry)
