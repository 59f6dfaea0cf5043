use Rattle.std.proofs.Common.{◌≡◌, ◌++◌, drop}
use Rattle.dbtg_schema.specs.Texts.SchemaLists.{items_from}
use Rattle.dbtg_schema.specs.Inside.Views.{views}
use Rattle.dbtg_schema.proofs.build.items.Given as goal

abbrev pub invariant-loop-i : goal.invariant-loop-i
invariant-loop-i l = l.out.items ++ items_from (views (drop l.i l.entry)) ≡ items_from (views l.entry)
