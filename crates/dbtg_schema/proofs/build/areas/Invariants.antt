use Rattle.std.proofs.Common.{◌≡◌, ◌++◌, drop}
use Rattle.dbtg_schema.specs.Texts.SchemaLists.{areas_from}
use Rattle.dbtg_schema.specs.Inside.Views.{views}
use Rattle.dbtg_schema.proofs.build.areas.Given as goal

abbrev pub invariant-loop-i : goal.invariant-loop-i
invariant-loop-i l = l.out.items ++ areas_from (views (drop l.i l.words)) ≡ areas_from (views l.words)
