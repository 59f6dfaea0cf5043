use Rattle.std.proofs.Common.{◌≡◌, ◌≤◌, ◌++◌, drop, map}
use Rattle.std.specs.List.{AllByRecursion}
use Rattle.dbtg_schema.specs.declared.role.Role.TheVariants as role
use Rattle.dbtg_schema.specs.Texts.Labels.{count_of, entries}
use Rattle.dbtg_schema.specs.Texts.SchemaLists.{record_type_from}
use Rattle.dbtg_schema.specs.Inside.Views.{views}
use Rattle.dbtg_schema.proofs.build.types.Given as goal

abbrev pub invariant-loop-i : goal.invariant-loop-i
invariant-loop-i l = record {
  so_far : l.out.items ++ map (record_type_from l.areas) (entries role.RecordEntry (views (drop l.i l.words))) ≡ map (record_type_from l.areas) (entries role.RecordEntry (views l.words));
  fit : AllByRecursion (λ e. count_of role.ItemEntry e ≤ 16) (entries role.RecordEntry (views (drop l.i l.words)));
}
