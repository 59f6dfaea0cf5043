use Rattle.std.proofs.Common.{◌≡◌, ◌++◌, drop, map}
use Rattle.dbtg_schema.specs.declared.role.Role.TheVariants as role
use Rattle.dbtg_schema.specs.Texts.Labels.{entries}
use Rattle.dbtg_schema.specs.Texts.SchemaLists.{member_from}
use Rattle.dbtg_schema.specs.Inside.Views.{views}
use Rattle.dbtg_schema.proofs.build.members.Given as goal

abbrev pub invariant-loop-i : goal.invariant-loop-i
invariant-loop-i l = l.out.items ++ map (member_from l.types) (entries role.MemberEntry (views (drop l.i l.entry))) ≡ map (member_from l.types) (entries role.MemberEntry (views l.entry))
