use Rattle.std.proofs.Common.{◌≡◌, drop}
use Rattle.dbtg_schema.specs.Texts.Labels.{entries}
use Rattle.dbtg_schema.specs.Texts.SchemaFaults.{picture_in}
use Rattle.dbtg_schema.specs.declared.role.Role.TheVariants as role
use Rattle.dbtg_schema.specs.Inside.Views.{views}
use Rattle.dbtg_schema.proofs.entries.picture_in.Given as goal

abbrev pub invariant-loop-i : goal.invariant-loop-i
invariant-loop-i l = picture_in l.name (entries role.ItemEntry (views (drop l.i l.words))) ≡ picture_in l.name (entries role.ItemEntry (views l.words))
