use Rattle.std.proofs.Common.{◌≡◌, drop}
use Rattle.dbtg_schema.specs.Texts.Labels.{entries}
use Rattle.dbtg_schema.specs.Texts.SchemaFaults.{record_named}
use Rattle.dbtg_schema.specs.declared.role.Role.TheVariants as role
use Rattle.dbtg_schema.specs.Inside.Views.{views}
use Rattle.dbtg_schema.proofs.entries.record_named.Given as goal

abbrev pub invariant-loop-i : goal.invariant-loop-i
invariant-loop-i l = record_named l.name (entries role.RecordEntry (views (drop l.i l.words))) ≡ record_named l.name (entries role.RecordEntry (views l.words))
