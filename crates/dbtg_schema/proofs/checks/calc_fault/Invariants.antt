use Rattle.std.proofs.Common.{◌≡◌, [], drop, take}
use Rattle.std.specs.Prelude.{filter}
use Rattle.dbtg_schema.specs.Lookups.{first}
use Rattle.dbtg_schema.specs.Texts.Labels.{is, named}
use Rattle.dbtg_schema.specs.Texts.SchemaFaults.{calc_faults}
use Rattle.dbtg_schema.specs.declared.role.Role.TheVariants as role
use Rattle.dbtg_schema.specs.Inside.Views.{views}
use Rattle.dbtg_schema.proofs.checks.calc_fault.Given as goal

abbrev pub invariant-loop-i : goal.invariant-loop-i
invariant-loop-i l =
    let items = named role.ItemName (views l.entry) in
    let calc = filter (is role.CalcItem) (views l.entry) in
    first (calc_faults items (named role.CalcItem (views (take l.i l.entry))) (filter (is role.CalcItem) (views (drop l.i l.entry)))) ≡ first (calc_faults items [] calc)
