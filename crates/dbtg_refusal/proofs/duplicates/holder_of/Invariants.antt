use Rattle.std.proofs.Common.{◌≡◌, drop}
use Rattle.std.specs.List.{find}
use Rattle.dbtg_unit.specs.Database.State.Base.{calc_items}
use Rattle.dbtg_refusal.specs.Inside.Imaged.{holds}
use Rattle.dbtg_refusal.proofs.duplicates.holder_of.Given as goal

abbrev pub invariant-loop-entry : goal.invariant-loop-entry
invariant-loop-entry l = find (holds l.schema l.items.rtype (calc_items l.schema l.items.rtype l.items.values.now) l.left_out) (drop l.entry-index l.entry-items)
    ≡ find (holds l.schema l.items.rtype (calc_items l.schema l.items.rtype l.items.values.now) l.left_out) l.image.records
