use Rattle.std.proofs.Common.{◌≡◌, drop}
use Rattle.std.specs.List.{find}
use Rattle.std.specs.Prelude.{is_some}
use Rattle.dbtg_schema.specs.Lookups.{first_cause}
use Rattle.dbtg_schema.specs.Structure.{automatic_sets}
use Rattle.dbtg_unit.specs.Database.State.Base.{key_item}
use Rattle.dbtg_unit.specs.Database.Statements.Checks.{place_checks}
use Rattle.dbtg_refusal.specs.Inside.Imaged.{imaged}
use Rattle.dbtg_refusal.proofs.placing.refusing_set.Given as goal

abbrev pub invariant-loop-set : goal.invariant-loop-set
invariant-loop-set l = find (λ s. is_some (first_cause (place_checks l.schema (imaged l.schema l.image) l.unit s (key_item l.schema s l.items.rtype l.items.values.now)))) (drop l.set-index l.set-items)
    ≡ find (λ s. is_some (first_cause (place_checks l.schema (imaged l.schema l.image) l.unit s (key_item l.schema s l.items.rtype l.items.values.now)))) (automatic_sets l.schema l.items.rtype)
