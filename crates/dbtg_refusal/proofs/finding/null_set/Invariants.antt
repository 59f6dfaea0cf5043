use Rattle.std.proofs.Common.{◌≡◌, drop}
use Rattle.std.specs.List.{find}
use Rattle.std.specs.Prelude.{is_none}
use Rattle.dbtg_schema.specs.Structure.{automatic_sets}
use Rattle.dbtg_unit.specs.Database.State.Units.{place_in}
use Rattle.dbtg_refusal.proofs.finding.null_set.Given as goal

abbrev pub invariant-loop-set : goal.invariant-loop-set
invariant-loop-set l = find (λ s. is_none (place_in l.schema l.unit s)) (drop l.set-index l.set-items) ≡ find (λ s. is_none (place_in l.schema l.unit s)) (automatic_sets l.schema l.fn.rtype)
