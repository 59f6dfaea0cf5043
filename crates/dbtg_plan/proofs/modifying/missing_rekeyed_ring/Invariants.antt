use Rattle.std.proofs.Common.{◌≡◌, drop, map}
use Rattle.std.specs.Prelude.{filter}
use Rattle.std.specs.List.{flat_map}
use Rattle.dbtg_schema.specs.Lookups.{at}
use Rattle.dbtg_schema.specs.Structure.{rekeyed_sets, set_numbers}
use Rattle.dbtg_unit.specs.Hands.Needs.{first_missing, ring_names}
use Rattle.dbtg_plan.specs.Inside.Modifying.{is_rekeyed}
use Rattle.dbtg_plan.proofs.modifying.missing_rekeyed_ring.Given as goal

abbrev pub invariant-loop-s : goal.invariant-loop-s
invariant-loop-s l =
    first_missing l.held (flat_map (λ s. ring_names s (at l.held.guesses s)) (filter (λ s. is_rekeyed l.schema l.changes l.rtype s) (drop l.s (set_numbers l.schema))))
    ≡ first_missing l.held (flat_map (λ s. ring_names s (at l.held.guesses s)) (rekeyed_sets l.schema l.rtype (map (λ c. c.item) l.changes)))
