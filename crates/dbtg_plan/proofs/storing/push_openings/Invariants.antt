use Rattle.std.proofs.Common.{◌≡◌, ◌++◌, ◌∷◌, [], drop}
use Rattle.std.specs.List.{flat_map}
use Rattle.dbtg_plan.specs.Inside.Store.{opening_edit, edits_of_opening}
use Rattle.dbtg_plan.proofs.storing.push_openings.Given as goal

abbrev pub invariant-loop-set : goal.invariant-loop-set
invariant-loop-set l =
    l.edits ++ flat_map (λ s. opening_edit l.key s ∷ []) (drop l.set-index l.set-items)
    ≡ l.initial.edits ++ edits_of_opening l.schema l.key
