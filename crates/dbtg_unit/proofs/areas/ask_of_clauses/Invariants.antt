use Rattle.std.proofs.Common.{◌≡◌, drop}
use Rattle.std.specs.List.{list_any}
use Rattle.dbtg_schema.specs.Structure.{area_of}
use Rattle.dbtg_unit.specs.Inside.Areas.{asks}
use Rattle.dbtg_unit.proofs.areas.ask_of_clauses.Given as goal

abbrev pub invariant-loop-clause : goal.invariant-loop-clause
invariant-loop-clause l =
    list_any (λ m. asks l.unit.modes l.question (area_of l.schema m.rtype)) (drop l.clause-index l.clauses)
    ≡ list_any (λ m. asks l.unit.modes l.question (area_of l.schema m.rtype)) l.clauses
