use Rattle.std.proofs.Common.{◌≡◌, drop, eqb}
use Rattle.std.specs.Prelude.{map, filter}
use Rattle.std.specs.List.{list_any}
use Rattle.dbtg_schema.specs.Lookups.{some_and}
use Rattle.dbtg_schema.specs.Structure.{home, member_clause, rekeyed_sets, set_numbers}
use Rattle.dbtg_unit.specs.Inside.Areas.{asks}
use Rattle.dbtg_unit.proofs.areas.ask_of_rekeyed.Given as goal

abbrev pub invariant-loop-s : goal.invariant-loop-s
invariant-loop-s l =
    list_any (asks l.unit.modes l.question) (map (home l.schema) (filter (λ s. some_and (λ m. some_and (λ i. list_any (λ j. eqb j i) (map (λ c. c.item) l.changes)) m.key) (member_clause l.schema s l.rtype)) (drop l.s (set_numbers l.schema))))
    ≡ list_any (asks l.unit.modes l.question) (map (home l.schema) (rekeyed_sets l.schema l.rtype (map (λ c. c.item) l.changes)))
