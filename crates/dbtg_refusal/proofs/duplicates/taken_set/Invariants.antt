use Rattle.std.proofs.Common.{◌≡◌, ◌&&◌, drop, eqb, length}
use Rattle.std.specs.Prelude.{filter, map}
use Rattle.std.specs.List.{find, list_any, range_with_len}
use Rattle.dbtg_schema.specs.Lookups.{some_and}
use Rattle.dbtg_schema.specs.Structure.{member_clause, order_of, rekeyed_sets}
use Rattle.dbtg_unit.specs.Database.Statements.Conditions.{refuses_equal, sort_key_taken}
use Rattle.dbtg_refusal.specs.Inside.Imaged.{imaged}
use Rattle.dbtg_refusal.proofs.duplicates.taken_set.Given as goal

abbrev pub invariant-loop-s : goal.invariant-loop-s
invariant-loop-s l = find (λ s. refuses_equal (order_of l.schema s) && sort_key_taken l.schema (imaged l.schema l.image) l.key l.items s) (filter (λ s. some_and (λ m. some_and (λ i. list_any (λ j. eqb j i) (map (λ c. c.item) l.changes)) m.key) (member_clause l.schema s l.key.rtype)) (drop l.s (range_with_len 0 (length l.schema.sets))))
    ≡ find (λ s. refuses_equal (order_of l.schema s) && sort_key_taken l.schema (imaged l.schema l.image) l.key l.items s) (rekeyed_sets l.schema l.key.rtype (map (λ c. c.item) l.changes))
