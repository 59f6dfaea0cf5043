use Rattle.std.proofs.Common.{◌≡◌, drop, eqb, not, length}
use Rattle.std.specs.Prelude.{filter}
use Rattle.std.specs.List.{find, list_any, range_with_len}
use Rattle.dbtg_unit.specs.Database.Statements.Checks.{areas_of}
use Rattle.dbtg_unit.specs.Hands.Needs.{areas_in_order}
use Rattle.dbtg_unit.proofs.order.next_area.Given as goal

abbrev pub invariant-loop-a : goal.invariant-loop-a
invariant-loop-a l =
    find (λ a. not (list_any (λ b. eqb b a) l.held.areas)) (filter (λ a. list_any (λ b. eqb b a) (areas_of l.schema l.unit l.statement)) (drop l.a (range_with_len 0 (length l.schema.areas))))
    ≡ find (λ a. not (list_any (λ b. eqb b a) l.held.areas)) (areas_in_order l.schema l.unit l.statement)
