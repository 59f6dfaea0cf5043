use Rattle.std.proofs.Common.{◌≡◌, drop, eqb, length}
use Rattle.std.specs.Prelude.{filter}
use Rattle.std.specs.List.{find, list_any, range_with_len}
use Rattle.dbtg_schema.specs.Lookups.{at}
use Rattle.dbtg_unit.specs.Database.Statements.Checks.{areas_of}
use Rattle.dbtg_refusal.specs.Inside.Areas.{passes}
use Rattle.dbtg_refusal.specs.Obstacles.{area_with}
use Rattle.dbtg_refusal.proofs.areas.area_with.Given as goal

abbrev pub invariant-loop-a : goal.invariant-loop-a
invariant-loop-a l =
    find (λ a. passes l.opening (at l.unit.modes a)) (filter (λ a. list_any (λ b. eqb b a) (areas_of l.schema l.unit l.statement)) (drop l.a (range_with_len 0 (length l.schema.areas))))
    ≡ area_with (passes l.opening) l.schema l.unit l.statement
