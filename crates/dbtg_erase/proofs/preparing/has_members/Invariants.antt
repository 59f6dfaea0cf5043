use Rattle.std.proofs.Common.{◌≡◌, drop, length}
use Rattle.std.specs.Prelude.{nat_lt}
use Rattle.std.specs.List.{list_any}
use Rattle.dbtg_schema.specs.Structure.{set_numbers}
use Rattle.dbtg_unit.specs.Database.Statements.Conditions.{has_members}
use Rattle.dbtg_unit.specs.Hands.InHand.{in_hand}
use Rattle.dbtg_erase.specs.WorkList.{list_in}
use Rattle.dbtg_erase.proofs.preparing.has_members.Given as goal

abbrev pub invariant-loop-s : goal.invariant-loop-s
invariant-loop-s l = list_any (λ s. nat_lt 0 (length (list_in l.held l.key s))) (drop l.s (set_numbers l.schema)) ≡ has_members l.schema (in_hand l.held) l.key
