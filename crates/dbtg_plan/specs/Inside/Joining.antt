-- How a record joins the current occurrence of a set, read from the held cells.
-- s is a set, k a record, m a new member, e a member with its sort key.
use Rattle.std.specs.Prelude.{ℕ, [], ◌∷◌, Option, Some}
use Rattle.dbtg_schema.specs.Lists.{Lists}
use Rattle.dbtg_cells.specs.declared.key.DbKey.{DbKey}
use Rattle.dbtg_cells.specs.declared.key.Value.{Value}
use Rattle.dbtg_cells.specs.declared.ring.Occurrence.{Occurrence}
use Rattle.dbtg_unit.specs.declared.edit.Edit.TheVariants.{ChangeOwner, RaiseVersion}
use Rattle.dbtg_unit.specs.declared.edit.UnitEdit.TheVariants.{Move}
use Rattle.dbtg_unit.specs.declared.unit.Unit.{Unit}
use Rattle.dbtg_unit.specs.Database.Statements.Conditions.{joined_place}
use Rattle.dbtg_unit.specs.Hands.Hands.{Hands}
use Rattle.dbtg_unit.specs.Hands.InHand.{occurrence_in}
use Rattle.dbtg_unit.specs.Hands.PlanOf.{done_answer, joining_edit, slot_edit}
use Rattle.dbtg_unit.specs.Hands.Prepared.{Plan}

-- the current occurrence of set s, where its ring is held
abbrev pub joined_occurrence : Lists → Unit → Hands → ℕ → Option Occurrence
joined_occurrence schema unit hands s = occurrence_in hands s (joined_place schema unit s).owner

-- INSERT of k with this sort key and this version
abbrev pub inserting_with : Lists → Unit → ℕ → DbKey → Option Value → ℕ → Plan
inserting_with schema unit s k key version = record {
  answer = done_answer;
  cells = joining_edit schema unit s k key ∷ slot_edit k (ChangeOwner s (Some (joined_place schema unit s).owner)) ∷ slot_edit k RaiseVersion ∷ [];
  versions = (k, version) ∷ [];
  unit = Move s (record { owner = (joined_place schema unit s).owner; at = Some k });
}
