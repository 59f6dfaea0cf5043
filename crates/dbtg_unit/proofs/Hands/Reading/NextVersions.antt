-- A held record has a next version.
-- k is a key, r a stored record, x a cell.
use Rattle.std.proofs.Common.{◌≡◌, sym, ◌∙◌, ap, ℕ, ◌+◌, ◌<◌, cond, Option, Some, None, eqb, inl, inr}
use Rattle.std.specs.Prelude.{◌^◌}
use Rattle.std.proofs.lemmas.Bool.{cases_Bool}
use Rattle.std.proofs.lemmas.Option.{none-some}
use Rattle.dbtg_cells.specs.declared.key.DbKey.{DbKey}
use Rattle.dbtg_cells.specs.declared.cell.Cell.{Cell}
use Rattle.dbtg_cells.specs.declared.cell.Cell.TheVariants.{Usage as UsageCell, Extent as ExtentCell, Ring as RingCell, Slot as SlotCell}
use Rattle.dbtg_cells.specs.declared.slot.Stored.{Stored}
use Rattle.dbtg_unit.specs.Database.State.CellNames.{slot_name}
use Rattle.dbtg_unit.specs.Hands.Hands.{Hands, cell_of}
use Rattle.dbtg_unit.specs.Hands.InHand.{stored_in, stored_of}
use Rattle.dbtg_unit.specs.Hands.Making.{HaveNextVersions}

-- the cell of a held record
stored_cell : (g : ℕ) (x : Option Cell) (r : Stored) → stored_of g x ≡ Some r → x ≡ Some (SlotCell (Some r))
stored_cell g None r h = absurd (none-some r h)
stored_cell g (Some (UsageCell v)) r h = absurd (none-some r h)
stored_cell g (Some (ExtentCell v)) r h = absurd (none-some r h)
stored_cell g (Some (RingCell v)) r h = absurd (none-some r h)
stored_cell g (Some (SlotCell None)) r h = absurd (none-some r h)
stored_cell g (Some (SlotCell (Some q))) r h =
    elim (cases_Bool (eqb q.generation g)) [
      | inl e ↦ ap (λ (o : Option Stored). Some (SlotCell o)) (sym (ap (λ b. cond b (Some q) None) e) ∙ h)
      | inr e ↦ absurd (none-some r (sym (ap (λ b. cond b (Some q) None) e) ∙ h))
    ]

-- a held record has a next version
pub has_next_version : (hands : Hands) (k : DbKey) (r : Stored) → HaveNextVersions hands.cells → Some r ≡ stored_in hands k → r.version + 1 < 2 ^ 64
has_next_version hands k r next is = next (slot_name k) r (stored_cell k.generation (cell_of (slot_name k) hands.cells) r (sym is))
