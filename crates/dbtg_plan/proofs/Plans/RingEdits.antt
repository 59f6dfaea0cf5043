-- Edits of held cells, by what is read from them.
-- c is the name of a cell, x a cell, k a key, s a set, o an owner.
use Rattle.std.proofs.Common.{◌≡◌, refl, sym, ◌∙◌, ap, subst, ℕ, true, false, cond, Option, Some, None}
use Rattle.std.specs.Prelude.{is_some}
use Rattle.std.proofs.lemmas.Bool.{false≢true}
use Rattle.dbtg_cells.specs.declared.key.Owner.{Owner}
use Rattle.dbtg_cells.specs.declared.name.CellName.TheVariants.{Ring}
use Rattle.dbtg_cells.specs.declared.cell.Cell.{Cell}
use Rattle.dbtg_cells.specs.declared.cell.Cell.TheVariants.{Usage as UsageCell, Extent as ExtentCell, Ring as RingCell, Slot as SlotCell}
use Rattle.dbtg_cells.specs.declared.ring.Occurrence.{Occurrence}
use Rattle.dbtg_cells.specs.Keys.{owner_eq}
use Rattle.dbtg_cells.specs.Shown.{RingView}
use Rattle.dbtg_unit.specs.declared.edit.Edit.{Edit}
use Rattle.dbtg_unit.specs.declared.edit.Edit.TheVariants.{ChangeOwner}
use Rattle.dbtg_unit.specs.Hands.CanEdit.{CanEdit}
use Rattle.dbtg_unit.specs.Database.State.CellNames.{place_of}
use Rattle.dbtg_unit.specs.Hands.Hands.{Hands, cell_of}
use Rattle.dbtg_unit.specs.Hands.InHand.{of_owner, occurrence_in, occurrence_of}
use Rattle.dbtg_unit.specs.Hands.Making.{CanEditHeld}

-- an occurrence that is an owner's is the ring's
pub ring_is : (o : Owner) (ring : Option Occurrence) → is_some (of_owner o ring) ≡ true → ring ≡ of_owner o ring
ring_is o None h = absurd (false≢true h)
ring_is o (Some r) h =
    elim (owner_eq r.owner o) as (λ b. is_some (cond b (Some r) None) ≡ true → Some r ≡ cond b (Some r) None) [ true ↦ λ h. refl | false ↦ λ h. absurd (false≢true h) ] h

-- an edit can be made of the held ring of an occurrence, where it can be made of a ring with that occurrence
pub can_edit_ring : (hands : Hands) (s : ℕ) (o : Owner) (edit : Edit) → is_some (occurrence_in hands s o) ≡ true
    → ((v : RingView) → cell_of (Ring s (place_of o)) hands.cells ≡ Some (RingCell v) → v.occurrence ≡ occurrence_in hands s o → CanEdit edit (RingCell v))
    → CanEditHeld (record { name = Ring s (place_of o); edit = edit }) hands.cells
can_edit_ring hands s o edit there can x is = by_cell x is (subst (λ (c : Option Cell). is_some (occurrence_of o c) ≡ true) is there) where
  by_cell : (x : Cell) → cell_of (Ring s (place_of o)) hands.cells ≡ Some x → is_some (occurrence_of o (Some x)) ≡ true → CanEdit edit x
  by_cell (RingCell v) is h = can v is (ring_is o v.occurrence h ∙ sym (ap (occurrence_of o) is))
  by_cell (UsageCell v) is h = absurd (false≢true h)
  by_cell (ExtentCell v) is h = absurd (false≢true h)
  by_cell (SlotCell v) is h = absurd (false≢true h)

-- the owner in a slot can always be changed
pub free_owner : (s : ℕ) (o : Option Owner) (x : Cell) → CanEdit (ChangeOwner s o) x
free_owner s o (UsageCell v) = tt
free_owner s o (ExtentCell v) = tt
free_owner s o (RingCell v) = tt
free_owner s o (SlotCell v) = tt
