-- A statement that needs nothing more leaves a legal database and changes only the cells that it holds.
use Rattle.std.proofs.Common.{◌≡◌, refl, sym, ◌∙◌, subst, ℕ, zero, suc, true, false, not, eqb, ◌||◌, List, [], ◌∷◌, map, Option, Some, None, inl, inr}
use Rattle.std.specs.Prelude.{is_some, if◌then◌else◌, cond}
use Rattle.std.specs.List.{list_any, find}
use Rattle.std.proofs.lemmas.Bool.{cases_Bool}
use Rattle.dbtg_schema.specs.Lists.{Lists}
use Rattle.dbtg_schema.specs.Sound.{IsSound}
use Rattle.dbtg_cells.specs.declared.key.Owner.{Owner}
use Rattle.dbtg_cells.specs.declared.name.CellName.{CellName}
use Rattle.dbtg_cells.specs.declared.cell.Cell.{Cell}
use Rattle.dbtg_cells.specs.declared.cell.Cell.TheVariants.{Usage, Extent, Ring, Slot}
use Rattle.dbtg_cells.specs.Cells.{shown}
use Rattle.dbtg_cells.specs.Names.{name_eq}
use Rattle.dbtg_cells.specs.Shown.{CellValue, UsageValue, ExtentValue, RingValue, SlotValue}
use Rattle.dbtg_cells.proofs.Public.{same_name}
use Rattle.dbtg_unit.specs.declared.held.Need.{Need}
use Rattle.dbtg_unit.specs.declared.held.Need.TheVariants.{Area, Take, Stale, Ready}
use Rattle.dbtg_unit.specs.declared.statement.Statement.{Statement}
use Rattle.dbtg_unit.specs.declared.unit.Unit.{Unit}
use Rattle.dbtg_unit.specs.Database.State.Base.{Database}
use Rattle.dbtg_unit.specs.Database.Statements.Checks.{refused_at_once}
use Rattle.dbtg_unit.specs.Hands.Hands.{Hands}
use Rattle.dbtg_unit.specs.Hands.Local.{Agrees as AgreesInHand, AllAgree, holds}
use Rattle.dbtg_unit.specs.Hands.Needs.{areas_in_order, cells_of, is_stale, need, next_of}
use Rattle.dbtg_unit.proofs.Public.{changes_only_its_cells, effect_keeps_legal}
use Rattle.dbtg_step.specs.Machine.SequentialDatabase.{HeldCell, Agrees, MayMake, NeedsNothing, NotAmong, unit_at, with_unit_at}
use Rattle.dbtg_step.specs.Inside.SequentialDatabase.{IsLocal}
use Rattle.dbtg_step.specs.Machine.Network.{network, holding, next_need_of, noted_owners}
use Rattle.dbtg_step.proofs.EachEvent.Premises.{StatementsAreLocal}

-- HELD CELLS

-- a cell, without room, that shows a value
abbrev cell_showing : CellValue → Cell
cell_showing (UsageValue users) = Usage (record { users = users; room = 0 })
cell_showing (ExtentValue numbers) = Extent (record { numbers = numbers })
cell_showing (RingValue occurrence) = Ring (record { occurrence = occurrence; reserved = [] })
cell_showing (SlotValue slot) = Slot slot

shows : (v : CellValue) → shown (cell_showing v) ≡ v
shows (UsageValue users) = refl
shows (ExtentValue numbers) = refl
shows (RingValue occurrence) = refl
shows (SlotValue slot) = refl

abbrev cells_showing : List (HeldCell CellName CellValue) → List (CellName × Cell)
cells_showing = map (λ h. (h.name, cell_showing h.value))

-- the cells are held under the same names
same_held : (cells : List (HeldCell CellName CellValue)) (c : CellName) → list_any (λ (e : CellName × Cell). name_eq c e.0) (cells_showing cells) ≡ list_any (λ (e : CellName × Cell). name_eq c e.0) (holding [] [] cells).cells
same_held [] c = refl
same_held (h ∷ hs) c = λ i. name_eq c h.name || same_held hs c i

all_agree : (schema : Lists) (capacity : ℕ) (db : Database) (cells : List (HeldCell CellName CellValue)) → Agrees (network schema capacity) db cells → AllAgree schema capacity db (cells_showing cells)
all_agree schema capacity db [] agrees = tt
all_agree schema capacity db (h ∷ hs) agrees = (shows h.value ∙ agrees h (inl refl), all_agree schema capacity db hs (λ k i. agrees k (inr i)))

-- a cell whose name none of them has is not held
not_in_hand : (schema : Lists) (capacity : ℕ) (cells : List (HeldCell CellName CellValue)) (c : CellName) → NotAmong (network schema capacity) c cells → holds (cells_showing cells) c ≡ false
not_in_hand schema capacity [] c free = refl
not_in_hand schema capacity (h ∷ hs) c free =
    elim (cases_Bool (name_eq c h.name)) [
      | inl same ↦ absurd (free h (inl refl) (sym (same_name c h.name same)))
      | inr other ↦ subst (λ b. cond b true (holds (cells_showing hs) c) ≡ false) (sym other) (not_in_hand schema capacity hs c (λ k i. free k (inr i)))
    ]

needs_nothing : (guesses : List (Option Owner)) (n : Need) → next_need_of guesses n ≡ NeedsNothing → n ≡ Ready
needs_nothing guesses (Area a) e = absurd (cc (e))
needs_nothing guesses (Take c) e = absurd (cc (e))
needs_nothing guesses Stale e = absurd (cc (e))
needs_nothing guesses Ready e = refl

-- A STATEMENT THAT NEEDS NOTHING MORE

module _ (schema : Lists) (capacity : ℕ) (sound : IsSound schema) (db : Database) (units : List Unit) (unit : Unit) (x : Statement) where
  -- `need` sees only the names of what is held
  same_need : (guesses : List (Option Owner)) (areas : List ℕ) (cells : List (HeldCell CellName CellValue)) → need schema capacity db unit (record { areas = areas; cells = cells_showing cells; guesses = guesses }) x ≡ need schema capacity db unit (holding guesses areas cells) x
  unfolding need
  same_need guesses areas cells = λ i.
      if is_some (refused_at_once schema capacity unit x) then Ready
      else next_of (find (λ a. not (list_any (λ b. eqb b a) areas)) (areas_in_order schema unit x))
      (find (λ c. not (same_held cells c i)) (cells_of schema capacity db unit guesses x))
      (is_stale schema capacity db unit guesses x)

  local_at : (u : ℕ) (guesses : List (Option Owner)) (areas : List ℕ) (cells : List (HeldCell CellName CellValue)) → MayMake (network schema capacity) db units u unit x → Agrees (network schema capacity) db cells
      → (network schema capacity).need db unit x guesses areas cells ≡ NeedsNothing → IsLocal (network schema capacity) db units u unit x cells
  unfolding unit_at with_unit_at
  local_at zero guesses areas cells may agrees e = absurd (none_some may.found) where
    none_some : None ≡ Some unit → ⊥
    none_some h = cc
  local_at (suc n) guesses areas cells may agrees e =
      let after = effect_keeps_legal schema capacity db units n unit x sound may.legal may.found may.fits in
      let hands : Hands = record { areas = areas; cells = cells_showing cells; guesses = guesses } in
      let in_hand : AgreesInHand schema capacity db hands unit = record { legal = may.legal.legal; cells = all_agree schema capacity db cells agrees; usage = (may.legal.each n unit may.found).usage } in
      let ready = same_need guesses areas cells ∙ needs_nothing (noted_owners schema capacity db unit x guesses) (need schema capacity db unit (holding guesses areas cells) x) e in
      record {
        legal = after;
        others = λ c free. changes_only_its_cells schema capacity db unit hands x in_hand ready after.legal c (not_in_hand schema capacity cells c free);
      }

pub statements_are_local : (schema : Lists) (capacity : ℕ) → IsSound schema → StatementsAreLocal schema capacity
statements_are_local schema capacity sound db units u unit x guesses areas cells may agrees e = local_at schema capacity sound db units unit x u guesses areas cells may agrees e
