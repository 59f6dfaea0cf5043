-- What is held once room has been made in one held cell.
-- c and d are names of cells, x and y cells.
use Rattle.std.proofs.Common.{◌≡◌, refl, sym, ◌∙◌, ap, subst, false, [], ◌∷◌, Some, inl, inr}
use Rattle.std.proofs.lemmas.Bool.{cases_Bool}
use Rattle.dbtg_cells.specs.declared.cell.Cell.{Cell}
use Rattle.dbtg_cells.specs.declared.name.CellName.{CellName}
use Rattle.dbtg_cells.specs.Cells.{shown}
use Rattle.dbtg_cells.specs.Names.{name_eq}
use Rattle.dbtg_cells.proofs.Public.{same_name}
use Rattle.dbtg_unit.specs.Hands.Hands.{Hands, cell_of}
use Rattle.dbtg_unit.specs.Hands.Lends.{holding, with_cell}
use Rattle.dbtg_unit.specs.Hands.Making.{ShowsTheSame}
use Rattle.dbtg_unit.specs.Hands.Prepared.{values_of}
use Rattle.dbtg_unit.specs.Hands.Reserving.{CanTakeMember, CanTakeUser, KeepRoom, KeepsOthers, OfHeld}
use Rattle.dbtg_unit.specs.Inside.Reserving.{KeepsRoom}
use Rattle.dbtg_unit.proofs.Hands.Holding.WhileEditing.{Held, cell_of_further, cell_of_here, cell_of_other, with_cell_further, with_cell_here, written_over}

values_same : (c : CellName) (x y : Cell) (cells : Held) → cell_of c cells ≡ Some x → shown y ≡ shown x → values_of (with_cell c y cells) ≡ values_of cells
values_same c x y [] there same = refl
values_same c x y (e ∷ es) there same =
    elim (cases_Bool (name_eq c e.0)) [
      | inl here ↦
          let found = sym (cell_of_here c e es here) ∙ there in
          let is : e.1 ≡ x = cc in
          ap values_of (with_cell_here c y e es here) ∙ ap (λ v. (e.0, v) ∷ values_of es) (same ∙ ap shown (sym is))
      | inr other ↦
          ap values_of (with_cell_further c y e es other)
          ∙ ap (λ l. (e.0, shown e.1) ∷ l) (values_same c x y es (sym (cell_of_further c e es other) ∙ there) same)
    ]

-- a cell that shows what the one before it did
pub shows_the_same : (c : CellName) (x y : Cell) (hands : Hands) → Some x ≡ cell_of c hands.cells → shown y ≡ shown x → ShowsTheSame hands (holding c hands y)
shows_the_same c x y hands there same = record { areas = refl; cells = values_same c x y hands.cells (sym there) same; guesses = refl }

pub keeps_others : (c : CellName) (y : Cell) (cells : Held) → KeepsOthers c cells (with_cell c y cells)
keeps_others c y cells = λ d other. cell_of_other c d y cells other

pub of_written : (P : Cell → Type 0) (c : CellName) (y : Cell) (cells : Held) → P y → OfHeld c (with_cell c y cells) P
of_written P c y cells h = λ x there. subst P (sym (written_over c x y cells there).0) h

-- what holds of a cell still holds when another is written
pub of_held_kept : (P : Cell → Type 0) (c d : CellName) (old new : Held) → KeepsOthers d old new → name_eq c d ≡ false → OfHeld c old P → OfHeld c new P
of_held_kept P c d old new keeps other h = λ x there. h x (sym (keeps c other) ∙ there)

-- what holds of a cell holds of the one that is written in its place
of_held_written : (P : Cell → Type 0) (c d : CellName) (x y : Cell) (cells : Held) → Some x ≡ cell_of c cells → (P x → P y) → OfHeld d cells P → OfHeld d (with_cell c y cells) P
of_held_written P c d x y cells there kept h =
    elim (cases_Bool (name_eq d c)) [
      | inl same ↦
          let is : d ≡ c = same_name d c same in
          subst (λ n. OfHeld n (with_cell c y cells) P) (sym is) (of_written P c y cells (kept (h x (ap (λ n. cell_of n cells) is ∙ sym there))))
      | inr other ↦ of_held_kept P d c cells (with_cell c y cells) (keeps_others c y cells) other h
    ]

-- if a cell keeps its room, so do all held cells
pub room_kept : (c : CellName) (x y : Cell) (cells : Held) → Some x ≡ cell_of c cells → KeepsRoom x y → KeepRoom cells (with_cell c y cells)
room_kept c x y cells there keeps = record {
  members = λ d k. of_held_written (CanTakeMember k) c d x y cells there (keeps.members k);
  users = λ d. of_held_written CanTakeUser c d x y cells there keeps.users;
}

-- the cell that is there, written again
pub with_cell_again : (c : CellName) (x : Cell) (cells : Held) → Some x ≡ cell_of c cells → with_cell c x cells ≡ cells
with_cell_again c x [] there = refl
with_cell_again c x (e ∷ es) there =
    elim (cases_Bool (name_eq c e.0)) [
      | inl here ↦
          let found = there ∙ cell_of_here c e es here in
          let is : x ≡ e.1 = cc in
          with_cell_here c x e es here ∙ ap (λ v. (e.0, v) ∷ es) is
      | inr other ↦ with_cell_further c x e es other ∙ ap (λ l. e ∷ l) (with_cell_again c x es (there ∙ cell_of_further c e es other))
    ]
