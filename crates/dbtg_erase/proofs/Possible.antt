-- When edits in turn can be made, by what the cells show.
-- c is the name of a cell, e an edit of a cell, V what each cell shows.
use Rattle.std.proofs.Common.{◌≡◌, sym, ◌∙◌, ap, cond, List, [], ◌∷◌, ◌++◌, Some, inl, inr, map}
use Rattle.std.specs.Prelude.{⊤}
use Rattle.std.specs.List.{flat_map}
use Rattle.std.proofs.lemmas.Bool.{cases_Bool}
use Rattle.dbtg_cells.specs.declared.cell.Cell.{Cell}
use Rattle.dbtg_cells.specs.declared.name.CellName.{CellName}
use Rattle.dbtg_cells.specs.Cells.{shown}
use Rattle.dbtg_cells.specs.Names.{name_eq}
use Rattle.dbtg_cells.specs.Shown.{CellValue}
use Rattle.dbtg_cells.proofs.Public.{same_name}
use Rattle.dbtg_unit.specs.declared.edit.CellEdit.{CellEdit}
use Rattle.dbtg_unit.specs.declared.edit.Edit.{Edit}
use Rattle.dbtg_unit.specs.Hands.CanEdit.{CanEdit}
use Rattle.dbtg_unit.specs.Hands.Edits.{edited, edited_at}
use Rattle.dbtg_unit.specs.Hands.Hands.{cell_of}
use Rattle.dbtg_unit.specs.Hands.Lends.{with_cell}
use Rattle.dbtg_unit.specs.Hands.Making.{CanMake, ShowsEdited}
use Rattle.dbtg_unit.proofs.Public.{Held, cell_of_other, written_over}

-- the edit can be made of each cell that shows this
abbrev pub CanEditShown : Edit → CellValue → Type 0
CanEditShown edit v = (x : Cell) → shown x ≡ v → CanEdit edit x

-- what the cells show after an edit
abbrev pub after : CellEdit → (CellName → CellValue) → CellName → CellValue
after e V c = cond (name_eq c e.name) (edited e.edit (V c)) (V c)

-- each edit in turn can be made of cells that show what those before it made
abbrev pub Possible : List CellEdit → (CellName → CellValue) → Type 0
Possible [] V = ⊤
Possible (e ∷ es) V = CanEditShown e.edit (V e.name) × Possible es (after e V)

-- the held cells show this
abbrev pub Show : (CellName → CellValue) → Held → Type 0
Show V cells = (c : CellName) (x : Cell) → cell_of c cells ≡ Some x → shown x ≡ V c

pub possible_can_make : (es : List CellEdit) (V : CellName → CellValue) (cells : Held) → Show V cells → Possible es V → CanMake es cells
possible_can_make [] V cells shows possible = tt
possible_can_make (e ∷ es) V cells shows possible =
    (λ x there. possible.0 x (shows e.name x there), λ y made. possible_can_make es (after e V) (with_cell e.name y cells) (shows_after y made) possible.1) where
      shows_after : (y : Cell) → ShowsEdited e cells y → Show (after e V) (with_cell e.name y cells)
      shows_after y made c x there =
          elim (cases_Bool (name_eq c e.name)) [
            | inl same ↦
                let is : c ≡ e.name = same_name c e.name same in
                let over = written_over e.name x y cells (ap (λ d. cell_of d (with_cell e.name y cells)) (sym is) ∙ there) in
                ap shown over.0 ∙ made over.1.0 over.1.1 ∙ ap (edited e.edit) (shows e.name over.1.0 over.1.1)
                ∙ ap (λ d. edited e.edit (V d)) (sym is)
                ∙ ap (λ b. cond b (edited e.edit (V c)) (V c)) (sym same)
            | inr other ↦
                shows c x (sym (cell_of_other e.name c y cells other) ∙ there) ∙ ap (λ b. cond b (edited e.edit (V c)) (V c)) (sym other)
          ]

-- edits, and then others
pub possible_append : (xs ys : List CellEdit) (V : CellName → CellValue) → Possible xs V → Possible ys (λ c. edited_at c xs (V c)) → Possible (xs ++ ys) V
possible_append [] ys V p q = q
possible_append (x ∷ xs) ys V p q = (p.0, possible_append xs ys (after x V) p.1 q)

-- edits that can be made of any cell
pub possible_map : {X : Type 0} (f : X → CellEdit) (xs : List X) (V : CellName → CellValue) → ((x : X) (y : Cell) → CanEdit (f x).edit y) → Possible (map f xs) V
possible_map f [] V h = tt
possible_map f (x ∷ xs) V h = (λ y shows. h x y, possible_map f xs (after (f x) V) h)

pub possible_flat : {X : Type 0} (f : X → List CellEdit) (xs : List X) (V : CellName → CellValue) → ((x : X) (W : CellName → CellValue) → Possible (f x) W) → Possible (flat_map f xs) V
possible_flat f [] V h = tt
possible_flat f (x ∷ xs) V h = possible_append (f x) (flat_map f xs) V (h x V) (possible_flat f xs (λ c. edited_at c (f x) (V c)) h)
