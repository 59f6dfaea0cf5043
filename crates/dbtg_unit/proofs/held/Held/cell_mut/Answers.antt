use Rattle.std.proofs.Common.{◌≡◌, ◌∙◌, sym, ap, Some, None}
use Rattle.std.specs.Prelude.{slice_get, slice_set}
use Rattle.std.specs.List.{position_from, zip}
use Rattle.std.specs.Option.{option_copied_mut, ghost_name_of}
use borrow.Follows.Closed.{read_of}
use mathlib.Core.Logic.{inr}
use Rattle.dbtg_cells.specs.declared.cell.Cell.{Cell}
use Rattle.dbtg_cells.specs.Names.{name_eq}
use Rattle.dbtg_unit.specs.Hands.Hands.{cell_of}
use Rattle.dbtg_unit.specs.Hands.Lends.{with_cell}
use Rattle.dbtg_unit.proofs.Hands.Holding.NamesAndCells.{found_cell, written_cell, no_cell}
use Rattle.dbtg_unit.proofs.Lists.LentElement.{lent_item}
use Rattle.dbtg_unit.proofs.held.Held.cell_mut.Goals as goal

pub returns-in-Some : goal.returns-in-Some
returns-in-Some c =
    let name = c.args.name.now in
    let names = c.self.inside.names.items in
    let cells = c.self.inside.cells.items in
    let view = c.self.view_is in
    let found : position_from (name_eq name) 0 names ≡ Some c.in-Some.at = sym (ap (position_from (name_eq name) 0) c.as_slice.ensures) ∙ sym c.find_place.ensures ∙ c.in-Some.is in
    let written : (w : Cell) → zip names (slice_set cells c.in-Some.at w) ≡ with_cell name w c.args.self.now.cells =
    λ w. written_cell name names cells c.in-Some.at found w ∙ ap (λ h. with_cell name w h.cells) view in
    let lent : option_copied_mut c.get_mut.result ≡ slice_get cells c.in-Some.at =
    lent_item c.get_mut.result cells c.in-Some.at c.get_mut.ensures.variant.0 c.get_mut.ensures.variant.1 c.get_mut.ensures.value in (
      λ i. read_of (ghost_name_of c.get_mut.result) (λ w. record { areas = (view i).areas; cells = written w i; guesses = (view i).guesses }) (view i),
      record {
        writes_back = tt;
        value = lent ∙ sym (found_cell name names cells c.in-Some.at found) ∙ ap (λ h. cell_of name h.cells) view;
      },
    )

pub returns-in-None : goal.returns-in-None
returns-in-None c =
    let name = c.args.name.now in
    let names = c.self.inside.names.items in
    let absent : position_from (name_eq name) 0 names ≡ None = sym (ap (position_from (name_eq name) 0) c.as_slice.ensures) ∙ sym c.find_place.ensures ∙ c.in-None.is in (
      ap inr c.self.view_is,
      record {
        writes_back = tt;
        value = sym (no_cell name names c.self.inside.cells.items absent) ∙ ap (λ h. cell_of name h.cells) c.self.view_is;
      },
    )
