use Rattle.std.proofs.Common.{◌≡◌, ◌∙◌, true, List, ap, subst, sym}
use Rattle.std.specs.List.{list_all}
use Rattle.dbtg_cells.specs.CellNumbers.{cells_in_order, is_cell}
use Rattle.dbtg_cells.specs.declared.name.CellName.{CellName}
use Rattle.dbtg_step.specs.Core.Whole.{Making}
use Rattle.dbtg_states.specs.Numbers.{IsNumberBut}
use Rattle.dbtg_states.proofs.States.Numbers.{all_are_cells, nothing_said}
use Rattle.dbtg_explore.specs.Inside.Parts.{parts_of}
use Rattle.dbtg_explore.proofs.meeting.Meeting.first_number.Goals as goal

pub put_all-requires-clause-cells : goal.put_all-requires-clause-cells
put_all-requires-clause-cells c =
    let m = c.args.self.now in
    let names = c.as_slice.ensures.value ∙ c.in_ok-names.ensures ∙ ap (λ (d : Making). cells_in_order d.schema d.capacity) (c.database.ensures ∙ c.requires.place.database_is) in
    subst (λ (ns : List CellName). list_all (is_cell m.schema m.capacity) ns ≡ true) (sym names) (all_are_cells m.schema m.capacity)

pub put_all-requires-clause-but : goal.put_all-requires-clause-but
put_all-requires-clause-but c =
    let m = c.args.self.now in
    let parts = parts_of m c.args.walk.now.database.making.history in
    let names = c.as_slice.ensures.value ∙ c.in_ok-names.ensures ∙ ap (λ (d : Making). cells_in_order d.schema d.capacity) (c.database.ensures ∙ c.requires.place.database_is) in
    subst (λ (ns : List CellName). IsNumberBut parts c.args.numbers.now 0 ns 0) (sym names) (nothing_said parts c.args.numbers.now c.requires.kept c.requires.room)
