use Rattle.std.proofs.Common.{◌≡◌, true, ◌++◌, [], ◌∷◌, List, subst, sym}
use Rattle.std.specs.List.{list_all}
use Rattle.dbtg_cells.specs.CellNumbers.{is_cell}
use Rattle.dbtg_unit.specs.declared.unit.Entry.{Entry}
use Rattle.dbtg_step.specs.Core.Whole.{Making}
use Rattle.dbtg_explore.specs.Inside.Parts.{IsNumberOf}
use Rattle.dbtg_explore.specs.Inside.Walks.{order_of}
use Rattle.dbtg_explore.proofs.Numbered.{all_but}
use Rattle.dbtg_explore.proofs.Walks.{history_before, turn_above}
use Rattle.dbtg_explore.proofs.meeting.Meeting.number_after.Goals as goal

pub put_all-requires-clause-place : goal.put_all-requires-clause-place
put_all-requires-clause-place c = c.in_ok-take_turn.ensures.stands.is_place

pub put_all-requires-clause-knows : goal.put_all-requires-clause-knows
put_all-requires-clause-knows c = c.in_ok-take_turn.ensures.stands.knows

pub put_all-requires-clause-cells : goal.put_all-requires-clause-cells
put_all-requires-clause-cells c = subst (λ (d : Making). list_all (is_cell d.schema d.capacity) c.changed-names.result.now ≡ true) c.in_ok-take_turn.ensures.stands.is_place.database_is c.changed-names.ensures.cells

pub put_all-requires-clause-but : goal.put_all-requires-clause-but
put_all-requires-clause-but c =
    let m = c.args.self.now in
    let old = c.args.walk.now in
    let new = c.take_turn.new.walk in
    let turned = c.in_ok-take_turn.ensures in
    let above = turn_above m (order_of old.turns.items ++ c.args.turn.unit ∷ []) c.args.turn.unit old new c.requires.stands turned.stands turned.turned in
    let history = history_before m c.args.turn.unit old.database.making new.database.making new.goings.items turned.turned in
    all_but m new.database.making new.goings.items c.changed-names.result.now c.args.numbers.now c.args.before turned.stands.is_place (c.changed-names.ensures.changed above)
    (subst (λ (es : List Entry). IsNumberOf m c.args.numbers.now es c.args.before) (sym history) c.requires.before)
