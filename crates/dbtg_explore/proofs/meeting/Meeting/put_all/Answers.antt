use Rattle.std.proofs.Common.{◌≡◌, ◌∙◌, true, ap, subst, sym}
use Rattle.std.specs.List.{list_all}
use Rattle.std.proofs.lemmas.Result.{IfOk-weaker}
use Rattle.dbtg_schema.specs.Sound.{IsSound}
use Rattle.dbtg_cells.specs.CellNumbers.{is_cell}
use Rattle.dbtg_step.specs.Core.Whole.{Making}
use Rattle.dbtg_states.proofs.States.Numbers.{grow_more}
use Rattle.dbtg_explore.specs.Inside.Parts.{unit_part}
use Rattle.dbtg_explore.specs.Orders.{Meeting}
use Rattle.dbtg_explore.proofs.Numbered.{spelled_but, spelled_state}
use Rattle.dbtg_explore.proofs.meeting.Meeting.put_all.Goals as goal

pub put_units-requires-clause-but : goal.put_units-requires-clause-but
put_units-requires-clause-but c = (c.args.names.now, c.requires.but)

pub put_cells-requires-clause-cells : goal.put_cells-requires-clause-cells
put_cells-requires-clause-cells c = subst (λ (d : Making). list_all (is_cell d.schema d.capacity) c.args.names.now ≡ true) (sym (c.database-database.ensures ∙ c.requires.place.database_is)) c.requires.cells

pub put_cells-requires-clause-sound : goal.put_cells-requires-clause-sound
put_cells-requires-clause-sound c = subst (λ (d : Making). IsSound d.schema) (sym (c.database-database.ensures ∙ c.requires.place.database_is)) c.requires.meeting.sound

pub put_cells-requires-clause-schema : goal.put_cells-requires-clause-schema
put_cells-requires-clause-schema c = ap (λ (d : Making). d.schema) (c.database-database.ensures ∙ c.requires.place.database_is) ∙ ap (λ (m : Meeting). m.schema) (sym c.self.view_is)

pub put_cells-requires-clause-but : goal.put_cells-requires-clause-but
put_cells-requires-clause-but c =
    let d = c.args.walk.now.database.making in
    (unit_part c.args.self.now d.history, spelled_but c.args.self.now d c.database-database.result.now c.args.walk.now.goings.items c.requires.place c.database-database.ensures c.units.result c.units.ensures c.put_units.new.numbers c.args.names.now c.in_ok-number.number (c.in_ok-number.ensures.number c.args.names.now c.requires.but))

pub returns-clause-keeps : goal.returns-clause-keeps
returns-clause-keeps c =
    IfOk-weaker c.put_cells.result _ _ (λ n grown. grow_more c.args.numbers.now c.put_units.new.numbers c.put_cells.new.self c.in_ok-number.ensures.keeps grown) c.put_cells.ensures.keeps

pub returns-clause-number : goal.returns-clause-number
returns-clause-number c =
    let m = c.args.self.now in
    let d = c.args.walk.now.database.making in
    let there = c.database-database.result.now in
    let goings = c.args.walk.now.goings.items in
    IfOk-weaker c.put_cells.result _ _
    (λ n is. spelled_state m d there goings c.requires.place c.database-database.ensures c.units.result c.units.ensures c.put_cells.new.self n
    (is (unit_part m d.history) (spelled_but m d there goings c.requires.place c.database-database.ensures c.units.result c.units.ensures c.put_units.new.numbers c.args.names.now c.in_ok-number.number (c.in_ok-number.ensures.number c.args.names.now c.requires.but))))
    c.put_cells.ensures.number
