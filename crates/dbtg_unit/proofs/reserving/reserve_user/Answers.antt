use Rattle.std.proofs.Common.{sym, ap, ◌∙◌}
use Rattle.std.proofs.lemmas.Result.{on_ok_weaker}
use Rattle.dbtg_unit.specs.Hands.Lends.{holding}
use Rattle.dbtg_unit.specs.Hands.Reserving.{CanTakeUser}
use Rattle.dbtg_unit.proofs.Hands.Holding.RoomMade.{keeps_others, of_written, room_kept, shows_the_same, with_cell_again}
use Rattle.dbtg_unit.proofs.reserving.reserve_user.Goals as goal

pub returns-in-Some-clause-same : goal.returns-in-Some-clause-same
returns-in-Some-clause-same c = shows_the_same c.args.name.now c.in-Some.cell.now c.make_room_for_user.new.cell c.args.held.now c.in-Some.ensures.value c.make_room_for_user.ensures.same

pub returns-in-Some-clause-others : goal.returns-in-Some-clause-others
returns-in-Some-clause-others c = keeps_others c.args.name.now c.make_room_for_user.new.cell c.args.held.now.cells

pub returns-in-Some-clause-room : goal.returns-in-Some-clause-room
returns-in-Some-clause-room c = on_ok_weaker c.make_room_for_user.result (of_written CanTakeUser c.args.name.now c.make_room_for_user.new.cell c.args.held.now.cells) c.make_room_for_user.ensures.room

pub returns-in-Some-clause-had_room : goal.returns-in-Some-clause-had_room
returns-in-Some-clause-had_room c = λ had.
    let same = c.make_room_for_user.ensures.had_room (had c.in-Some.cell.now (sym c.in-Some.ensures.value)) in
    (same.0, ap (holding c.args.name.now c.args.held.now) same.1 ∙ ap (λ cells. record c.args.held.now { cells = cells }) (with_cell_again c.args.name.now c.in-Some.cell.now c.args.held.now.cells c.in-Some.ensures.value))

pub returns-in-Some-clause-earlier : goal.returns-in-Some-clause-earlier
returns-in-Some-clause-earlier c = room_kept c.args.name.now c.in-Some.cell.now c.make_room_for_user.new.cell c.args.held.now.cells c.in-Some.ensures.value c.make_room_for_user.ensures.earlier
