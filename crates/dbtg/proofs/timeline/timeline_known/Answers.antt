use Rattle.std.proofs.Common.{◌≡◌, sym, ap, ◌∙◌, subst}
use Rattle.dbtg_replay.specs.Ordering.{AreFirstMoves, serial_turns}
use Rattle.dbtg_command.specs.declared.order.OrderKind.TheVariants as kind
use Rattle.dbtg.proofs.Pictures.{pictures_moves, pictures_serially, pictures_turns}
use Rattle.dbtg.proofs.timeline.timeline_known.Goals as goal

pub returns-in_ok-picture_of_turns-in-Serial-clause-done : goal.returns-in_ok-picture_of_turns-in-Serial-clause-done
returns-in_ok-picture_of_turns-in-Serial-clause-done g c =
    let which : g.S.Source.order c.args.source.now ≡ kind.Serial = sym c.order.ensures ∙ c.in-Serial.is in
    let read = c.in_ok-scripts.ensures.read in
    let serial = c.as_slice-given.ensures.value ∙ c.in_ok-serial-in-Serial.ensures ∙ ap (serial_turns 1) c.as_slice-statements.ensures in
    rw which (pictures_serially _ c.args.known.now _ c.args.capacity c.args.first c.args.form.now _ c.requires.counted c.requires.read read.0 _ read.1 _ read.2 _ serial c.in_ok-picture_of_turns-in-Serial.ensures)

pub returns-in_ok-picture_of_moves-in-Moves-clause-done : goal.returns-in_ok-picture_of_moves-in-Moves-clause-done
returns-in_ok-picture_of_moves-in-Moves-clause-done g c =
    let which : g.S.Source.order c.args.source.now ≡ kind.Moves = sym c.order.ensures ∙ c.in-Moves.is in
    let read = c.in_ok-scripts.ensures.read in
    let all = c.in_ok-all-in-Moves.ensures in
    let are_first = subst (λ ss. AreFirstMoves c.args.first c.args.known.now c.args.capacity ss all.0) c.as_slice-statements.ensures all.1 in
    rw which (pictures_moves _ c.args.known.now _ c.args.capacity c.args.first c.args.form.now _ c.requires.counted c.requires.read read.0 _ read.1 _ read.2 _ all.0 _ _ c.in_ok-moves-in-Moves.ensures.read are_first (c.as_slice.ensures.value ∙ all.2) all.3 c.in_ok-picture_of_moves-in-Moves.ensures)

pub returns-in_ok-picture_of_turns-in-Turns-clause-done : goal.returns-in_ok-picture_of_turns-in-Turns-clause-done
returns-in_ok-picture_of_turns-in-Turns-clause-done g c =
    let which : g.S.Source.order c.args.source.now ≡ kind.Turns = sym c.order.ensures ∙ c.in-Turns.is in
    let read = c.in_ok-scripts.ensures.read in
    rw which (pictures_turns _ c.args.known.now _ c.args.capacity c.args.first c.args.form.now _ c.requires.counted c.requires.read read.0 _ read.1 _ read.2 _ _ c.in_ok-read-in-Turns.ensures.read c.as_slice-given-in-Turns.ensures c.in_ok-picture_of_turns-in-Turns.ensures)
