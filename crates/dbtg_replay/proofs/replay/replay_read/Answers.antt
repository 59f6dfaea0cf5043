use Rattle.std.proofs.Common.{◌≡◌, ◌++◌, sym, ap, ◌∙◌, subst}
use Rattle.dbtg_replay.specs.Ordering.{AreFirstMoves, first_turns}
use Rattle.dbtg_command.specs.declared.order.OrderKind.TheVariants as kind
use Rattle.dbtg_replay.proofs.ReplaysRead.{replays_moves, replays_serially, replays_turns}
use Rattle.dbtg_replay.proofs.replay.replay_read.Goals as goal

pub returns-in_ok-in_turn_text-in-Serial-clause-done : goal.returns-in_ok-in_turn_text-in-Serial-clause-done
returns-in_ok-in_turn_text-in-Serial-clause-done g c =
    let which : g.S.Source.order c.args.source.now ≡ kind.Serial = sym c.order.ensures ∙ c.in-Serial.is in
    let read = c.requires.scripts in
    let shown = c.as_slice.ensures ∙ read.2 in
    rw which (replays_serially _ c.args.known.now _ c.args.capacity _ c.requires.counted c.requires.read read.0 _ read.1 c.args.first c.args.form _ shown c.in_ok-in_turn_text-in-Serial.ensures)

pub returns-in_ok-moved_text-in-Moves-clause-done : goal.returns-in_ok-moved_text-in-Moves-clause-done
returns-in_ok-moved_text-in-Moves-clause-done g c =
    let which : g.S.Source.order c.args.source.now ≡ kind.Moves = sym c.order.ensures ∙ c.in-Moves.is in
    let read = c.requires.scripts in
    let shown = c.as_slice.ensures ∙ read.2 in
    let all = c.in_ok-all-in-Moves.ensures in
    let are_first = subst (λ ss. AreFirstMoves c.args.first c.args.known.now c.args.capacity ss all.0) c.as_slice-statements.ensures all.1 in
    rw which (replays_moves _ c.args.known.now _ c.args.capacity _ c.requires.counted c.requires.read read.0 _ read.1 c.args.first c.args.form _ shown _ all.0 _ _ c.in_ok-moves-in-Moves.ensures.read are_first all.2 all.3 c.in_ok-moved_text-in-Moves.ensures)

pub returns-in_ok-turned_text-in-Turns-clause-done : goal.returns-in_ok-turned_text-in-Turns-clause-done
returns-in_ok-turned_text-in-Turns-clause-done g c =
    let which : g.S.Source.order c.args.source.now ≡ kind.Turns = sym c.order.ensures ∙ c.in-Turns.is in
    let read = c.requires.scripts in
    let shown = c.as_slice.ensures ∙ read.2 in
    let turns = c.as_slice-in-Turns-2.ensures.value ∙ c.in_ok-turns-in-Turns.ensures ∙ ap (λ ss. first_turns c.args.first ss ++ c.as_slice-in-Turns.result.now) c.as_slice-statements.ensures in
    rw which (replays_turns _ c.args.known.now _ c.args.capacity _ c.requires.counted c.requires.read read.0 _ read.1 c.args.first c.args.form _ shown _ _ _ c.in_ok-given-in-Turns.ensures.read c.as_slice-in-Turns.ensures turns c.in_ok-turned_text-in-Turns.ensures)
