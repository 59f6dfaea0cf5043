use Rattle.std.proofs.Common.{ap, ◌∙◌, inr, nat_le}
use Rattle.std.specs.List.{list_all}
use Rattle.std.proofs.lemmas.Result.{IfErr-weaker, IfOk-weaker}
use Rattle.dbtg_script.specs.Moves.{words}
use Rattle.dbtg_replay.specs.ByTurns.{AreMoreMoves, AreMovesOf, MovesHeld, ToldOfTurns}
use Rattle.dbtg_replay.proofs.MovesOfTurns.{more_told, moves_held}
use Rattle.dbtg_replay.proofs.UnitsOfTurns.{turns_small}
use Rattle.dbtg_replay.proofs.turns.turns_known.Goals as goal

pub moves_of-requires-clause-small : goal.moves_of-requires-clause-small
moves_of-requires-clause-small g c =
    let read = c.in_ok-turns.ensures.read in
    ap (list_all (λ u. nat_le u 99)) (c.as_slice.ensures ∙ read.says) ∙ turns_small (words read.text)

pub returns-clause-done : goal.returns-clause-done
returns-clause-done g c =
    let holds = g.S.Source.holds c.args.source.now in
    let count = g.S.Source.count c.args.source.now in
    let read = c.in_ok-scripts.ensures.read in
    IfOk-weaker c.moves_of.result (λ out. AreMovesOf c.args.known.now c.args.capacity c.in_ok-scripts.scripts c.as_slice.result.now out.items) (λ out. MovesHeld holds count c.args.capacity out.items)
    (λ out moves. moves_held holds c.args.known.now count c.args.capacity c.requires.counted c.requires.read read.0 _ read.1 _ _ c.in_ok-turns.ensures.read c.as_slice.ensures out.items moves) c.moves_of.ensures.done

pub returns-clause-refused : goal.returns-clause-refused
returns-clause-refused g c =
    let holds = g.S.Source.holds c.args.source.now in
    let count = g.S.Source.count c.args.source.now in
    let read = c.in_ok-scripts.ensures.read in
    IfErr-weaker c.moves_of.result (λ fault. AreMoreMoves c.args.known.now c.args.capacity c.in_ok-scripts.scripts c.as_slice.result.now fault) (λ fault. ToldOfTurns holds (g.S.Source.fails c.args.source.now) fault count c.args.capacity)
    (λ fault more. inr (more_told holds c.args.known.now count c.args.capacity c.requires.counted c.requires.read read.0 _ read.1 _ _ c.in_ok-turns.ensures.read c.as_slice.ensures fault more)) c.moves_of.ensures.refused
