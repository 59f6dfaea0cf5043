use Rattle.std.proofs.Common.{◌∙◌, subst, sym}
use Rattle.dbtg_step.specs.Core.Turns.{AreGiven}
use Rattle.dbtg_replay.proofs.MovesOfTurns.{stands_for}
use Rattle.dbtg_replay.proofs.ordering.moves_of_turns.Goals as goal

pub returns-in-Some : goal.returns-in-Some
returns-in-Some c =
    let turned = c.in_ok-turned.ensures in
    let given = subst (AreGiven 18446744073709551615 turned.moves) (sym c.into_moves.ensures ∙ c.in-Some.is) turned.given_moves in
    stands_for c.args.schema.now c.args.capacity c.args.scripts c.args.turns.now turned.moves _ _ given.0 turned.run
