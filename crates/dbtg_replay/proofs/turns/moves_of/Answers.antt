use Rattle.std.proofs.Common.{ap, ◌∙◌, subst, sym}
use Rattle.dbtg_script.specs.declared.limits.TheConstants.{MOST_MOVES}
use Rattle.dbtg_script.specs.Printing.WordTexts.{moves_words_text}
use Rattle.dbtg_step.specs.Core.Turns.{AreGiven}
use Rattle.dbtg_replay.proofs.MovesOfTurns.{moves_said}
use Rattle.dbtg_replay.proofs.turns.moves_of.Goals as goal

pub returns-in_ok-moves_words_text-in-Some-clause-done : goal.returns-in_ok-moves_words_text-in-Some-clause-done
returns-in_ok-moves_words_text-in-Some-clause-done c =
    let turned = c.in_ok-turned.ensures in
    let given = subst (AreGiven MOST_MOVES turned.moves) (sym c.into_moves.ensures ∙ c.in-Some.is) turned.given_moves in
    moves_said c.args.schema.now c.args.capacity c.args.scripts c.args.turns.now turned.moves _ _ turned.run c.requires.small given.1
    (c.in_ok-moves_words_text-in-Some.ensures ∙ ap moves_words_text (c.as_slice.ensures ∙ given.0))
