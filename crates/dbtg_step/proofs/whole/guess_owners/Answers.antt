use Rattle.std.proofs.Common.{◌∙◌, sym}
use Rattle.dbtg_step.proofs.MadeWhole.Wholes.{guessed_without}
use Rattle.dbtg_step.proofs.whole.guess_owners.Goals as goal

pub returns-clause-guessed : goal.returns-clause-guessed
returns-clause-guessed c =
    guessed_without c.args.schema.now c.args.capacity c.requires.sound c.args.unit.now c.args.statement.now c.args.held.now c.requires.all c.requires.fitting c.requires.of_schema c.requires.within
    (sym c.goes_by_guesses.ensures ∙ c.if-goes_by_guesses.false)
