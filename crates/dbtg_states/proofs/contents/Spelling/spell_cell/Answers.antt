use Rattle.dbtg_states.proofs.States.Spelled.{legal_making}
use Rattle.dbtg_states.proofs.contents.Spelling.spell_cell.Goals as goal

pub spell_shown-requires-clause-legal : goal.spell_shown-requires-clause-legal
spell_shown-requires-clause-legal c = (legal_making c.args.database.now c.requires.sound c.history-history.ensures.of).legal
