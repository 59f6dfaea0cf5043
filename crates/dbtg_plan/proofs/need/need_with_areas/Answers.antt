use Rattle.std.proofs.Common.{sym, ◌∙◌}
use Rattle.dbtg_plan.proofs.Needs.WrongGuesses.{cell_needed, guesses_needed}
use Rattle.dbtg_plan.proofs.need.need_with_areas.Goals as goal

pub returns-in-Some : goal.returns-in-Some
returns-in-Some c db agrees =
    sym (cell_needed c.args.schema.now c.args.capacity db c.args.held.now c.args.unit.now c.args.statement.now c.requires.passed c.requires.areas
    c.in-Some.name (sym (c.next_cell.ensures db agrees) ∙ c.in-Some.is))

pub returns-in-None : goal.returns-in-None
returns-in-None c db agrees =
    c.need_of_guesses.ensures
    ∙ sym (guesses_needed c.args.schema.now c.args.capacity db c.args.held.now c.args.unit.now c.args.statement.now c.requires.passed c.requires.fits agrees c.requires.areas
    (sym (c.next_cell.ensures db agrees) ∙ c.in-None.is))
