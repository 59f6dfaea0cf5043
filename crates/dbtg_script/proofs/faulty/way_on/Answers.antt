use Rattle.std.proofs.Common.{◌∙◌, sym}
use Rattle.dbtg_script.specs.Inside.Automaton.{rest_of, view_start}
use Rattle.dbtg_script.specs.Tokens.{view}
use Rattle.dbtg_script.proofs.Reading.FaultySteps.{faulty_here, faulty_other}
use Rattle.dbtg_script.proofs.faulty.way_on.Goals as goal

pub returns-in-Some-said : goal.returns-in-Some-said
returns-in-Some-said c = λ left.
    faulty_here c.args.words.now.schema c.args.words.now.words (rest_of c.args.state) (view c.args.token) left (view_start c.in-Some.start) c.in-Some-said.field-0 (sym c.in-Some.ensures) (sym c.in-Some-said.ensures)
    ∙ sym c.about.ensures

pub returns-in-None : goal.returns-in-None
returns-in-None c = λ left. faulty_other c.args.words.now.schema c.args.words.now.words (rest_of c.args.state) (view c.args.token) left (sym c.in-None.ensures)
