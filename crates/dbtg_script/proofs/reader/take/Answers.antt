use Rattle.std.proofs.Common.{sym}
use Rattle.dbtg_script.specs.Tokens.{view}
use Rattle.dbtg_script.specs.Inside.Automaton.{rest_of, view_start}
use Rattle.dbtg_script.proofs.Reading.Steps.{goes_on, stops_at, stops_other, labels_go_on}
use Rattle.dbtg_script.proofs.reader.take.Goals as goal

pub returns-in-Some-said-clause-reached : goal.returns-in-Some-said-clause-reached
returns-in-Some-said-clause-reached c = λ left. stops_at c.args.words.now.schema c.args.words.now.words (rest_of c.args.state) (view c.args.token) left (view_start c.in-Some.start) c.in-Some-said.cause (sym c.in-Some.ensures) (sym c.in-Some-said.ensures)

pub returns-in-None-clause-reached : goal.returns-in-None-clause-reached
returns-in-None-clause-reached c = λ left. rw c.at_other.ensures (stops_other c.args.words.now.schema c.args.words.now.words (rest_of c.args.state) (view c.args.token) left (sym c.in-None.ensures))

pub returns-in_ok-push-in-Some-clause-reached : goal.returns-in_ok-push-in-Some-clause-reached
returns-in_ok-push-in-Some-clause-reached c = λ left. rw c.in_ok-push-in-Some.ensures (goes_on c.args.words.now.schema c.args.words.now.words (rest_of c.args.state) (view c.args.token) left (view_start c.in-Some.start) (sym c.in-Some.ensures) (sym c.in_default.ensures))

pub returns-in_ok-push-in-Some-clause-labels : goal.returns-in_ok-push-in-Some-clause-labels
returns-in_ok-push-in-Some-clause-labels c = λ left. rw c.in_ok-push-in-Some.ensures (labels_go_on c.args.words.now.words (rest_of c.args.state) (view c.args.token) left (view_start c.in-Some.start) (sym c.in-Some.ensures))
