use Rattle.std.proofs.Common.{sym}
use Rattle.std.proofs.lemmas.List.{map_push}
use Rattle.dbtg_schema.specs.Inside.Words.{view}
use Rattle.dbtg_schema.specs.Inside.Automaton.{rest_of, view_start}
use Rattle.dbtg_schema.specs.Inside.Views.{views}
use Rattle.dbtg_schema.proofs.Forms.Steps.{goes_on, stops_at, stops_other, labels_go_on}
use Rattle.dbtg_schema.proofs.reader.take.Goals as goal

pub returns-in-Some-at_word-clause-reached : goal.returns-in-Some-at_word-clause-reached
returns-in-Some-at_word-clause-reached c = λ end left. rw c.of-in-Some-at_word.ensures (stops_at end (views c.args.words.now.items) (rest_of c.args.state) (view c.args.word) left (view_start c.in-Some.start) c.in-Some-at_word.fault (sym c.in-Some.ensures) (rw (← c.deref-in-Some.ensures.value) (sym c.in-Some-at_word.ensures)))

pub returns-in-None-clause-reached : goal.returns-in-None-clause-reached
returns-in-None-clause-reached c = λ end left. rw c.of.ensures (stops_other end (views c.args.words.now.items) (rest_of c.args.state) (view c.args.word) left c.at_other.result (sym c.in-None.ensures) (rw (← c.deref.ensures.value) c.at_other.ensures))

pub returns-in_ok-push-in-Some-clause-reached : goal.returns-in_ok-push-in-Some-clause-reached
returns-in_ok-push-in-Some-clause-reached c = λ end left. rw (c.in_ok-push-in-Some.ensures.items, map_push) (goes_on end (views c.args.words.now.items) (rest_of c.args.state) (view c.args.word) left (view_start c.in-Some.start) (sym c.in-Some.ensures) (rw (← c.deref-in-Some.ensures.value) (sym c.in_default.ensures)))

pub returns-in_ok-push-in-Some-clause-labels : goal.returns-in_ok-push-in-Some-clause-labels
returns-in_ok-push-in-Some-clause-labels c = λ left. rw (c.in_ok-push-in-Some.ensures.items, map_push) (labels_go_on (views c.args.words.now.items) (rest_of c.args.state) (view c.args.word) left (view_start c.in-Some.start) (sym c.in-Some.ensures))
