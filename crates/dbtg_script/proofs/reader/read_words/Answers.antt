use Rattle.std.proofs.Common.{rules, false}
use Rattle.std.proofs.lemmas.Result.{err_from_is_err_and}
use Rattle.dbtg_script.specs.Inside.Automaton.{rest_of}
use Rattle.dbtg_script.specs.Tokens.{tokens, view}
use Rattle.dbtg_script.proofs.Reading.Steps.{first_word, not_at_end}
use Rattle.dbtg_script.proofs.reader.read_words.Goals as goal

pub returns-in_err-state-clause-at_once : goal.returns-in_err-state-clause-at_once
returns-in_err-state-clause-at_once c = λ cause wrong.
    let p = err_from_is_err_and c.from_residual.result c.from_residual.ensures.1 in
    let told = c.in_err-state.ensures.faulty cause (first_word c.args.words.now.schema c.loop-token.words.schema c.loop-token.words.words (rest_of c.loop-token.state) (view c.in-Some.token) (tokens false c.args.line.now) (tokens false c.loop-token.left.rest.now) (tokens false c.next.new.self.rest.now) cause wrong c.loop-token.invariant.schema (c.loop-token.invariant.first cause wrong) c.in-Some.ensures.found) in
    rw (p.1, p.2) told

pub returns-in-Some-end_of-clause-at_once : goal.returns-in-Some-end_of-clause-at_once
returns-in-Some-end_of-clause-at_once c = λ cause wrong.
    absurd (not_at_end c.args.words.now.schema (tokens false c.args.line.now) (tokens false c.loop-token.left.rest.now) cause wrong (c.loop-token.invariant.first cause wrong).2 c.in_default.ensures.found)

pub returns-in-None-clause-at_once : goal.returns-in-None-clause-at_once
returns-in-None-clause-at_once c = λ cause wrong.
    not_at_end c.args.words.now.schema (tokens false c.args.line.now) (tokens false c.loop-token.left.rest.now) cause wrong (c.loop-token.invariant.first cause wrong).2 c.in_default.ensures.found

pub loop-token-preserved : goal.loop-token-preserved
loop-token-preserved c = record {
  schema = search rules;
  reached = search rules;
  labelled = search rules;
  first = λ cause wrong.
      absurd (c.in_ok-state.ensures.faulty cause (first_word c.args.words.now.schema c.loop-token.words.schema c.loop-token.words.words (rest_of c.loop-token.state) (view c.in-Some.token) (tokens false c.args.line.now) (tokens false c.loop-token.left.rest.now) (tokens false c.next.new.self.rest.now) cause wrong c.loop-token.invariant.schema (c.loop-token.invariant.first cause wrong) c.in-Some.ensures.found));
}
