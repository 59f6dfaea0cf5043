use Rattle.std.proofs.Common.{sym, ◌∙◌, arith}
use Rattle.std.proofs.lemmas.Bool.{ne_eqb}
use Rattle.dbtg_script.proofs.Reading.TokenSteps.{space_step, equals_step, literal_step, plain_step, none_left}
use Rattle.dbtg_script.proofs.token.Tokens.next.Goals as goal

pub loop-first-preserved : goal.loop-first-preserved
loop-first-preserved c = record {
  same = space_step c.loop-first.self.rest.now c.in-Some.after.now c.in-Some.first.now c.in-Some.ensures.cases.0 c.if-first-eq32.true ∙ c.loop-first.invariant.same;
  shorter = omega (arith, c.in-Some.ensures.cases.1);
}

pub returns-then-first-eq61-clause-found : goal.returns-then-first-eq61-clause-found
returns-then-first-eq61-clause-found c = sym c.loop-first.invariant.same ∙ equals_step c.loop-first.self.rest.now c.in-Some.after.now c.in-Some.first.now c.in-Some.ensures.cases.0 c.if-first-eq61.true

pub returns-then-first-eq34-clause-found : goal.returns-then-first-eq34-clause-found
returns-then-first-eq34-clause-found c =
    let r = c.literal_len.ensures in
    sym c.loop-first.invariant.same ∙ literal_step c.loop-first.self.rest.now c.in-Some.after.now c.in-Some.first.now c.literal_len.result c.split_at.result.0.now c.split_at.result.1.now c.behind_first-self.result.now c.in-Some.ensures.cases.0 c.if-first-eq34.true r.in_range r.inside r.stops c.split_at.ensures.front c.split_at.ensures.back c.behind_first-self.ensures

pub returns-else-first-eq34-clause-found : goal.returns-else-first-eq34-clause-found
returns-else-first-eq34-clause-found c =
    let r = c.run_len.ensures in
    sym c.loop-first.invariant.same ∙ plain_step c.loop-first.self.rest.now c.in-Some.after.now c.in-Some.first.now c.run_len.result c.split_at-else-first-eq34.result.0.now c.split_at-else-first-eq34.result.1.now c.in-Some.ensures.cases.0 (ne_eqb _ _ c.if-first-eq32.false) (ne_eqb _ _ c.if-first-eq61.false) (ne_eqb _ _ c.if-first-eq34.false) r.in_range r.letters r.stops c.split_at-else-first-eq34.ensures.front c.split_at-else-first-eq34.ensures.back

pub returns-clause-found : goal.returns-clause-found
returns-clause-found c = sym c.loop-first.invariant.same ∙ none_left c.loop-first.self.rest.now c.in_default.ensures.cases
