use Rattle.std.proofs.Common.{sym, ◌∙◌, arith}
use Rattle.dbtg_script.proofs.Reading.MoveSteps.{gap_step, word_step, none_left}
use Rattle.dbtg_script.proofs.moves.Words.next.Goals as goal

pub loop-first-preserved : goal.loop-first-preserved
loop-first-preserved c = record {
  same = gap_step c.loop-first.self.rest.now c.in-Some.after.now c.in-Some.first.now c.in-Some.ensures.cases.0 (sym c.is_gap.ensures ∙ c.if-is_gap.true) ∙ c.loop-first.invariant.same;
  shorter = omega (arith, c.in-Some.ensures.cases.1);
}

pub returns-else-is_gap-clause-found : goal.returns-else-is_gap-clause-found
returns-else-is_gap-clause-found c =
    let r = c.run_len.ensures in
    sym c.loop-first.invariant.same ∙ word_step c.loop-first.self.rest.now c.in-Some.after.now c.in-Some.first.now c.run_len.result c.split_at.result.0.now c.split_at.result.1.now c.in-Some.ensures.cases.0 (sym c.is_gap.ensures ∙ c.if-is_gap.false) r.in_range r.inside r.stops c.split_at.ensures.front c.split_at.ensures.back

pub returns-clause-found : goal.returns-clause-found
returns-clause-found c = sym c.loop-first.invariant.same ∙ none_left c.loop-first.self.rest.now c.in_default.ensures.cases
