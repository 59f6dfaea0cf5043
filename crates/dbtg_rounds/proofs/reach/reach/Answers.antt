-- One state after another is widened.
use Rattle.std.proofs.Common.{◌∙◌, arith}
use Rattle.dbtg_rounds.proofs.Reached.{all_seen, reaching_more}
use Rattle.dbtg_rounds.proofs.reach.reach.Goals as goal

pub loop-place-init : goal.loop-place-init
loop-place-init c = record {
  reached = c.in_ok-reached.ensures.reached c.args.graph.now.edges c.args.within.now;
  counted = c.in_ok-reached.ensures.counted;
  long = c.in_ok-reached.ensures.long ∙ c.states.ensures;
  place_is_within = omega arith;
  widened = λ k i low. absurd (omega arith);
}

pub loop-place-preserved : goal.loop-place-preserved
loop-place-preserved c = reaching_more _ _ c.args.start c.args.graph.now.states c.loop-place.place c.loop-place.reached c.widen.new.self (omega (arith, c.loop-place-test.true, c.len.ensures)) c.loop-place.invariant c.in_ok-widen.ensures.grows c.in_ok-widen.ensures.widened

pub returns-clause-all : goal.returns-clause-all
returns-clause-all c = all_seen c.args.graph.now.edges c.args.within.now c.args.start c.args.graph.now.states c.loop-place.place c.loop-place.reached c.loop-place.invariant (omega (arith, c.loop-place-test.false, c.len.ensures))
