-- Each link leads to an earlier place, and at the first place all turns are found.
use Rattle.std.proofs.Common.{◌≡◌, arith}
use Rattle.dbtg_rounds.proofs.Reached.{all_back, is_before, none_back, one_back}
use Rattle.dbtg_rounds.proofs.reach.Reached.units_to.Goals as goal

pub loop-at-init : goal.loop-at-init
loop-at-init c = record {
  at_is_within = c.requires.place;
  leads = λ es marks start h. none_back es marks start c.args.self.now h c.args.place c.new-units.result.items c.new-units.ensures.items;
}

pub loop-at-smaller : goal.loop-at-smaller
loop-at-smaller c = is_before _ _ _ c.args.self.now c.requires.reached.3 c.loop-at.at c.index-link.result.now c.loop-at-test.true c.loop-at.invariant.at_is_within c.index-link.ensures

pub loop-at-preserved : goal.loop-at-preserved
loop-at-preserved c =
    let less = is_before _ _ _ c.args.self.now c.requires.reached.3 c.loop-at.at c.index-link.result.now c.loop-at-test.true c.loop-at.invariant.at_is_within c.index-link.ensures in
    record {
      at_is_within = omega (arith, less, c.loop-at.invariant.at_is_within);
      leads = λ es marks start h. one_back es marks start c.args.self.now h c.loop-at.at c.args.place c.index-link.result.now c.loop-at.units.items c.push.new.self.items c.loop-at-test.true c.loop-at.invariant.at_is_within c.index-link.ensures c.in_ok-push.ensures.items (c.loop-at.invariant.leads es marks start h);
    }

pub returns : goal.returns
returns c = λ es marks start h.
    let first : c.loop-at.at ≡ 0 = omega (arith, c.loop-at-test.false) in
    all_back es marks start c.args.self.now h c.loop-at.at c.args.place c.loop-at.units.items c.reverse.new.self.items first c.reverse.ensures.items (c.loop-at.invariant.leads es marks start h)
