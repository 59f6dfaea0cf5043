use Rattle.std.proofs.Common.{◌-◌, ◌<◌, ap, sym, subst, ◌∙◌, arith, length}
use Rattle.dbtg_step.specs.Core.Reversible.{made_first}
use Rattle.dbtg_step.specs.Core.Whole.{Making}
use Rattle.dbtg_step.specs.Inside.Reversible.{HasWaysBack}
use Rattle.dbtg_step.proofs.MadeWhole.Reversals.{last_way, same_first, same_stays, ways_before}
use Rattle.dbtg_step.proofs.reversible.take_back_each.Goals as goal

pub take_back-requires : goal.take_back-requires
take_back-requires c = last_way c.loop-ways.database c.pop.new.self.items c.in-Some.way (subst (HasWaysBack c.loop-ways.database) c.in-Some.ensures.items c.loop-ways.invariant.back)

pub loop-ways-preserved : goal.loop-ways-preserved
loop-ways-preserved c =
    let old = c.loop-ways.database in
    let ways = c.pop.new.self.items in
    let has = subst (HasWaysBack old) c.in-Some.ensures.items c.loop-ways.invariant.back in
    let test = c.loop-ways-test.true in
    let same = ap length c.history.ensures.history in
    let above : c.args.count < length old.history = omega (arith, test, same) in
    record {
      first = ap (made_first c.args.count) c.take_back.ensures ∙ same_first old ways c.in-Some.way has c.args.count above ∙ c.loop-ways.invariant.first;
      back = subst (λ (m : Making). HasWaysBack m ways) (sym c.take_back.ensures) (ways_before old ways c.in-Some.way has);
      stays =
          ap (λ (m : Making). length m.history - length ways) c.take_back.ensures ∙ same_stays old ways c.in-Some.way has ∙ ap (λ ws. length old.history - length ws) (sym c.in-Some.ensures.items)
          ∙ c.loop-ways.invariant.stays;
    }
