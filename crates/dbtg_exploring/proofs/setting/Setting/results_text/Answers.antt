use Rattle.std.proofs.Common.{◌≡◌, ◌+◌, List, ℕ, ap, arith, subst}
use Rattle.dbtg_states.specs.Brief.{none_before}
use Rattle.dbtg_exploring.specs.Inside.Shown.{IsShown}
use Rattle.dbtg_exploring.proofs.Results.{next_result}
use Rattle.dbtg_exploring.proofs.setting.Setting.results_text.Goals as goal

pub loop-order-preserved : goal.loop-order-preserved
loop-order-preserved c =
    let i = c.loop-order.order-index in
    let self = c.args.self.now in
    let next : c.loop-order.number + 1 ≡ i + 1 = ap (λ n. n + 1) c.loop-order.invariant.number in
    let is = subst (λ (o : List ℕ). IsShown self.schema.now self.programs.now self.told.now self.asked (c.loop-order.number + 1) o c.loop-order.out.items c.push_result.new.out.items c.loop-order.before c.push_result.new.before) c.as_slice.ensures c.in_ok-push_result.ensures in
    record {
      number = next;
      texts = next_result self.schema.now self.programs.now self.told.now self.asked c.args.results.now i c.order-item.result c.loop-order.out.items _ (none_before self.asked.brief) c.loop-order.before _ (c.loop-order.number + 1) (omega (arith, c.loop-order-test.true)) c.order-item.is next c.loop-order.invariant.texts is;
    }
