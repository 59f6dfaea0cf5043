use Rattle.std.proofs.Common.{◌++◌, ◌∙◌, List, ℕ, [], ap, sym, get_or, reverse, append-nil, arith}
use Rattle.dbtg_explore.proofs.Links.{gone_back}
use Rattle.dbtg_explore.proofs.orders.Orders.order.Goals as goal

pub loop-link-init : goal.loop-link-init
loop-link-init c =
    let os = c.args.self.now in
    record {
      within = c.requires;
      gone = ap (λ (turns : List ℕ). get_or os c.args.place [] ++ reverse turns) c.new-turns.ensures.items ∙ append-nil (get_or os c.args.place []);
    }

pub loop-link-preserved : goal.loop-link-preserved
loop-link-preserved c =
    let last = c.in-Some.ensures.last in
    record {
      within = omega (arith, last.earlier, c.loop-link.invariant.within);
      gone = gone_back c.args.self.now c.loop-link.at c.in-Some.link c.loop-link.turns.items c.push.new.self.items _ last c.in_ok-push.ensures.items c.loop-link.invariant.gone;
    }

pub returns : goal.returns
returns c =
    c.reverse.ensures.items ∙ ap (λ (o : List ℕ). o ++ reverse c.loop-link.turns.items) (sym (c.last.ensures.none c.in_default.is)) ∙ c.loop-link.invariant.gone
