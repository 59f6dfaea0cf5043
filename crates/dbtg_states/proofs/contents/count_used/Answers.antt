use Rattle.std.proofs.Common.{◌≡◌, ◌∙◌, ◌-◌, ap, arith, sym, suc}
use Rattle.std.proofs.lemmas.List.{take_all}
use Rattle.dbtg_states.specs.Parts.{up_to_used}
use Rattle.dbtg_states.proofs.States.Spelled.{unused_dropped, used_kept}
use Rattle.dbtg_states.proofs.contents.count_used.Goals as goal

pub loop-count-init : goal.loop-count-init
loop-count-init c = record {
  within = omega (arith, c.capacity-count.ensures);
  used = ap up_to_used (take_all c.capacity-count.result c.args.extent.now.numbers (omega (arith, c.capacity-count.ensures)));
}

pub loop-count-preserved : goal.loop-count-preserved
loop-count-preserved c =
    let before : suc (c.loop-count.count - 1) ≡ c.loop-count.count = omega (arith, c.loop-count-test.true) in
    record {
      within = omega (arith, c.loop-count.invariant.within);
      used = unused_dropped c.args.extent.now.numbers c.loop-count.count (c.loop-count.count - 1) before (sym c.was_used.ensures ∙ c.if-not-was_used.true) ∙ c.loop-count.invariant.used;
    }

pub returns-else-not-was_used-clause-used : goal.returns-else-not-was_used-clause-used
returns-else-not-was_used-clause-used c = used_kept c.args.extent.now.numbers c.loop-count.count (λ some. sym c.was_used.ensures ∙ c.if-not-was_used.false) ∙ c.loop-count.invariant.used

pub returns-else-not-was_used-clause-within : goal.returns-else-not-was_used-clause-within
returns-else-not-was_used-clause-within c = c.loop-count.invariant.within

pub returns-after-loop-count-clause-used : goal.returns-after-loop-count-clause-used
returns-after-loop-count-clause-used c = used_kept c.args.extent.now.numbers c.loop-count.count (λ some. absurd (omega (arith, some, c.loop-count-test.false))) ∙ c.loop-count.invariant.used

pub returns-after-loop-count-clause-within : goal.returns-after-loop-count-clause-within
returns-after-loop-count-clause-within c = c.loop-count.invariant.within
