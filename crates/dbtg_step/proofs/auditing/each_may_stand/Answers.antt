use Rattle.std.proofs.Common.{◌≡◌, ◌≤◌, ◌+◌, ◌∙◌, ℕ, sym, ap, subst, take, drop, length, suc, refl, arith}
use Rattle.std.proofs.lemmas.Bool.{false≢true}
use Rattle.std.proofs.lemmas.List.{take_all}
use Rattle.dbtg_step.specs.Core.Audit.{MayBeHistory, entries_at}
use Rattle.dbtg_step.specs.Inside.Audit.{MayStand}
use Rattle.dbtg_step.proofs.MadeWhole.Audits.{around, entries_counted, entry_there, none_yet, not_standing, one_more, standing, stands_at}
use Rattle.dbtg_step.proofs.auditing.each_may_stand.Goals as goal

pub returns-then-not-may_stand : goal.returns-then-not-may_stand
returns-then-not-may_stand c =
    let schema = c.args.schema.now in
    let units = c.args.units in
    let history = (entries_at c.args.history.now) in
    let place = c.loop-place.place in
    let entry = c.index-history-place.result.now in
    let here = around history place entry (entry_there c.args.history.now place c.index-history-place.result c.loop-place-test.true c.index-history-place.is) in (
      λ e. absurd (false≢true e),
      λ h. absurd (not_standing schema units place entry (sym c.may_stand.ensures ∙ c.if-not-may_stand.true)
          (subst (λ (n : ℕ). MayStand schema units n entry) here.2 (stands_at schema units history (take place history) (drop (suc place) history) entry here.0 h))),
    )

pub returns : goal.returns
returns c =
    let history = (entries_at c.args.history.now) in
    let past_end : length history ≤ c.loop-place.place = let counted = entries_counted c.args.history.now in omega (arith, counted, c.loop-place-test.false) in
    (λ e. subst (MayBeHistory c.args.schema.now c.args.units) (take_all c.loop-place.place history past_end) c.loop-place.invariant, λ h. refl)

pub loop-place-init : goal.loop-place-init
loop-place-init c = none_yet c.args.schema.now c.args.units

pub loop-place-preserved : goal.loop-place-preserved
loop-place-preserved c =
    let schema = c.args.schema.now in
    let units = c.args.units in
    let history = (entries_at c.args.history.now) in
    let place = c.loop-place.place in
    let entry = c.index-history-place.result.now in
    let here = around history place entry (entry_there c.args.history.now place c.index-history-place.result c.loop-place-test.true c.index-history-place.is) in
    let stands = standing schema units place entry (sym c.may_stand.ensures ∙ c.if-not-may_stand.false) in
    let more = one_more schema units (take place history) entry c.loop-place.invariant (subst (λ (n : ℕ). MayStand schema units n entry) (sym here.2) stands) in
    let next : suc place ≡ place + 1 = omega arith in
    subst (MayBeHistory schema units) (sym here.1 ∙ ap (λ (n : ℕ). take n history) next) more
