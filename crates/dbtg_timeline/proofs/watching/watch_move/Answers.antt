use Rattle.std.proofs.Common.{◌≡◌, map, ap, ◌∙◌}
use Rattle.dbtg_step.specs.Core.CoreSteps.{after_move, result_of_move}
use Rattle.dbtg_step.specs.Machine.Headline.{entry_of}
use Rattle.dbtg_step.specs.Core.Parts.{CoreState, machine}
use Rattle.dbtg_timeline.specs.Events.{place_in, shown, unit_in, wait_after}
use Rattle.dbtg_timeline.proofs.HistoryShown.{history_shown}
use Rattle.dbtg_timeline.proofs.watching.watch_move.Goals as goal

pub returns-clause-event : goal.returns-clause-event
returns-clause-event c =
    let old = machine c.args.core.now in
    let one = c.args.one in
    let core = c.in_ok-stepped.ensures.core in
    let before : c.position_at-before.result ≡ place_in old (unit_in one) = c.position_at-before.ensures ∙ ap (place_in old) c.unit_in-unit.ensures in
    let after : c.position_at-after.result ≡ place_in (after_move old one) (unit_in one) = c.position_at-after.ensures ∙ ap (place_in (machine c.make_move.new.core)) c.unit_in-unit.ensures ∙ ap (λ (m : CoreState). place_in m (unit_in one)) core in
    let history : c.history.result.now ≡ map entry_of (after_move old one).state.history = c.history.ensures.machine ∙ history_shown c.make_move.new.core ∙ ap (λ (m : CoreState). map entry_of m.state.history) core in
    let wait = c.in_ok-wait.ensures ∙ (λ i. wait_after (core i) (c.unit_in-unit.ensures i) (c.in_ok-stepped.ensures.result i)) in
    c.shown.ensures
    ∙ ap (λ s. shown one s c.position_at-before.result c.position_at-after.result c.history.result.now c.in_ok-wait.wait) c.in_ok-stepped.ensures.result
    ∙ ap (λ p. shown one (result_of_move old one) p c.position_at-after.result c.history.result.now c.in_ok-wait.wait) before
    ∙ ap (λ p. shown one (result_of_move old one) (place_in old (unit_in one)) p c.history.result.now c.in_ok-wait.wait) after
    ∙ ap (λ h. shown one (result_of_move old one) (place_in old (unit_in one)) (place_in (after_move old one) (unit_in one)) h c.in_ok-wait.wait) history
    ∙ ap (λ w. shown one (result_of_move old one) (place_in old (unit_in one)) (place_in (after_move old one) (unit_in one)) (map entry_of (after_move old one).state.history) w) wait
