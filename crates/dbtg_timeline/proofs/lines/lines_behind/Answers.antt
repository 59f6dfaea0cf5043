use Rattle.std.proofs.Common.{◌≡◌, suc, ◌+◌, ◌∷◌, drop, length, ap, sym, ◌∙◌, arith}
use Rattle.std.proofs.lemmas.List.{drop_more}
use Rattle.dbtg_timeline.specs.declared.event.Event.{Event}
use Rattle.dbtg_timeline.specs.Lines.{begun, longer}
use Rattle.dbtg_timeline.proofs.LinesGrow.{counts_next, counts_on, line_ends, line_grows}
use Rattle.dbtg_timeline.proofs.lines.lines_behind.Goals as goal
use Rattle.dbtg_timeline.proofs.lines.lines_behind.Goals.{then-goes_on+in_ok-push, else-goes_on+in_ok-push-2}

pub loop-event-preserved : goal.loop-event-preserved
loop-event-preserved c =
    let events = c.args.events.now in
    let i = c.loop-event.event-index in
    let old = c.loop-event.line in
    let before = c.loop-event.invariant in
    let split : drop i events ≡ c.event-item.result ∷ drop (i + 1) events = drop_more events i c.event-item.result c.loop-event-test.true ∙ ap (λ (e : Event). e ∷ drop (i + 1) events) (sym c.event-item.is) in
    elim c.if-goes_on.branch [
      | then-goes_on+in_ok-push w ↦
          let is = w.line-is ∙ ap (λ more. record { first = old.first; head = old.head; more = more }) w.in_ok-push.ensures.ok ∙ ap (longer old) c.in_ok-copy.ensures in
          let count = counts_on old c.if-goes_on.line _ is in
          record {
            lines = rw w.all-is (line_grows c.loop-event.all.items _ old c.if-goes_on.line _ (drop i events) (drop (i + 1) events) split before.lines (sym c.goes_on.ensures ∙ w.if-goes_on.true) is);
            count = omega (arith, count, before.count);
          }
      | else-goes_on+in_ok-push-2 w ↦
          let is = w.line-is ∙ w.begun-next.ensures ∙ ap (begun (old.first + 1 + w.len.result)) c.in_ok-copy.ensures in
          let number : old.first + 1 + w.len.result ≡ old.first + suc (length old.more) = omega (arith, w.len.ensures) in
          let count = counts_next old c.if-goes_on.line _ (old.first + 1 + w.len.result) number is in
          let all = ap (λ ls. ls.items) w.all-is ∙ w.in_ok-push-2.ensures.items in
          record {
            lines = line_ends c.loop-event.all.items _ old c.if-goes_on.line _ (drop i events) (drop (i + 1) events) split before.lines _ (old.first + 1 + w.len.result) (sym c.goes_on.ensures ∙ w.if-goes_on.false) all number is;
            count = omega (arith, count, before.count);
          }
    ]
