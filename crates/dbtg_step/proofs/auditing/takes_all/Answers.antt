use Rattle.std.proofs.Common.{◌≡◌, ◌≤◌, ◌+◌, ◌∙◌, sym, ap, subst, take, drop, [], ◌++◌, ◌∷◌, length, suc, arith}
use Rattle.std.proofs.lemmas.List.{take_all}
use Rattle.dbtg_step.specs.Core.Audit.{entries_at}
use Rattle.dbtg_step.specs.Core.Bare.{Continues}
use Rattle.dbtg_step.proofs.MadeWhole.Audits.{around, entries_counted, entry_there, may_stand_next, not_led_on, refused_at, match_true}
use Rattle.dbtg_step.proofs.MadeWhole.Bares.{continues_nothing, continues_on}
use Rattle.dbtg_step.proofs.auditing.takes_all.Goals as goal

pub takes-requires-clause-may : goal.takes-requires-clause-may
takes-requires-clause-may c =
    let history = entries_at c.args.history.now in
    let index = c.loop-entry.entry-index in
    let entry = c.entry-item.result.now in
    let split = (around history index entry (entry_there c.args.history.now index c.entry-item.result c.loop-entry-test.true c.entry-item.is)).0 in
    may_stand_next c.args.database.now c.loop-entry.database history (take index history) (drop (suc index) history) entry split c.loop-entry.invariant c.requires.fresh c.requires.may

pub takes-requires-clause-stands : goal.takes-requires-clause-stands
takes-requires-clause-stands c = (_, c.loop-entry.invariant.stands [] c.requires.fresh)

pub returns-then-not-branch : goal.returns-then-not-branch
returns-then-not-branch c =
    let history = entries_at c.args.history.now in
    let index = c.loop-entry.entry-index in
    let entry = c.entry-item.result.now in
    let split = (around history index entry (entry_there c.args.history.now index c.entry-item.result c.loop-entry-test.true c.entry-item.is)).0 in
    not_led_on c.args.database.now c.loop-entry.database history (take index history) (drop (suc index) history) entry split c.loop-entry.invariant c.requires.fresh
    (refused_at c.in_ok-takes.field-0 _ _ c.if-not-branch.true c.in_ok-takes.ensures)

pub returns : goal.returns
returns c =
    let history = entries_at c.args.history.now in
    let past_end : length history ≤ c.loop-entry.entry-index = let counted = entries_counted c.args.history.now in omega (arith, counted, c.loop-entry-test.false) in
    subst (λ es. Continues c.args.database.now es c.loop-entry.database) (take_all c.loop-entry.entry-index history past_end) c.loop-entry.invariant

pub loop-entry-init : goal.loop-entry-init
loop-entry-init c = continues_nothing c.args.database.now

pub loop-entry-preserved : goal.loop-entry-preserved
loop-entry-preserved c =
    let history = entries_at c.args.history.now in
    let index = c.loop-entry.entry-index in
    let entry = c.entry-item.result.now in
    let there = around history index entry (entry_there c.args.history.now index c.entry-item.result c.loop-entry-test.true c.entry-item.is) in
    let next : suc index ≡ index + 1 = omega arith in
    let more : take index history ++ entry ∷ [] ≡ take (index + 1) history = sym there.1 ∙ ap (λ n. take n history) next in
    subst (λ es. Continues c.args.database.now es c.takes.new.database) more
    (continues_on c.args.database.now c.loop-entry.database c.takes.new.database (take index history) (entry ∷ []) c.loop-entry.invariant (match_true c.in_ok-takes.field-0 _ _ c.if-not-branch.false c.in_ok-takes.ensures))
