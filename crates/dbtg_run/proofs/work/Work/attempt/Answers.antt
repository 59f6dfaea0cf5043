use Rattle.std.proofs.Common.{ap, ◌∙◌}
use Rattle.dbtg_unit.specs.declared.unit.Unit.{Unit}
use Rattle.dbtg_run.proofs.work.Work.attempt.Goals as goal

pub returns-in_err-gather-clause-same : goal.returns-in_err-gather-clause-same
returns-in_err-gather-clause-same g c = let taken = c.gather.ensures.same in (taken.about, taken.table, ap (λ (u : Unit). u.number) taken.unit)

pub returns-then-not-branch-clause-same : goal.returns-then-not-branch-clause-same
returns-then-not-branch-clause-same g c = let taken = c.gather.ensures.same in (taken.about, taken.table, ap (λ (u : Unit). u.number) taken.unit)

pub returns-in_err-answer-clause-same : goal.returns-in_err-answer-clause-same
returns-in_err-answer-clause-same g c =
    let taken = c.gather.ensures.same in let made = c.make_in_hand.ensures.same in
    (made.0 ∙ taken.about, made.1 ∙ taken.table, made.2 ∙ ap (λ (u : Unit). u.number) taken.unit)

pub returns-clause-same : goal.returns-clause-same
returns-clause-same g c =
    let taken = c.gather.ensures.same in let made = c.make_in_hand.ensures.same in
    (made.0 ∙ taken.about, made.1 ∙ taken.table, made.2 ∙ ap (λ (u : Unit). u.number) taken.unit)

pub returns-in_err-gather-clause-work : goal.returns-in_err-gather-clause-work
returns-in_err-gather-clause-work g c = c.gather.ensures.work

pub returns-in_err-gather-clause-given : goal.returns-in_err-gather-clause-given
returns-in_err-gather-clause-given g c = c.gather.ensures.given

pub returns-then-not-branch-clause-work : goal.returns-then-not-branch-clause-work
returns-then-not-branch-clause-work g c = c.gather.ensures.work

pub returns-then-not-branch-clause-given : goal.returns-then-not-branch-clause-given
returns-then-not-branch-clause-given g c = c.gather.ensures.given

pub returns-in_err-answer-clause-work : goal.returns-in_err-answer-clause-work
returns-in_err-answer-clause-work g c = c.make_in_hand.ensures.work

pub returns-in_err-answer-clause-given : goal.returns-in_err-answer-clause-given
returns-in_err-answer-clause-given g c = c.gather.ensures.given

pub returns-clause-work : goal.returns-clause-work
returns-clause-work g c = c.make_in_hand.ensures.work

pub returns-clause-given : goal.returns-clause-given
returns-clause-given g c = c.gather.ensures.given
