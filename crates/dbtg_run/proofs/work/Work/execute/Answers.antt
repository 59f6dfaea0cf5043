use Rattle.std.proofs.Common.{refl, ap, ◌∙◌}
use Rattle.dbtg_unit.specs.declared.unit.Unit.{Unit}
use Rattle.dbtg_unit.specs.Hands.Hands.{Hands}
use Rattle.dbtg_run.proofs.work.Work.execute.Goals as goal

pub returns-in-Err-clause-same : goal.returns-in-Err-clause-same
returns-in-Err-clause-same g c =
    let made = c.attempt-attempted.ensures.same in let given = c.give_back.ensures.same in
    (given.about ∙ made.0, given.table ∙ made.1, ap (λ (u : Unit). u.number) given.unit ∙ made.2)

pub returns-in-Ok-None-clause-same : goal.returns-in-Ok-None-clause-same
returns-in-Ok-None-clause-same g c =
    let made = c.attempt-attempted.ensures.same in let given = c.give_back.ensures.same in
    (given.about ∙ made.0, given.table ∙ made.1, ap (λ (u : Unit). u.number) given.unit ∙ made.2)

pub returns-in-Ok-Some-clause-same : goal.returns-in-Ok-Some-clause-same
returns-in-Ok-Some-clause-same g c =
    let made = c.attempt-attempted.ensures.same in let given = c.give_back.ensures.same in
    (given.about ∙ made.0, given.table ∙ made.1, ap (λ (u : Unit). u.number) given.unit ∙ made.2)

pub returns-then-as_slice-ge-MOST_STATEMENTS-clause-same : goal.returns-then-as_slice-ge-MOST_STATEMENTS-clause-same
returns-then-as_slice-ge-MOST_STATEMENTS-clause-same g c = (refl, refl, refl)

pub returns-then-as_slice-ge-MOST_STATEMENTS-clause-work : goal.returns-then-as_slice-ge-MOST_STATEMENTS-clause-work
returns-then-as_slice-ge-MOST_STATEMENTS-clause-work g c = c.requires.work

pub returns-then-as_slice-ge-MOST_STATEMENTS-clause-idle : goal.returns-then-as_slice-ge-MOST_STATEMENTS-clause-idle
returns-then-as_slice-ge-MOST_STATEMENTS-clause-idle g c = c.requires.idle

pub returns-in-Err-clause-work : goal.returns-in-Err-clause-work
returns-in-Err-clause-work g c = c.give_back.ensures.work

pub returns-in-Err-clause-idle : goal.returns-in-Err-clause-idle
returns-in-Err-clause-idle g c = (ap (λ (h : Hands). h.areas) c.give_back.ensures.held, ap (λ (h : Hands). h.cells) c.give_back.ensures.held)

pub returns-in-Err-clause-given : goal.returns-in-Err-clause-given
returns-in-Err-clause-given g c = c.attempt-attempted.ensures.given

pub returns-in-Ok-None-clause-work : goal.returns-in-Ok-None-clause-work
returns-in-Ok-None-clause-work g c = c.give_back.ensures.work

pub returns-in-Ok-None-clause-idle : goal.returns-in-Ok-None-clause-idle
returns-in-Ok-None-clause-idle g c = (ap (λ (h : Hands). h.areas) c.give_back.ensures.held, ap (λ (h : Hands). h.cells) c.give_back.ensures.held)

pub returns-in-Ok-None-clause-given : goal.returns-in-Ok-None-clause-given
returns-in-Ok-None-clause-given g c = c.attempt-attempted.ensures.given

pub returns-in-Ok-Some-clause-work : goal.returns-in-Ok-Some-clause-work
returns-in-Ok-Some-clause-work g c = c.give_back.ensures.work

pub returns-in-Ok-Some-clause-idle : goal.returns-in-Ok-Some-clause-idle
returns-in-Ok-Some-clause-idle g c = (ap (λ (h : Hands). h.areas) c.give_back.ensures.held, ap (λ (h : Hands). h.cells) c.give_back.ensures.held)

pub returns-in-Ok-Some-clause-given : goal.returns-in-Ok-Some-clause-given
returns-in-Ok-Some-clause-given g c = c.attempt-attempted.ensures.given
