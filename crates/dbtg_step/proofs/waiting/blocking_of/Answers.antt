use Rattle.dbtg_step.proofs.TheCore.WaitingShown.{waits_for, waits_for_nothing, waits_for_some}
use Rattle.dbtg_step.proofs.waiting.blocking_of.Goals as goal

pub returns-in_ok-holders-in-Some-clause-found : goal.returns-in_ok-holders-in-Some-clause-found
returns-in_ok-holders-in-Some-clause-found c =
    waits_for c.args.schema.now c.args.capacity c.args.unit c.args.parts.now c.requires.well c.in-Some.awaited _ (rw c.in-Some.is at c.awaited_of.ensures) (rw (c.as_slice.ensures.value) at c.in_ok-holders-in-Some.ensures)

pub returns-in_ok-holders-in-Some-clause-blocked : goal.returns-in_ok-holders-in-Some-clause-blocked
returns-in_ok-holders-in-Some-clause-blocked c =
    waits_for_some c.args.schema.now c.args.capacity c.args.unit c.args.parts.now c.requires.well c.in-Some.awaited _ (rw c.in-Some.is at c.awaited_of.ensures) (rw (c.as_slice.ensures.value) at c.in_ok-holders-in-Some.ensures)

pub returns-in-None-clause-found : goal.returns-in-None-clause-found
returns-in-None-clause-found c = waits_for_nothing c.args.schema.now c.args.capacity c.args.unit c.args.parts.now c.requires.well (rw c.in-None.is at c.awaited_of.ensures)

pub returns-in-None-clause-blocked : goal.returns-in-None-clause-blocked
returns-in-None-clause-blocked c = (rw c.in-None.is at c.awaited_of.ensures).1
