use Rattle.inventory_clerks.proofs.Filling.{begins_on, kept_by}
use Rattle.inventory_clerks.proofs.clerk.keep.Goals as goal

pub returns-clause-kept : goal.returns-clause-kept
returns-clause-kept g c =
    kept_by _ _ _ _ _ _ _ _ _ c.in_ok-must.ensures.done c.in_ok-must-2.ensures.done c.in_ok-must.ensures.status c.in_ok-must-2.ensures.status

pub returns-clause-grown : goal.returns-clause-grown
returns-clause-grown g c = begins_on _ _ _ c.must.ensures.grown c.must-2.ensures.grown

pub returns-in_err-must-2-clause-grown : goal.returns-in_err-must-2-clause-grown
returns-in_err-must-2-clause-grown g c = begins_on _ _ _ c.must.ensures.grown c.must-2.ensures.grown
