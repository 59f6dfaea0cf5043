use Rattle.dbtg_plan.proofs.Store.StoreFinish.{finishes_if_ok}
use Rattle.dbtg_plan.proofs.storing.prepare_store.Goals as goal

pub returns-clause-prepared : goal.returns-clause-prepared
returns-clause-prepared c =
    finishes_if_ok c.args.schema.now c.args.capacity c.args.unit.now c.args.held.now c.plan_store.new.held c.args.rtype c.args.items.now c.args.suppress
    c.requires.may c.requires.passes c.plan_store.ensures.same c.plan_store.result c.plan_store.ensures.plan c.plan_store.ensures.rooms
