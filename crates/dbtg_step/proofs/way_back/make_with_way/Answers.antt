use Rattle.dbtg_unit.proofs.Public.{agrees_same}
use Rattle.dbtg_step.proofs.MadeWhole.WaysBack.{plan_leads_back}
use Rattle.dbtg_step.proofs.way_back.make_with_way.Goals as goal

pub finish-requires : goal.finish-requires
finish-requires c =
    let some = c.requires.agrees in
    c.in_ok-prepared.ensures.prepared.can_make some.0 (agrees_same c.args.schema.now c.args.capacity some.0 c.args.unit.now c.args.held.now c.prepare.new.held c.prepare.ensures.shows some.1)

pub returns-clause-back : goal.returns-clause-back
returns-clause-back c =
    plan_leads_back c.args.schema.now c.args.capacity c.args.unit.now c.args.held.now c.prepare.new.held c.args.statement.now c.in_ok-prepared.prepared c.in_ok-way.way c.prepare.ensures.shows c.in_ok-prepared.ensures.prepared c.in_ok-way.ensures.names c.in_ok-way.ensures.cells
    c.in_ok-way.ensures.unit
