use Rattle.std.proofs.Common.{sym, subst}
use Rattle.dbtg_unit.specs.Hands.Locality.{IsMadeOnEach}
use Rattle.dbtg_unit.proofs.Public.{agrees_same}
use Rattle.dbtg_step.proofs.drawing.make_by_plan.Goals as goal

pub finish-requires : goal.finish-requires
finish-requires c =
    let some = c.requires.agrees in
    c.in_ok-prepared.ensures.prepared.can_make some.0 (agrees_same c.args.schema.now c.args.capacity some.0 c.args.unit.now c.args.held.now c.prepare.new.held c.prepare.ensures.shows some.1)

pub returns-clause-made : goal.returns-clause-made
returns-clause-made c =
    subst (IsMadeOnEach c.args.schema.now c.args.capacity c.args.unit.now c.args.held.now c.args.statement.now) (sym c.finish.ensures.made) c.in_ok-prepared.ensures.made
