use Rattle.dbtg_program.proofs.Steps.{placed_on}
use Rattle.dbtg_program.proofs.state.place.Goals as goal

pub loop-value-preserved : goal.loop-value-preserved
loop-value-preserved c =
    placed_on c.loop-value.fields c.put_behind.new.fields c.args.first c.count.result c.loop-value.values.items c.pop.new.self.items c.in-Some.value _ c.count.ensures c.in-Some.ensures.items c.put_behind.ensures c.loop-value.invariant
