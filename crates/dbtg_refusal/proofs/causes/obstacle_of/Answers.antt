use Rattle.dbtg_refusal.proofs.SameObstacle.{of_databases}
use Rattle.dbtg_refusal.proofs.causes.obstacle_of.Goals as goal

pub returns : goal.returns
returns c = of_databases c.args.schema.now c.args.image.now c.args.unit.now c.args.statement.now c.args.cause c.obstacle_in.result c.obstacle_in.ensures
