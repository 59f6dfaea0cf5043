use Rattle.std.proofs.Common.{sym, ◌∙◌, ap}
use Rattle.std.specs.Prelude.{option_map}
use Rattle.dbtg_refusal.specs.declared.obstacle.Obstacle.TheVariants as obstacle
use Rattle.dbtg_refusal.specs.Obstacles.{without_current}
use Rattle.dbtg_refusal.proofs.finding.without_current.Goals as goal

pub returns-in-Store : goal.returns-in-Store
returns-in-Store c =
    c.set_of.ensures ∙ ap (option_map obstacle.Set) c.null_set.ensures ∙ ap (without_current c.args.schema.now c.args.unit.now) (sym c.in-Store.is)
