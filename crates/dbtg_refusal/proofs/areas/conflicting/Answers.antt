use Rattle.std.proofs.Common.{sym, ◌∙◌, ap}
use Rattle.std.specs.Prelude.{option_map}
use Rattle.dbtg_refusal.specs.declared.obstacle.Obstacle.TheVariants as obstacle
use Rattle.dbtg_refusal.specs.Inside.Imaged.{imaged}
use Rattle.dbtg_refusal.specs.Obstacles.{conflicting}
use Rattle.dbtg_refusal.proofs.areas.conflicting.Goals as goal

pub returns-in-OpenArea : goal.returns-in-OpenArea
returns-in-OpenArea c =
    c.opened.ensures
    ∙ ap (option_map (λ e. obstacle.Opened c.in-OpenArea.area e.0 e.1)) c.user_against.ensures
    ∙ ap (conflicting (imaged c.args.schema.now c.args.image.now)) (sym c.in-OpenArea.is)
