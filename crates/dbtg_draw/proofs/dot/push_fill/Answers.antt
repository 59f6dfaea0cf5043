use Rattle.std.specs.Prelude.{codes}
use Rattle.std.proofs.lemmas.Result.{on_ok_weaker}
use Rattle.dbtg_draw.specs.Dot.{colour_text, fill_text}
use Rattle.dbtg_draw.proofs.TwoParts.{two_parts}
use Rattle.dbtg_draw.proofs.dot.push_fill.Goals as goal

pub returns : goal.returns
unfolding fill_text
returns c =
    on_ok_weaker c.push_colour.result (two_parts c.args.out.now.items (codes " [fillcolor=") (colour_text c.args.area) _ _ c.in_ok-extend_from_slice.ensures.items) c.push_colour.ensures
