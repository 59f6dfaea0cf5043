use Rattle.std.proofs.Common.{ap, ◌∙◌, slice_get}
use Rattle.dbtg_cells.specs.Inside.ByCalc.{is_behind}
use Rattle.dbtg_cells.proofs.Rising.{first_at}
use Rattle.dbtg_cells.proofs.by_calc.first_behind.Goals as goal

pub returns : goal.returns
returns c =
    c.number_at.ensures ∙ ap (slice_get c.args.listed.now) c.place_of-at.ensures.at ∙ first_at (is_behind c.args.numbers.now (c.args.values.now, c.args.number)) c.args.listed.now
