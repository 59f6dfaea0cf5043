use Rattle.std.proofs.Common.{sym, ◌∙◌, ap}
use Rattle.dbtg_erase.specs.Inside.NextCell.{need_of}
use Rattle.dbtg_erase.proofs.NextNeed.{cell_wanted}
use Rattle.dbtg_erase.proofs.next.need_with_areas.Goals as goal

pub returns-in-Some-clause-need : goal.returns-in-Some-clause-need
returns-in-Some-clause-need c = λ db agrees.
    ap need_of (sym c.in-Some.is ∙ c.in_ok-name.ensures.next)
    ∙ cell_wanted c.args.schema.now c.args.capacity c.args.unit.now c.args.option c.args.held.now db agrees c.requires.passed c.requires.areas

pub returns-in-None-clause-need : goal.returns-in-None-clause-need
returns-in-None-clause-need c = λ db agrees.
    ap need_of (sym c.in-None.is ∙ c.in_ok-name.ensures.next)
    ∙ cell_wanted c.args.schema.now c.args.capacity c.args.unit.now c.args.option c.args.held.now db agrees c.requires.passed c.requires.areas
