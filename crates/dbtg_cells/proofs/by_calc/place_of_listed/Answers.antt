use Rattle.std.proofs.Common.{◌-◌, ◌∙◌, ap, slice_get}
use Rattle.std.specs.List.{position_or_len}
use Rattle.dbtg_cells.specs.Inside.ByCalc.{is_behind}
use Rattle.dbtg_cells.proofs.CalcOrder.{stands_at_its_place}
use Rattle.dbtg_cells.proofs.by_calc.place_of_listed.Goals as goal

pub returns-in_default : goal.returns-in_default
returns-in_default c here =
    let numbers = c.args.numbers.now in
    let number = c.args.number in
    let test = ap (λ v. is_behind numbers (v, number - 1)) c.values_at.ensures in
    ap (slice_get c.args.listed.now) (c.place_of.ensures.at ∙ ap (λ t. position_or_len t c.args.listed.now) test)
    ∙ stands_at_its_place numbers number c.args.listed.now c.requires.some c.requires.rising here
