use Rattle.std.proofs.Common.{◌∙◌, ap}
use Rattle.std.specs.List.{insert, position_or_len}
use Rattle.dbtg_cells.specs.Inside.ByCalc.{is_behind, stands_before}
use Rattle.dbtg_cells.proofs.PlainLists.{before_insert}
use Rattle.dbtg_cells.proofs.by_calc.list_by_calc.Goals as goal

pub returns-clause-items : goal.returns-clause-items
returns-clause-items c =
    let numbers = c.args.numbers.now in
    let number = c.args.number in
    let test = ap (λ v. is_behind numbers (v, number)) c.values_at-values.ensures in
    let at = c.place_of_new-at.ensures.at ∙ ap (position_or_len (is_behind numbers (c.values_at-values.result.now, number))) c.as_slice.ensures.value ∙ ap (λ t. position_or_len t c.args.listed.now.items) test in
    c.insert_number.ensures.items ∙ ap (λ n. insert c.args.listed.now.items n number) at ∙ before_insert (stands_before numbers number) number c.args.listed.now.items
