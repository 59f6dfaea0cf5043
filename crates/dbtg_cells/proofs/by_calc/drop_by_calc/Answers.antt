use Rattle.std.proofs.Common.{◌≡◌, ◌∙◌, subst, true, Some, slice_get}
use Rattle.dbtg_cells.proofs.CalcOrder.{listed_removed}
use Rattle.dbtg_cells.proofs.Rising.{is_in}
use Rattle.dbtg_cells.proofs.by_calc.drop_by_calc.Goals as goal

pub returns-clause-items : goal.returns-clause-items
returns-clause-items c =
    let number = c.args.number in
    let at = c.place_of_listed-at.result in
    c.remove_number.ensures.items
    ∙ listed_removed c.args.numbers.now number c.args.listed.now.items at c.requires.rising
    (subst (λ l. is_in number l ≡ true → slice_get l at ≡ Some number) c.as_slice.ensures.value c.place_of_listed-at.ensures)
