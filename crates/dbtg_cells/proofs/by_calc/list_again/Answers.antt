use Rattle.std.proofs.Common.{◌∙◌, ap, arith, length}
use Rattle.dbtg_cells.specs.Placed.{before}
use Rattle.dbtg_cells.specs.Inside.ByCalc.{is_rising, stands_before}
use Rattle.dbtg_cells.proofs.CalcOrder.{resetting_rises, resetting_has_room, reset_by_calc, same_by_calc, used_above}
use Rattle.dbtg_cells.proofs.by_calc.list_again.Goals as goal

pub drop_by_calc-requires-clause-rising : goal.drop_by_calc-requires-clause-rising
drop_by_calc-requires-clause-rising c = ap (λ l. is_rising (stands_before l) c.args.listed.now.items) c.as_slice.ensures.value ∙ c.requires.listed.rising

pub drop_by_calc-requires-clause-some : goal.drop_by_calc-requires-clause-some
drop_by_calc-requires-clause-some c = used_above c.args.number c.args.numbers.now.items c.requires.was

pub list_by_calc-requires-clause-rising : goal.list_by_calc-requires-clause-rising
list_by_calc-requires-clause-rising c =
    let written = c.as_slice-2.ensures.value ∙ c.set_entry.ensures.items in
    ap (λ l. is_rising (stands_before l) c.drop_by_calc.new.listed.items) written
    ∙ ap (is_rising (stands_before _)) c.drop_by_calc.ensures.items
    ∙ resetting_rises _ _ c.requires.listed c.args.number c.args.entry c.requires.was

pub list_by_calc-requires-clause-room : goal.list_by_calc-requires-clause-room
list_by_calc-requires-clause-room c =
    let few = resetting_has_room _ _ c.requires.listed c.args.number c.args.entry c.requires.was c.requires.stays in
    omega (arith, few, c.requires.room, ap length c.drop_by_calc.ensures.items, c.drop_by_calc.ensures.capacity)

pub returns-clause-listed : goal.returns-clause-listed
returns-clause-listed c =
    let number = c.args.number in
    let written = c.as_slice-2.ensures.value ∙ c.set_entry.ensures.items in
    let listed =
    c.list_by_calc.ensures.items
    ∙ ap (λ l. before (stands_before l number) number c.drop_by_calc.new.listed.items) written
    ∙ ap (before (stands_before _ number) number) c.drop_by_calc.ensures.items in
    same_by_calc _ _ _ _ c.set_entry.ensures.items listed (reset_by_calc _ _ c.requires.listed number c.args.entry c.requires.was c.requires.stays)
