use Rattle.std.proofs.Common.{sym}
use Rattle.dbtg_cells.proofs.CalcOrder.{found_first, found_other, found_none}
use Rattle.dbtg_cells.proofs.by_calc.next_by_calc.Goals as goal

pub returns-then-entry_has_values : goal.returns-then-entry_has_values
returns-then-entry_has_values c =
    sym (found_first c.args.numbers.now c.args.listed.now c.requires c.args.values.now c.args.number c.in-Some.found (sym c.in-Some.ensures) (sym c.if-entry_has_values.ensures))

pub returns-else-entry_has_values : goal.returns-else-entry_has_values
returns-else-entry_has_values c =
    sym (found_other c.args.numbers.now c.args.listed.now c.requires c.args.values.now c.args.number c.in-Some.found (sym c.in-Some.ensures) (sym c.if-entry_has_values.ensures))

pub returns-in-None : goal.returns-in-None
returns-in-None c =
    sym (found_none c.args.numbers.now c.args.listed.now c.requires c.args.values.now c.args.number (sym c.in-None.ensures))
