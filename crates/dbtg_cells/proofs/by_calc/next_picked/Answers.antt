use Rattle.std.proofs.Common.{sym, ◌∙◌, ap, slice_get}
use Rattle.dbtg_cells.specs.Keys.{picked}
use Rattle.dbtg_cells.specs.Inside.ByCalc.{is_behind}
use Rattle.dbtg_cells.proofs.Rising.{first_at}
use Rattle.dbtg_cells.proofs.CalcOrder.{found_first, found_other, found_none}
use Rattle.dbtg_cells.proofs.by_calc.next_picked.Goals as goal

pub returns-then-entry_has_picked : goal.returns-then-entry_has_picked
returns-then-entry_has_picked c =
    let values = picked c.args.item_numbers.now c.args.items.now in
    let there = sym (ap (slice_get c.args.listed.now) c.place_of_picked-at.ensures.at ∙ first_at (is_behind c.args.numbers.now (values, c.args.number)) c.args.listed.now) ∙ sym c.in-Some.ensures in
    sym (found_first c.args.numbers.now c.args.listed.now c.requires values c.args.number c.in-Some.found there (sym c.if-entry_has_picked.ensures))

pub returns-else-entry_has_picked : goal.returns-else-entry_has_picked
returns-else-entry_has_picked c =
    let values = picked c.args.item_numbers.now c.args.items.now in
    let there = sym (ap (slice_get c.args.listed.now) c.place_of_picked-at.ensures.at ∙ first_at (is_behind c.args.numbers.now (values, c.args.number)) c.args.listed.now) ∙ sym c.in-Some.ensures in
    sym (found_other c.args.numbers.now c.args.listed.now c.requires values c.args.number c.in-Some.found there (sym c.if-entry_has_picked.ensures))

pub returns-in-None : goal.returns-in-None
returns-in-None c =
    let values = picked c.args.item_numbers.now c.args.items.now in
    let there = sym (ap (slice_get c.args.listed.now) c.place_of_picked-at.ensures.at ∙ first_at (is_behind c.args.numbers.now (values, c.args.number)) c.args.listed.now) ∙ sym c.in-None.ensures in
    sym (found_none c.args.numbers.now c.args.listed.now c.requires values c.args.number there)
