use Rattle.std.proofs.Common.{◌-◌, length, sym, ◌∙◌, arith}
use Rattle.std.proofs.lemmas.Bool.{eqb-false, not-true}
use Rattle.dbtg_cells.specs.Inside.ByCalc.{is_behind, stands_before}
use Rattle.dbtg_cells.proofs.Rising.{none_to_last}
use Rattle.dbtg_cells.proofs.CalcOrder.{behind_up}
use Rattle.dbtg_cells.proofs.by_calc.is_past_all.Goals as goal

pub returns : goal.returns
returns c past =
    let listed = c.args.listed.now in
    let some = eqb-false (length listed) 0 (sym c.is_empty.ensures ∙ c.if-is_empty.false) in
    none_to_last (stands_before c.args.numbers.now) (is_behind c.args.numbers.now (c.args.values.now, c.args.number)) (behind_up c.args.numbers.now (c.args.values.now, c.args.number)) listed (length listed - 1) 0 c.requires (omega (arith, some))
    (sym c.is_behind.ensures ∙ not-true _ past)
