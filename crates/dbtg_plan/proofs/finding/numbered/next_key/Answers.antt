use Rattle.std.proofs.Common.{◌≡◌, ◌∙◌, ap, arith}
use Rattle.std.specs.Prelude.{filter, nat_lt, option_map}
use Rattle.dbtg_schema.specs.Lookups.{first}
use Rattle.dbtg_cells.specs.Numbers.{is_used, numbers_where}
use Rattle.dbtg_unit.specs.Inside.InHand.{key_of}
use Rattle.dbtg_plan.proofs.Find.NumberedKeys.{none_above, next_own}
use Rattle.dbtg_plan.proofs.finding.numbered.next_key.Goals as goal

pub returns-then-index : goal.returns-then-index
returns-then-index c = none_above c.args.rtype c.args.extent.now.numbers c.args.bound.now (omega (arith, c.index.ensures, c.index-2.ensures, c.if-index.true))

pub returns : goal.returns
returns c =
    let t = c.args.rtype in
    let numbers = c.args.extent.now.numbers in
    let bound = c.args.bound.now in
    let own : bound.rtype ≡ t = omega (arith, c.index.ensures, c.index-2.ensures, c.index-3.ensures, c.index-4.ensures, c.if-index.false, c.if-index-2.false) in
    c.key_of-2.ensures ∙ ap (option_map (key_of numbers t)) (c.next_live.ensures ∙ ap (λ n. first (filter (nat_lt n) (numbers_where is_used numbers))) c.number_above.ensures)
    ∙ next_own t numbers bound own
