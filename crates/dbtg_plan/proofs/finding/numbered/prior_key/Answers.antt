use Rattle.std.proofs.Common.{◌≡◌, ◌∙◌, ap, arith}
use Rattle.std.specs.Prelude.{filter, nat_lt, option_map}
use Rattle.dbtg_schema.specs.Lookups.{final}
use Rattle.dbtg_cells.specs.Numbers.{is_used, numbers_where}
use Rattle.dbtg_unit.specs.Inside.InHand.{key_of}
use Rattle.dbtg_plan.proofs.Find.NumberedKeys.{all_below, none_below, prior_own}
use Rattle.dbtg_plan.proofs.finding.numbered.prior_key.Goals as goal

pub returns-then-index : goal.returns-then-index
returns-then-index c = none_below c.args.rtype c.args.extent.now.numbers c.args.bound.now (omega (arith, c.index.ensures, c.index-2.ensures, c.if-index.true))

pub returns-then-index-2 : goal.returns-then-index-2
returns-then-index-2 c =
    let t = c.args.rtype in
    let numbers = c.args.extent.now.numbers in
    c.key_of.ensures ∙ ap (option_map (key_of numbers t)) c.last_live.ensures
    ∙ all_below t numbers c.args.bound.now (omega (arith, c.index-3.ensures, c.index-4.ensures, c.if-index-2.true))

pub returns : goal.returns
returns c =
    let t = c.args.rtype in
    let numbers = c.args.extent.now.numbers in
    let bound = c.args.bound.now in
    let own : bound.rtype ≡ t = omega (arith, c.index.ensures, c.index-2.ensures, c.index-3.ensures, c.index-4.ensures, c.if-index.false, c.if-index-2.false) in
    c.key_of-2.ensures ∙ ap (option_map (key_of numbers t)) (c.prior_live.ensures ∙ ap (λ m. final (filter (λ n. nat_lt n m) (numbers_where is_used numbers))) c.number_below.ensures)
    ∙ prior_own t numbers bound own
