use Rattle.std.proofs.Common.{◌≡◌, ◌-◌, ◌+◌, suc, sym, ap, ◌∙◌, arith, Some}
use Rattle.std.specs.List.{find}
use Rattle.std.specs.Option.{option_copied, option_map}
use Rattle.dbtg_schema.specs.Lookups.{some_and}
use Rattle.dbtg_cells.specs.Keys.{value_eq}
use Rattle.dbtg_cells.specs.declared.links.Direction.TheVariants.{Next}
use Rattle.dbtg_cells.specs.Inside.Chain.{slot, follow}
use Rattle.dbtg_cells.proofs.RingReads.{read_one, found_later}
use Rattle.dbtg_cells.proofs.links.find_along.Goals as goal

pub loop-turn-preserved : goal.loop-turn-preserved
loop-turn-preserved c =
    let slots = c.args.nodes.now.slots in
    let node = c.in-Some-get.node.now in
    let less = c.args.limit - (c.loop-turn.turn + 1) in
    let e : c.args.limit - c.loop-turn.turn ≡ suc less = omega (arith, c.loop-turn-test.true) in
    let there : slot slots c.in-Some.i ≡ Some node = sym c.get.ensures ∙ ap option_copied c.in-Some-get.is in
    let cut = read_one Next _ less slots c.loop-turn.at c.in-Some.i node e c.in-Some.is there in
    sym (found_later (λ e. some_and (value_eq c.args.sort.now) e.1) node.member (follow less slots node.next) (sym c.if-has_sort_key.ensures)) ∙ ap (λ l. option_map (λ e. e.0) (find (λ e. some_and (value_eq c.args.sort.now) e.1) l)) (sym cut) ∙ c.loop-turn.invariant
