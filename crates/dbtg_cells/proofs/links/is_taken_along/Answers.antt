use Rattle.std.proofs.Common.{◌≡◌, ◌-◌, ◌+◌, suc, sym, ap, ◌∙◌, arith, Some}
use Rattle.std.specs.List.{list_any}
use Rattle.std.specs.Option.{option_copied}
use Rattle.dbtg_cells.specs.Members.{has_sort_key}
use Rattle.dbtg_cells.specs.declared.links.Direction.TheVariants.{Next}
use Rattle.dbtg_cells.specs.Inside.Chain.{slot, follow}
use Rattle.dbtg_cells.proofs.RingReads.{read_one, any_later}
use Rattle.dbtg_cells.proofs.links.is_taken_along.Goals as goal

pub loop-turn-preserved : goal.loop-turn-preserved
loop-turn-preserved c =
    let slots = c.args.nodes.now.slots in
    let node = c.in-Some-get.node.now in
    let less = c.args.limit - (c.loop-turn.turn + 1) in
    let e : c.args.limit - c.loop-turn.turn ≡ suc less = omega (arith, c.loop-turn-test.true) in
    let there : slot slots c.in-Some.i ≡ Some node = sym c.get.ensures ∙ ap option_copied c.in-Some-get.is in
    let cut = read_one Next _ less slots c.loop-turn.at c.in-Some.i node e c.in-Some.is there in
    sym (any_later (has_sort_key c.args.left_out.now c.args.sort.now) node.member (follow less slots node.next) (sym c.if-is_taken_by.ensures)) ∙ ap (list_any (has_sort_key c.args.left_out.now c.args.sort.now)) (sym cut) ∙ c.loop-turn.invariant
