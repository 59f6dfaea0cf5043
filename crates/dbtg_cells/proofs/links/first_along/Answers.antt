use Rattle.std.proofs.Common.{◌≡◌, ◌∷◌, ◌-◌, ◌+◌, suc, sym, ap, ◌∙◌, arith, Some, map, filter}
use Rattle.std.specs.Option.{option_copied}
use Rattle.dbtg_schema.specs.Lookups.{first}
use Rattle.dbtg_cells.specs.Keys.{has_type}
use Rattle.dbtg_cells.specs.Inside.Chain.{slot, read}
use Rattle.dbtg_cells.proofs.RingReads.{read_one, first_later}
use Rattle.dbtg_cells.proofs.links.first_along.Goals as goal

pub loop-turn-preserved : goal.loop-turn-preserved
loop-turn-preserved c =
    let d = c.args.direction in
    let slots = c.args.nodes.now.slots in
    let node = c.in-Some-get.node.now in
    let less = c.args.limit - (c.loop-turn.turn + 1) in
    let e : c.args.limit - c.loop-turn.turn ≡ suc less = omega (arith, c.loop-turn-test.true) in
    let there : slot slots c.in-Some.i ≡ Some node = sym c.get.ensures ∙ ap option_copied c.in-Some-get.is in
    let cut = read_one d _ less slots c.loop-turn.at c.in-Some.i node e c.in-Some.is there ∙ ap (λ at. node.member ∷ read d less slots at) (sym c.neighbour-at.ensures) in
    sym (first_later (has_type c.args.rtype.now) node.member (read d less slots c.neighbour-at.result) (sym c.if-has_type.ensures)) ∙ ap (λ l. first (filter (has_type c.args.rtype.now) (map (λ e. e.0) l))) (sym cut) ∙ c.loop-turn.invariant
