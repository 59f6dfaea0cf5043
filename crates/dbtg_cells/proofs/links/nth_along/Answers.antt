use Rattle.std.proofs.Common.{◌≡◌, ◌∷◌, subst, ◌-◌, ◌+◌, ◌<◌, ◌≤◌, suc, sym, ap, ◌∙◌, arith, Some, map, filter, slice_get, cond}
use Rattle.std.specs.Option.{option_copied}
use Rattle.dbtg_cells.specs.Keys.{has_type}
use Rattle.dbtg_cells.specs.Inside.Chain.{slot, neighbour, read}
use Rattle.dbtg_cells.proofs.RingReads.{read_one, nth_here, nth_later}
use Rattle.dbtg_cells.proofs.links.nth_along.Goals as goal

pub returns-then-left-counted : goal.returns-then-left-counted
returns-then-left-counted c =
    let d = c.args.direction in
    let slots = c.args.nodes.now.slots in
    let node = c.in-Some-get.node.now in
    let less = c.args.limit - (c.loop-turn.turn + 1) in
    let e : c.args.limit - c.loop-turn.turn ≡ suc less = omega (arith, c.loop-turn-test.true) in
    let there : slot slots c.in-Some.i ≡ Some node = sym c.get.ensures ∙ ap option_copied c.in-Some-get.is in
    let cut = read_one d _ less slots c.loop-turn.at c.in-Some.i node e c.in-Some.is there in
    nth_here (has_type c.args.rtype.now) node.member (read d less slots (neighbour d node)) c.loop-turn.left (subst (λ m. c.loop-turn.left < m) c.count_of-counted.ensures c.if-left-counted.true) ∙ ap (λ l. slice_get (filter (has_type c.args.rtype.now) (map (λ e. e.0) l)) c.loop-turn.left) (sym cut) ∙ c.loop-turn.invariant

pub loop-turn-preserved : goal.loop-turn-preserved
loop-turn-preserved c =
    let d = c.args.direction in
    let slots = c.args.nodes.now.slots in
    let node = c.in-Some-get.node.now in
    let less = c.args.limit - (c.loop-turn.turn + 1) in
    let e : c.args.limit - c.loop-turn.turn ≡ suc less = omega (arith, c.loop-turn-test.true) in
    let there : slot slots c.in-Some.i ≡ Some node = sym c.get.ensures ∙ ap option_copied c.in-Some-get.is in
    let cut = read_one d _ less slots c.loop-turn.at c.in-Some.i node e c.in-Some.is there ∙ ap (λ at. node.member ∷ read d less slots at) (sym c.neighbour-at.ensures) in
    let t = has_type c.args.rtype.now in
    let rest = read d less slots c.neighbour-at.result in
    let enough : cond (t node.member.0) 1 0 ≤ c.loop-turn.left = omega (arith, c.if-left-counted.false, c.count_of-counted.ensures) in
    ap (λ m. slice_get (filter t (map (λ e. e.0) rest)) (c.loop-turn.left - m)) c.count_of-counted.ensures
    ∙ sym (nth_later t node.member rest c.loop-turn.left enough)
    ∙ ap (λ l. slice_get (filter t (map (λ e. e.0) l)) c.loop-turn.left) (sym cut) ∙ c.loop-turn.invariant
