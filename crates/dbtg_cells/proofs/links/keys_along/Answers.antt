use Rattle.std.proofs.Common.{◌≡◌, ◌-◌, ◌+◌, ◌++◌, ◌∷◌, [], suc, sym, ap, ◌∙◌, arith, Some, map}
use Rattle.std.specs.Option.{option_copied}
use Rattle.dbtg_cells.specs.Inside.Chain.{slot, read}
use Rattle.dbtg_cells.proofs.RingReads.{read_one, read_none, read_vacant, keys_later, keys_end}
use Rattle.dbtg_cells.proofs.links.keys_along.Goals as goal

pub returns-in-None : goal.returns-in-None
returns-in-None c =
    keys_end _ _ _ c.loop-turn.invariant (read_none c.args.direction _ _ _ c.in-None.is)

pub returns-in-None-get : goal.returns-in-None-get
returns-in-None-get c =
    keys_end _ _ _ c.loop-turn.invariant (read_vacant c.args.direction _ _ _ c.in-Some.i c.in-Some.is (sym c.get.ensures ∙ ap option_copied c.in-None-get.is))

pub loop-turn-preserved : goal.loop-turn-preserved
loop-turn-preserved c =
    let d = c.args.direction in
    let slots = c.args.nodes.now.slots in
    let node = c.in-Some-get.node.now in
    let less = c.args.limit - (c.loop-turn.turn + 1) in
    let e : c.args.limit - c.loop-turn.turn ≡ suc less = omega (arith, c.loop-turn-test.true) in
    let there : slot slots c.in-Some.i ≡ Some node = sym c.get.ensures ∙ ap option_copied c.in-Some-get.is in
    let cut = read_one d _ less slots c.loop-turn.at c.in-Some.i node e c.in-Some.is there ∙ ap (λ at. node.member ∷ read d less slots at) (sym c.neighbour-at.ensures) in
    let it : c.push.new.self.items ≡ c.loop-turn.keys.items ++ node.member.0 ∷ [] = c.in_ok-push-in-Some-get.ensures.items in
    ap (λ ks. ks ++ map (λ e. e.0) (read d less slots c.neighbour-at.result)) it ∙ keys_later c.loop-turn.keys.items node.member (read d less slots c.neighbour-at.result) ∙ ap (λ l. c.loop-turn.keys.items ++ map (λ e. e.0) l) (sym cut) ∙ c.loop-turn.invariant
