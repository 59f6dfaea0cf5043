use Rattle.std.proofs.Common.{◌≡◌, ◌<◌, ◌∙◌, ap, sym, length, take, arith}
use Rattle.std.proofs.lemmas.List.{take_all}
use Rattle.dbtg_explore.proofs.Walks.{one_less_left}
use Rattle.dbtg_explore.proofs.walk.Walk.take_back_to.Goals as goal

pub loop-self-init : goal.loop-self-init
loop-self-init c = (λ m h. h, c.requires.within, sym (take_all (length c.args.self.now.turns.items) c.args.self.now.turns.items (omega arith)))

pub take_back-requires : goal.take_back-requires
take_back-requires c = (c.requires.stands.0, c.loop-self.invariant.0 c.requires.stands.0 c.requires.stands.1)

pub loop-self-preserved : goal.loop-self-preserved
loop-self-preserved c =
    let some : c.args.count < length c.loop-self.self.turns.items = omega (arith, c.loop-self-test.true, c.len.ensures) in
    let less = one_less_left c.args.self.now.turns.items c.loop-self.self.turns.items c.take_back.new.self.turns.items (omega (arith, some)) c.loop-self.invariant.2 c.take_back.ensures.turns in
    (λ m h. c.take_back.ensures.stands m (c.loop-self.invariant.0 m h), omega (arith, some, less.0), less.1)

pub loop-self-smaller : goal.loop-self-smaller
loop-self-smaller c =
    let some : c.args.count < length c.loop-self.self.turns.items = omega (arith, c.loop-self-test.true, c.len.ensures) in
    let less = one_less_left c.args.self.now.turns.items c.loop-self.self.turns.items c.take_back.new.self.turns.items (omega (arith, some)) c.loop-self.invariant.2 c.take_back.ensures.turns in
    omega (arith, some, less.0)

pub returns-clause-turns : goal.returns-clause-turns
returns-clause-turns c =
    let few : length c.loop-self.self.turns.items ≡ c.args.count = omega (arith, c.loop-self-test.false, c.len.ensures, c.loop-self.invariant.1) in
    c.loop-self.invariant.2 ∙ ap (λ n. take n c.args.self.now.turns.items) few
