use Rattle.std.proofs.Common.{arith}
use Rattle.dbtg_explore.proofs.Ways.{climbs_on, way_from_turn}
use Rattle.dbtg_explore.proofs.way.way_to.Goals as goal

pub returns-then-ends_with : goal.returns-then-ends_with
returns-then-ends_with c =
    way_from_turn c.args.found.now.orders c.args.place c.loop-last.at c.loop-last.rest.items c.loop-last.invariant.0 c.args.turns.now c.in-Some.last _ c.in-Some.ensures.last (c.ends_with.ensures c.if-ends_with.true)
    (omega (arith, c.without_later-stay.ensures, c.loop-last.invariant.1)) c.requires.on c.reverse.ensures.items

pub loop-last-preserved : goal.loop-last-preserved
loop-last-preserved c = (
  climbs_on c.args.found.now.orders c.args.place c.loop-last.at c.loop-last.rest.items c.loop-last.invariant.0 c.in-Some.last c.push.new.self.items c.in-Some.ensures.last c.in_ok-push.ensures.items,
  omega (arith, c.without_later-stay.ensures, c.loop-last.invariant.1),
)
