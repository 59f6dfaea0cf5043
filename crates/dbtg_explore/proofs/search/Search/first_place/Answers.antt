use Rattle.std.proofs.Common.{◌∙◌, ◌<◌, [], length, get_or, sym, arith}
use Rattle.std.proofs.lemmas.Bool.{false≢true}
use Rattle.dbtg_explore.specs.Orders.{history_of}
use Rattle.dbtg_explore.proofs.FirstFailures.{ahead_first, ahead_next, first_here}
use Rattle.dbtg_explore.proofs.Numbered.{numbered_low, state_at}
use Rattle.dbtg_explore.proofs.Said.{fails_is}
use Rattle.dbtg_explore.proofs.Visiting.{fails_unit}
use Rattle.dbtg_explore.proofs.search.Search.first_place.Goals as goal

pub loop-place-init : goal.loop-place-init
loop-place-init c = ahead_first c.args.meeting.now c.args.self.now.found.orders c.args.failure c.requires.there.0 c.requires.there.1 c.requires.there.2

pub number-requires : goal.number-requires
number-requires c =
    let s = c.args.self.now in
    numbered_low c.args.meeting.now s.numbers s.found.keys s.found.orders c.loop-place.place c.requires.at.known (omega (arith, c.loop-place-test.true, c.len-count.ensures))

pub has_failed-requires-clause-array : goal.has_failed-requires-clause-array
has_failed-requires-clause-array c =
    let s = c.args.self.now in
    (state_at c.args.meeting.now s.numbers s.found.keys s.found.orders c.loop-place.place c.number.result c.requires.at.known (omega (arith, c.loop-place-test.true, c.len-count.ensures)) c.number.ensures).number.is_array

pub has_failed-requires-clause-numbered : goal.has_failed-requires-clause-numbered
has_failed-requires-clause-numbered c = (fails_unit c.args.meeting.now c.requires.there.0 c.args.failure c.requires.there.2).0

pub loop-place-preserved : goal.loop-place-preserved
loop-place-preserved c =
    let m = c.args.meeting.now in
    let s = c.args.self.now in
    let i = c.loop-place.place in
    let f = c.args.failure in
    let low : i < length s.found.orders = omega (arith, c.loop-place-test.true, c.len-count.ensures) in
    let at = state_at m s.numbers s.found.keys s.found.orders i c.number.result c.requires.at.known low c.number.ensures in
    let unit = fails_unit m c.requires.there.0 f c.requires.there.2 in
    let is = fails_is m s.numbers (history_of m (get_or s.found.orders i [])) c.number.result at f.unit unit.0 unit.1 in
    ahead_next m s.found.orders f i c.loop-place.invariant (λ fails. false≢true (sym c.if-has_failed.false ∙ c.has_failed.ensures.1 (is ∙ fails)))

pub returns-then-has_failed : goal.returns-then-has_failed
returns-then-has_failed c =
    let m = c.args.meeting.now in
    let s = c.args.self.now in
    let i = c.loop-place.place in
    let f = c.args.failure in
    let low : i < length s.found.orders = omega (arith, c.loop-place-test.true, c.len-count.ensures) in
    let at = state_at m s.numbers s.found.keys s.found.orders i c.number.result c.requires.at.known low c.number.ensures in
    let unit = fails_unit m c.requires.there.0 f c.requires.there.2 in
    let is = fails_is m s.numbers (history_of m (get_or s.found.orders i [])) c.number.result at f.unit unit.0 unit.1 in
    first_here m s.found.orders f i c.loop-place.invariant low (sym is ∙ c.has_failed.ensures.0 c.if-has_failed.true)

pub returns : goal.returns
returns c =
    let h = c.loop-place.invariant in
    let from = h.from_here in
    let within = h.within in
    absurd (omega (arith, c.loop-place-test.false, c.len-count.ensures, from, within))
