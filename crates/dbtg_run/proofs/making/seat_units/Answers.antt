use Rattle.std.proofs.Common.{◌≡◌, ◌+◌, ◌<◌, refl, ap, ◌∙◌, arith}
use Rattle.atomic_table.specs.Seated.{TableId}
use Rattle.dbtg_run.specs.UnitView.{opening_view}
use Rattle.dbtg_run.proofs.Units.Made.{may_cut, cut_left, cut_one, one_left, views_more}
use Rattle.dbtg_run.proofs.making.seat_units.Goals as goal

pub cut_off-seat-requires-clause-some : goal.cut_off-seat-requires-clause-some
cut_off-seat-requires-clause-some c =
    let about = c.args.about.now in
    let i = c.loop-place.invariant in
    let inside : c.loop-place.place < about.units = (let t = c.loop-place-test.true in omega arith) in
    may_cut about c.loop-place.place inside c.loop-place.rest.me i.rest.1 c.args.board.now.shared.key c.requires.keyed

pub newcomer-requires-clause-seat : goal.newcomer-requires-clause-seat
newcomer-requires-clause-seat c =
    let about = c.args.about.now in
    let i = c.loop-place.invariant in
    let inside : c.loop-place.place < about.units = (let t = c.loop-place-test.true in omega arith) in
    cut_one about c.loop-place.place inside c.loop-place.rest.me i.rest.1 c.cut_off-seat.result.me (c.loop-place.place + 1) refl c.cut_off-seat.ensures.cut.1

pub loop-place-preserved : goal.loop-place-preserved
loop-place-preserved c =
    let about = c.args.about.now in
    let table = c.args.board.now.shared.table_id in
    let i = c.loop-place.invariant in let p = c.push_reserved.ensures in let cut = c.cut_off-seat.ensures in
    let inside : c.loop-place.place < about.units = (let t = c.loop-place-test.true in omega arith) in
    let new = c.in_ok-unit.ensures ∙ ap (λ (t : TableId). opening_view t about (c.loop-place.place + 1)) (cut.cut.0 ∙ i.rest.0) in
    record {
      rest = (cut.left.0 ∙ i.rest.0, cut_left about c.loop-place.place inside c.loop-place.rest.me i.rest.1 c.cut_off-seat.new.seat.me cut.left.2);
      made = views_more table about c.loop-place.place (c.loop-place.place + 1) c.loop-place.made.items c.push_reserved.new.self.items c.in_ok-unit.unit refl i.made new p.items;
      long = (let h = i.long in let q = p.len in omega arith);
      room = (let h = i.room in let q = p.capacity in omega arith);
      few = (i.few.0, (let t = c.loop-place-test.true in omega arith));
    }

pub newcomer-requires-2-clause-seat : goal.newcomer-requires-2-clause-seat
newcomer-requires-2-clause-seat c =
    let about = c.args.about.now in
    let i = c.loop-place.invariant in
    let last : about.units ≡ c.loop-place.place + 1 = (let t = c.loop-place-test.false in let f = i.few in omega arith) in
    let inside : c.loop-place.place < about.units = omega arith in
    one_left about c.loop-place.place inside c.loop-place.rest.me i.rest.1 about.units last refl

pub returns : goal.returns
returns c =
    let about = c.args.about.now in
    let table = c.args.board.now.shared.table_id in
    let i = c.loop-place.invariant in
    let last : about.units ≡ c.loop-place.place + 1 = (let t = c.loop-place-test.false in let f = i.few in omega arith) in
    let new = c.in_ok-unit-2.ensures ∙ ap (λ (t : TableId). opening_view t about about.units) i.rest.0 in
    views_more table about c.loop-place.place about.units c.loop-place.made.items c.push_reserved-2.new.self.items c.in_ok-unit-2.unit last i.made new c.push_reserved-2.ensures.items
