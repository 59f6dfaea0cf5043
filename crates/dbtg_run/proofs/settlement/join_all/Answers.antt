use Rattle.std.proofs.Common.{[], ◌∷◌, ap, arith, ◌∙◌}
use Rattle.dbtg_run.specs.Inside.Settling.{placed}
use Rattle.dbtg_run.specs.UnitView.{BelongsTo}
use Rattle.dbtg_run.proofs.Together.Joined.{all_less, first_joins, live_seat, lone_seat, next_joins, one_more}
use Rattle.dbtg_run.proofs.Together.Merged.{placed_more}
use Rattle.dbtg_run.proofs.settlement.join_all.Goals as goal

pub units-init : goal.units-init
units-init c =
    let b = all_less (BelongsTo c.args.db.now) c.pop.new.self.items c.args.units.items c.in-Some.first c.in-Some.ensures.items c.requires.belong in
    let s = c.into_parts-seat.ensures in record {
      table = s.table ∙ b.1.table;
      belong = b.0;
      joined = (c.in-Some.first ∷ [], c.in-Some.ensures.items, first_joins c.args.db.now.about c.in-Some.first c.into_parts-seat.result.0.me b.1.about s.numbered s.seat, c.place.ensures ∙ ap (placed c.args.slots.now) s.journal);
    }

pub join_to-requires-clause-tables : goal.join_to-requires-clause-tables
join_to-requires-clause-tables c =
    let i = c.units.invariant in
    let b = all_less (BelongsTo c.args.db.now) c.pop-in-units.new.self.items c.units.units.items c.in-Some-pop.unit c.in-Some-pop.ensures.items i.belong in
    (i.table, c.into_parts-other.ensures.table ∙ b.1.table, (let w = c.args.db.now.sized.words in omega arith))

pub join_to-requires-clause-live : goal.join_to-requires-clause-live
join_to-requires-clause-live c =
    let db = c.args.db.now in let j = c.units.invariant.joined in
    live_seat db.board.shared.key db.about j.0 c.units.seat.me db.keyed j.2

pub join_to-requires-clause-one : goal.join_to-requires-clause-one
join_to-requires-clause-one c =
    let db = c.args.db.now in
    let b = all_less (BelongsTo db) c.pop-in-units.new.self.items c.units.units.items c.in-Some-pop.unit c.in-Some-pop.ensures.items c.units.invariant.belong in
    lone_seat db.board.shared.key db.about c.in-Some-pop.unit c.into_parts-other.result.0.me db.keyed b.1.about c.into_parts-other.ensures.seat

pub units-preserved : goal.units-preserved
units-preserved c =
    let db = c.args.db.now in let i = c.units.invariant in let u = c.in-Some-pop.unit in let j = i.joined in
    let b = all_less (BelongsTo db) c.pop-in-units.new.self.items c.units.units.items u c.in-Some-pop.ensures.items i.belong in
    let s = c.into_parts-other.ensures in let e = c.join_to.ensures.joined in record {
      table = e.0 ∙ i.table;
      belong = b.0;
      joined = (
        u ∷ j.0,
        one_more c.args.units.items c.pop-in-units.new.self.items c.units.units.items j.0 u j.1 c.in-Some-pop.ensures.items,
        next_joins db.about u j.0 c.units.seat.me c.into_parts-other.result.0.me c.join_to.new.seat.me j.2 b.1.about s.numbered s.seat e.2,
        placed_more c.args.slots.now c.units.slots c.place-in-Some-pop.new.slots c.into_parts-other.result.1.items j.0 u j.3 c.place-in-Some-pop.ensures s.journal,
      );
    }
