use Rattle.std.proofs.Common.{sym, ap, subst}
use Rattle.atomic_table.specs.Table.{Joins}
use Rattle.dbtg_run.specs.declared.view.SeatKnowledge.{SeatKnowledge}
use Rattle.dbtg_run.specs.Inside.LatchRule.{LatchRule, Sat, gathered, vacated}
use Rattle.dbtg_run.proofs.TheRule.Ends.{joins}
use Rattle.dbtg_run.proofs.seats.join_to.Goals as goal

pub join_seat-requires : goal.join_seat-requires
join_seat-requires c =
    let key = c.args.top.now.key in let live = c.requires.live in let one = c.requires.one in (
      c.requires.tables.0,
      c.requires.tables.1,
      ap (λ (y : Sat). y.1) one.1,
      c.requires.tables.2,
      subst (λ (t : SeatKnowledge × SeatKnowledge). Joins (LatchRule key) c.args.seat.now.id t.0 c.args.other.id t.1 (gathered t.0 t.1) vacated) (λ i. (sym live.1 i, (sym one.1 i).0)) (joins key c.args.seat.now.id c.args.other.id one.0 live.0),
    )
