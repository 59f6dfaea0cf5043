use Rattle.std.proofs.Common.{sym, subst}
use Rattle.atomic_table.specs.Table.{Splits}
use Rattle.dbtg_run.specs.declared.view.SeatKnowledge.{SeatKnowledge}
use Rattle.dbtg_run.specs.Inside.LatchRule.{LatchRule, one_of, others_of}
use Rattle.dbtg_run.proofs.TheRule.Ends.{splits}
use Rattle.dbtg_run.proofs.seats.cut_off.Goals as goal

pub split_seat-requires : goal.split_seat-requires
split_seat-requires c =
    let key = c.args.top.now.key in let s = c.requires.some in
    (c.requires.table.0, c.requires.table.1, subst (λ (v : SeatKnowledge). Splits (LatchRule key) c.args.seat.now.id v (others_of v) (one_of v)) (sym s.2) (splits key c.args.seat.now.id s.0 s.1))
