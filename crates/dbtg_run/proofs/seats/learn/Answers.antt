use Rattle.std.proofs.Common.{sym, subst}
use mathlib.Core.Option.{none}
use Rattle.atomic_table.specs.Table.{Allows, step}
use Rattle.dbtg_run.specs.Inside.LatchRule.{LatchRule, Learns, Sat}
use Rattle.dbtg_run.proofs.TheRule.Ends.{seat_learns}
use Rattle.dbtg_run.proofs.seats.learn.Goals as goal

pub load-requires : goal.load-requires
load-requires c =
    let top = c.args.top.now in let seat = c.args.seat.now in let live = c.requires.live in (
      c.requires.table.0,
      c.requires.table.1,
      subst (λ (y : Sat). Allows (LatchRule top.key) top.table_id.slots seat.id y 0 (λ n. n) (Learns (step top.table_id.slots 0 0 0 none) y)) (λ i. (sym live.1 i, seat.me.1)) (seat_learns top.key seat.id top.table_id.slots live.0 seat.me.1),
    )
