use Rattle.std.proofs.Common.{◌≡◌, List, ◌++◌, All, vec_len}
use Rattle.dbtg_run.specs.UnitView.{BelongsTo, UnitView}
use Rattle.dbtg_run.specs.Inside.Settling.{HaveJoined, entries_from_last, placed}
use Rattle.dbtg_run.proofs.settlement.join_all.Given as goal

abbrev pub invariant-units : goal.invariant-units
invariant-units l = record {
  table : l.seat.table_id ≡ l.db.board.shared.table_id;
  belong : All (BelongsTo l.db) l.units.items;
  joined : (came : List UnitView) × (l.fn.units.items ≡ l.units.items ++ came) × HaveJoined l.db.about came l.seat.me × (l.slots ≡ placed l.fn.slots (entries_from_last came));
}

abbrev pub decreases-units : goal.decreases-units
decreases-units l = vec_len l.units
