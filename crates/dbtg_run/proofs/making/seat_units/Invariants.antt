use Rattle.std.proofs.Common.{◌≡◌, ◌+◌, ◌≤◌, [], vec_len, vec_capacity}
use Rattle.dbtg_run.specs.UnitView.{opening_views}
use Rattle.dbtg_run.proofs.Units.Made.{waiting}
use Rattle.dbtg_run.proofs.making.seat_units.Given as goal

-- the units of the lower places are made, and the first seat has the others
abbrev pub invariant-loop-place : goal.invariant-loop-place
invariant-loop-place l = record {
  rest : (l.rest.table_id ≡ l.board.shared.table_id) × (l.rest.me ≡ (waiting l.about l.place, []));
  made : l.made.items ≡ opening_views l.board.shared.table_id l.about l.place;
  long : vec_len l.made ≡ l.place;
  room : l.about.units ≤ vec_capacity l.made;
  few : (l.last + 1 ≡ l.about.units) × (l.place ≤ l.last);
}
