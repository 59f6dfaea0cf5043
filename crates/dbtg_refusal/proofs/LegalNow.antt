-- A database on which statements were made is legal.
use Rattle.std.proofs.Common.{◌≡◌, sym, subst}
use Rattle.dbtg_schema.specs.Lists.{Lists}
use Rattle.dbtg_schema.specs.Sound.{IsSound}
use Rattle.dbtg_unit.specs.Database.State.Legal.{Legal}
use Rattle.dbtg_unit.specs.Database.Laws.Replay.{IsHistoryOf, opening_state}
use Rattle.dbtg_unit.proofs.Public.{opening_is_legal, replay_keeps_legal}
use Rattle.dbtg_step.specs.Core.Whole.{Making, state_now}

pub legal_now : (schema : Lists) (m : Making) → IsSound schema → m.schema ≡ schema → IsHistoryOf m.schema m.capacity m.units m.history → Legal m.schema m.capacity (state_now m).database
legal_now schema m sound is history =
    (replay_keeps_legal m.schema m.capacity (opening_state m.schema m.units) m.history (subst IsSound (sym is) sound) (opening_is_legal m.schema m.capacity m.units) history.fitting).legal
