-- States with the same essence go on alike, whatever turns follow.
use Rattle.std.proofs.Common.{◌≡◌, ℕ, List}
use Rattle.dbtg_unit.specs.declared.unit.Entry.{Entry}
use Rattle.dbtg_explore.specs.Laws.{StandAlike}
use Rattle.dbtg_explore.specs.Orders.{Meeting, after_order}
use Rattle.dbtg_explore.specs.States.{essence, state_after}
use Rattle.dbtg_explore.proofs.Alike.{answer_alike, can_turn_alike, due_alike, order_alike}
use Rattle.dbtg_explore.proofs.Keyed.{same_text}

stand_alike : (m : Meeting) (history other : List Entry) → essence m (state_after m history) ≡ essence m (state_after m other) → StandAlike m history other
stand_alike m history other e = record {
  turns = λ u. can_turn_alike m history other u e;
  statements = λ u. due_alike m history other u e;
  answers = λ u. answer_alike m history other u e;
  alike = e;
  text = same_text m (state_after m history) (state_after m other) e;
}

pub essence_is_all : (m : Meeting) (history other : List Entry) (turns : List ℕ) → essence m (state_after m history) ≡ essence m (state_after m other) → StandAlike m (after_order m history turns) (after_order m other turns)
essence_is_all m history other turns e = stand_alike m (after_order m history turns) (after_order m other turns) (order_alike m history other turns e)
