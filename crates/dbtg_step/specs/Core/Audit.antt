-- What an audit of a history says.
use Rattle.std.specs.Prelude.{ℕ, ◌≡◌, ◌&&◌, true, nat_lt, nat_le, List, Option, Some, None, map}
use Rattle.std.specs.Borrow.{Bor}
use Rattle.std.specs.List.{list_all}
use Rattle.dbtg_schema.specs.Lists.{Lists}
use Rattle.dbtg_unit.specs.declared.unit.Entry.{Entry}
use Rattle.dbtg_unit.specs.declared.unit.Unit.{Unit}
use Rattle.dbtg_unit.specs.Database.State.Image.{Image, image_of}
use Rattle.dbtg_unit.specs.Database.Statements.Fits.{fits}
use Rattle.dbtg_unit.specs.Database.Laws.Replay.{IsHistoryOf, TicketsInOrder, opening_state, replay}

-- the entries to which these lead
abbrev pub entries_at : List (Bor Entry) → List Entry
entries_at = map (λ entry. entry.now)

-- WHAT IT SAYS

-- the list is a history of the sequential database with this number of units, which it leads to this image and these units
pub record LeadsTo (schema : Lists) (capacity units : ℕ) (history : List Entry) (image : Image) (after : List Unit) : Type 0 where
  pub history_of : IsHistoryOf schema capacity units history
  pub image_is : image ≡ image_of schema capacity (replay schema capacity (opening_state schema units) history).database
  pub units_are : after ≡ (replay schema capacity (opening_state schema units) history).units

-- as far as a list shows by itself, it is a history with this number of units: its tickets are in order, each unit is one of them, and the statements fit
pub record MayBeHistory (schema : Lists) (units : ℕ) (history : List Entry) : Type 0 where
  pub tickets : TicketsInOrder history
  pub numbered : list_all (λ e. nat_lt 0 e.unit && nat_le e.unit units) history ≡ true
  pub fitting : list_all (λ e. fits schema e.statement) history ≡ true

-- what the list leads to, if it is such a history; none exactly if it is not
abbrev pub IsAudited : Lists → ℕ → ℕ → List Entry → Option (Image × List Unit) → Type 0
IsAudited schema capacity units history None = IsHistoryOf schema capacity units history → ⊥
IsAudited schema capacity units history (Some found) = LeadsTo schema capacity units history found.0 found.1
