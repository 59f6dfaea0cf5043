-- A word beside `Staff` that private functions and lemmas use.
use Rattle.std.specs.Prelude.{ℕ, ◌≢◌, List, []}
use Rattle.dbtg_unit.specs.Database.Laws.Replay.{entries_of}
use Rattle.dbtg_run.specs.declared.settled.Settled.{Settled}
use Rattle.inventory_clerks.specs.declared.order.Order.{Order}
use Rattle.inventory_clerks.specs.Orders.{AreFilled}

-- the history has the entries of two units: those of one fill all orders of the first clerk, each by entries of its own, and those of
-- the other fill all orders of the second
pub record HaveFilled (firsts seconds : List Order) (settled : Settled) : Type 0 where
  pub one : ℕ
  pub other : ℕ
  pub apart : one ≢ other
  pub by_one : AreFilled [] (entries_of one settled.history) firsts
  pub by_other : AreFilled [] (entries_of other settled.history) seconds
