-- One unit after another: each makes its whole script before the next begins.
use Rattle.std.specs.Prelude.{ℕ, zero, suc, ◌≡◌, ◌++◌, List, [], ◌∷◌, map, length}
use Rattle.dbtg_schema.specs.Lists.{Lists}
use Rattle.dbtg_unit.specs.declared.statement.Statement.{Statement}
use Rattle.dbtg_unit.specs.declared.unit.Unit.{Unit}
use Rattle.dbtg_unit.specs.declared.unit.Entry.{Entry}
use Rattle.dbtg_unit.specs.Database.State.Image.{Image}
use Rattle.dbtg_unit.specs.Database.Laws.Replaying.{statements_of}
use Rattle.dbtg_step.specs.declared.results.Run.{Run}
use Rattle.dbtg_step.specs.Machine.SequentialDatabase.{SequentialDatabase}
use Rattle.dbtg_step.specs.Machine.Machine.{State, SequentialState}
use Rattle.dbtg_step.specs.Machine.Step.{MovedTo, IsIdle, step}
use Rattle.dbtg_step.specs.Machine.Network.{network}
use Rattle.dbtg_step.specs.Machine.Headline.{IsSequential, machine_of, opening_of}

-- WHAT A SERIAL RUN GIVES

-- the statements of these scripts, with the units that make them: all of the first script, which is unit u's, then all of the next
abbrev pub in_turn_from : ℕ → List (List Statement) → List (ℕ × Statement)
in_turn_from u [] = []
in_turn_from u (script ∷ scripts) = map (λ x. (u, x)) script ++ in_turn_from (suc u) scripts

-- every statement of every script is made, unit 1's before unit 2's and so on; and with it the headline holds
pub record IsSerialRun (schema : Lists) (capacity : ℕ) (scripts : List (List Statement)) (history : List Entry) (image : Image) (units : List Unit) : Type 0 where
  pub in_turn : statements_of history ≡ in_turn_from 1 scripts
  pub sequential : IsSequential schema capacity scripts history image units

-- the same for a run as it is handed out, which has no results
abbrev pub SerialRunIs : Lists → ℕ → List (List Statement) → Run → Type 0
SerialRunIs schema capacity scripts given = (given.results ≡ []) × IsSerialRun schema capacity scripts given.history given.image given.units

-- WHAT THE MACHINE DOES

module _ (D : SequentialDatabase) where
  -- unit u is stepped, each step an event, until its next step is idle: from s to r
  pub data IsSteppedOut (opening : SequentialState D) (u : ℕ) : State D → State D → Type 0 where
    AtRest : {s : State D} → step D opening s u ≡ IsIdle → IsSteppedOut opening u s s
    Onward : {s t r : State D} → step D opening s u ≡ MovedTo t → IsSteppedOut opening u t r → IsSteppedOut opening u s r

  -- units are stepped out one after another, from unit u on; the first number says how many
  unfoldable pub AreSteppedOut : SequentialState D → ℕ → ℕ → State D → State D → Type 0
  AreSteppedOut opening zero u s r = r ≡ s
  AreSteppedOut opening (suc m) u s r = (t : State D) × IsSteppedOut opening u s t × AreSteppedOut opening m (suc u) t r

-- stepping one unit after another leads the machine before these scripts to r
abbrev pub IsAfterScripts : (schema : Lists) (capacity : ℕ) → List (List Statement) → State (network schema capacity) → Type 0
IsAfterScripts schema capacity scripts r = AreSteppedOut (network schema capacity) (opening_of schema capacity (length scripts)) (length scripts) 1 (machine_of schema capacity scripts) r
