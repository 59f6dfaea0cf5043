-- What a meeting comes to: its results, told apart by what is printed of them but for versions, and how its programs fail.
-- m is a meeting, u a unit, o and r are orders.
use Rattle.std.specs.Prelude.{ℕ, ◌≡◌, List, [], ◌∷◌, ◌++◌, Some, Bool, true, false, Contains, length, map}
use Rattle.std.specs.List.{range_with_len}
use Rattle.dbtg_script.specs.Printing.Texts.{run_text}
use Rattle.dbtg_unit.specs.Database.State.Image.{image_of}
use Rattle.dbtg_program.specs.declared.program.End.{End}
use Rattle.dbtg_program.specs.declared.program.End.TheVariants.{Stop, Assert, Size, Astray}
use Rattle.dbtg_program.specs.States.{ProgramState}
use Rattle.dbtg_program.specs.Going.{Due, due, ended}
use Rattle.dbtg_step.specs.Machine.SequentialDatabase.{unit_at}
use Rattle.dbtg_going.specs.declared.member.Reached.{Reached}
use Rattle.dbtg_going.specs.declared.member.Standing.{Standing}
use Rattle.dbtg_going.specs.declared.member.Standing.TheVariants.{Ended, GoesOn}
use Rattle.dbtg_going.specs.Texts.{programs_text}
use Rattle.dbtg_going.specs.Turns.{state_in}
use Rattle.dbtg_states.specs.Users.{by_unit}
use Rattle.dbtg_explore.specs.declared.explored.Failure.{Failure}
use Rattle.dbtg_explore.specs.declared.explored.FirstFailure.{FirstFailure}
use Rattle.dbtg_explore.specs.Orders.{IsBefore, IsEnd, IsLower, IsNoLater, IsOrder, Meeting}
use Rattle.dbtg_explore.specs.Pairwise.{ArePairwise}
use Rattle.dbtg_explore.specs.States.{MeetingState, state_of, without_versions}

-- how a program stands for which this is due. It is never spent: how many statements its unit has made does not matter here
abbrev pub standing_of : Due → Standing
standing_of (ended at how) = Ended how
standing_of (due at s) = GoesOn

-- how far it is
abbrev pub reached_of : Due → Reached
reached_of d = record { standing = standing_of d; state = state_in d }

-- what is printed of a state after `--`, except that the units that have an area open are in the order of their numbers
abbrev pub state_text : Meeting → MeetingState → List ℕ
state_text m state =
    let image = image_of m.schema m.capacity state.sequential.database in
    run_text m.schema [] image.records image.lists image.next (map (by_unit (range_with_len 1 (length m.programs))) image.usage) state.sequential.units
    ++ programs_text 1 m.programs (map reached_of state.programs)

-- what tells the result of an order from others: this text, but without versions. Of a kept record it has 1 for the version if the record
-- still has it, and 0 otherwise
abbrev pub result_text : Meeting → List ℕ → List ℕ
result_text m order = state_text m (without_versions (state_of m order))

-- all results, by the first order to each: every order that comes to an end has the text of a result that is no later; no two have the
-- same text; and they are in order
pub record AreResults (m : Meeting) (results : List (List ℕ)) : Type 0 where
  pub ends : (r : List ℕ) → Contains results r → IsEnd m r
  pub all : (o : List ℕ) → IsEnd m o → (r : List ℕ) × Contains results r × (result_text m r ≡ result_text m o) × IsNoLater r o
  pub once : ArePairwise (λ r q. result_text m r ≡ result_text m q → ⊥) results
  pub in_order : ArePairwise IsBefore results

-- FAILURES

-- an end other than by STOP
abbrev pub is_failure : End → Bool
is_failure Stop = false
is_failure (Assert line) = true
is_failure (Size line) = true
is_failure (Astray line) = true

-- after this order the program of the unit has ended in this way, which is a failure
pub record FailsAfter (m : Meeting) (order : List ℕ) (f : Failure) : Type 0 where
  pub is_order : IsOrder m order
  pub state : ProgramState
  pub ended_is : unit_at (state_of m order).programs f.unit ≡ Some (ended state f.how)
  pub is_failure_is : is_failure f.how ≡ true

-- the line of an end, and after it the number of its kind
abbrev pub end_numbers : End → List ℕ
end_numbers Stop = 0 ∷ 0 ∷ []
end_numbers (Assert line) = line ∷ 1 ∷ []
end_numbers (Size line) = line ∷ 2 ∷ []
end_numbers (Astray line) = line ∷ 3 ∷ []

-- one failure comes before another: by unit, then by line
abbrev pub FailsBefore : Failure → Failure → Type 0
FailsBefore f g = IsLower (f.unit ∷ end_numbers f.how) (g.unit ∷ end_numbers g.how)

-- all failures in order, each once, with the first order to it: every order that leads to a failure is no earlier
pub record AreFailures (m : Meeting) (failures : List FirstFailure) : Type 0 where
  pub fail : (f : FirstFailure) → Contains failures f → FailsAfter m f.turns f.failure
  pub all : (f : Failure) (o : List ℕ) → FailsAfter m o f → (g : FirstFailure) × Contains failures g × (g.failure ≡ f) × IsNoLater g.turns o
  pub in_order : ArePairwise (λ f g. FailsBefore f.failure g.failure) failures
