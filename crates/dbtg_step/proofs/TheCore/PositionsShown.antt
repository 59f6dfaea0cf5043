-- What is read of a unit is read of its state of the machine.
use Rattle.std.proofs.Common.{◌≡◌, ℕ, zero, suc, List, [], ◌∷◌, map, slice_get, refl}
use Rattle.std.specs.Prelude.{option_map}
use Rattle.dbtg_schema.specs.Lists.{Lists}
use Rattle.dbtg_unit.specs.declared.unit.Entry.{Entry}
use Rattle.dbtg_step.specs.declared.parts.CellLocation.{CellLocation}
use Rattle.dbtg_step.specs.declared.parts.UnitState.{UnitState as CoreUnit}
use Rattle.dbtg_step.specs.Machine.Machine.{UnitState}
use Rattle.dbtg_step.specs.Machine.SequentialDatabase.{unit_at}
use Rattle.dbtg_step.specs.Machine.Network.{network}
use Rattle.dbtg_step.specs.Core.Parts.{state_from, unit_state_of}

module _ (schema : Lists) (capacity : ℕ) {X : Type 0} (read : UnitState (network schema capacity) → X) where
  pub read_of_unit : (u : ℕ) (table : List CellLocation) (history : List Entry) (runners : List CoreUnit)
      → option_map (λ (x : CoreUnit). read (unit_state_of schema capacity x)) (unit_at runners u) ≡ option_map read (unit_at (state_from schema capacity table history runners).units u)
  unfolding state_from unit_at
  read_of_unit zero table history runners = refl
  read_of_unit (suc i) table history runners = by runners i
    where
      by : (rs : List CoreUnit) (i : ℕ)
          → option_map (λ (x : CoreUnit). read (unit_state_of schema capacity x)) (slice_get rs i) ≡ option_map read (slice_get (map (unit_state_of schema capacity) rs) i)
      by [] i = refl
      by (r ∷ rs) zero = refl
      by (r ∷ rs) (suc i) = by rs i
