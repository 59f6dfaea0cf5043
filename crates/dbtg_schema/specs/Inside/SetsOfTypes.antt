-- The sets that are kept for each record type: those in which STORE connects its records, and those that it owns.
use Rattle.std.specs.Prelude.{ℕ, ◌≡◌, List, [], filter, length}
use Rattle.dbtg_schema.specs.Lists.{Lists}
use Rattle.dbtg_schema.specs.Inside.Lookups.{EachAt}
use Rattle.dbtg_schema.specs.Structure.{automatic_sets, owns, set_numbers}
use Rattle.dbtg_schema.specs.declared.shape.SetType.{SetType}
use Rattle.dbtg_schema.specs.declared.sets_of_type.SetsOfType.{SetsOfType}

-- a schema with these sets and nothing else: a type has the same part in it as in every schema with these sets
abbrev pub sets_alone : List SetType → Lists
sets_alone sets = record { name = []; areas = []; types = []; sets = sets }

-- the sets that record type t owns, in the order of the schema
abbrev pub owned_sets : Lists → ℕ → List ℕ
owned_sets schema t = filter (λ s. owns schema s t) (set_numbers schema)

-- the sets that are kept are those of record type t, in the order of the schema
abbrev pub AreSetsOf : Lists → ℕ → SetsOfType → Type 0
AreSetsOf schema t kept = (kept.automatic ≡ automatic_sets schema t) × (kept.owned ≡ owned_sets schema t)

-- they are kept for each record type, and `types` is how many there are
pub record AreSetsOfEach (each : List SetsOfType) (types : ℕ) (sets : List SetType) : Type 0 where
  pub many : length each ≡ types
  pub right : EachAt (AreSetsOf (sets_alone sets)) each
