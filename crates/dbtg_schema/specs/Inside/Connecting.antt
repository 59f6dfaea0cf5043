-- The sets in which STORE connects a record of a type, marked by their numbers.
use Rattle.std.specs.Prelude.{ℕ, ◌≡◌, Bool, List}
use Rattle.dbtg_schema.specs.Lists.{Lists}
use Rattle.dbtg_schema.specs.Lookups.{some_and}
use Rattle.dbtg_schema.specs.Inside.Lookups.{EachAt}
use Rattle.dbtg_schema.specs.Structure.{member_clause, is_automatic}
use Rattle.dbtg_schema.specs.Erasing.{marked}

-- STORE connects a record of type t in set s
abbrev pub connects_in : Lists → ℕ → ℕ → Bool
connects_in schema s t = some_and (λ m. is_automatic m.class) (member_clause schema s t)

-- the sets that are marked are those in which STORE connects a record of type t
unfoldable pub AreConnecting : Lists → ℕ → List Bool → Type 0
AreConnecting schema t marks = (s : ℕ) → marked marks s ≡ connects_in schema s t

-- they are marked for each record type, from number 0 on, as far as the list goes
abbrev pub AreConnectingOfEach : List (List Bool) → Lists → Type 0
AreConnectingOfEach each schema = EachAt (AreConnecting schema) each
