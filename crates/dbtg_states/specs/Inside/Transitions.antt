-- What looks say of the parts of a state, before and after a statement.
-- p and q are the parts of states, l is a look, i a place in an array, s and t are transitions.
use Rattle.std.specs.Prelude.{ℕ, ◌≡◌, ◌==◌, ◌+◌, ◌-◌, ◌<◌, Bool, false, List, Option, Some, option_map, slice_get, All, Contains, nat_lt, length, ◌⊎◌, if◌then◌else◌}
use Rattle.std.specs.List.{list_any}
use Rattle.dbtg_cells.specs.CellNumbers.{cells_in_order}
use Rattle.dbtg_states.specs.declared.transitions.Look.{Look}
use Rattle.dbtg_states.specs.declared.transitions.Transition.{Transition}
use Rattle.dbtg_states.specs.Parts.{Parts}

-- PLACES

-- what the part at a place says: the units come first, then the cells in their order
abbrev pub part_at : Parts → ℕ → Option (List ℕ)
part_at p i = if nat_lt i p.count then Some (p.unit (i + 1)) else option_map p.cell (slice_get (cells_in_order p.schema p.capacity) (i - p.count))

abbrev pub is_looked_at : List Look → ℕ → Bool
is_looked_at looks i = list_any (λ l. l.place == i) looks

-- LOOKS

-- each part says what it said when it was looked at
abbrev pub SayBefore : List (List ℕ) → Parts → List Look → Type 0
SayBefore contents p looks = All (λ l. slice_get contents l.before ≡ part_at p l.place) looks

-- the parts that were looked at say what they said after; the others say what they said
pub record Follow (contents : List (List ℕ)) (p q : Parts) (looks : List Look) : Type 0 where
  pub seen : All (λ l. slice_get contents l.after ≡ part_at q l.place) looks
  pub unseen : (i : ℕ) → is_looked_at looks i ≡ false → part_at q i ≡ part_at p i

-- it is of one of this many parts, and its numbers are those of contents
pub record IsLook (parts : ℕ) (contents : List (List ℕ)) (l : Look) : Type 0 where
  pub place : l.place < parts
  pub before : l.before < length contents
  pub after : l.after < length contents

-- ENTERED

-- each of the new ones is an old one, or this one
abbrev pub AddsAtMost : List Transition → Transition → List Transition → Type 0
AddsAtMost old t new = (s : Transition) → Contains new s → Contains old s ⊎ (s ≡ t)
