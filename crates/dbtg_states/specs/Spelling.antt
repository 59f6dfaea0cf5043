-- Things spelled as numbers: the numbers tell things apart, and tell where each ends.
use Rattle.std.specs.Prelude.{ℕ, ◌≡◌, List, [], ◌∷◌, ◌++◌, Option, Some, None, length, flat_map}
use Rattle.dbtg_cells.specs.declared.key.DbKey.{DbKey}
use Rattle.dbtg_cells.specs.declared.key.Owner.{Owner}
use Rattle.dbtg_cells.specs.declared.key.Owner.TheVariants.{System, Rec}
use Rattle.dbtg_cells.specs.declared.key.Value.{Value}
use Rattle.dbtg_cells.specs.declared.key.Value.TheVariants.{Num, Text}
use Rattle.dbtg_cells.specs.declared.usage.Mode.{Mode}
use Rattle.dbtg_cells.specs.declared.usage.Mode.TheVariants as mode

-- whatever is spelled after two things: if all is spelled alike, the things are equal, and so is what follows them
abbrev pub Apart : {X : Type 0} → (X → List ℕ) → Type 0
Apart {X} numbers = (x y : X) (a b : List ℕ) → numbers x ++ a ≡ numbers y ++ b → (x ≡ y) × (a ≡ b)

-- a number is spelled as itself
abbrev pub one_number : ℕ → List ℕ
one_number n = n ∷ []

-- None is a 0; a 1 comes before anything else
abbrev pub option_numbers : {X : Type 0} → (X → List ℕ) → Option X → List ℕ
option_numbers numbers None = 0 ∷ []
option_numbers numbers (Some x) = 1 ∷ numbers x

-- for a pair the first part, then the second
abbrev pub pair_numbers : {X Y : Type 0} → (X → List ℕ) → (Y → List ℕ) → X × Y → List ℕ
pair_numbers f g p = f p.0 ++ g p.1

-- the number of items comes before them
abbrev pub list_numbers : {X : Type 0} → (X → List ℕ) → List X → List ℕ
list_numbers numbers xs = length xs ∷ flat_map numbers xs

-- for a key its record type, its number and its generation
abbrev pub key_numbers : DbKey → List ℕ
key_numbers k = k.rtype ∷ k.number ∷ k.generation ∷ []

-- SYSTEM is a 0; a 1 comes before the key of a record
abbrev pub owner_numbers : Owner → List ℕ
owner_numbers System = 0 ∷ []
owner_numbers (Rec k) = 1 ∷ key_numbers k

-- the number of a usage mode
abbrev pub mode_number : Mode → ℕ
mode_number mode.Retrieval = 0
mode_number mode.Update = 1
mode_number mode.ProtectedRetrieval = 2
mode_number mode.ProtectedUpdate = 3
mode_number mode.ExclusiveRetrieval = 4
mode_number mode.ExclusiveUpdate = 5

-- a usage mode is spelled as its number
abbrev pub mode_numbers : Mode → List ℕ
mode_numbers m = mode_number m ∷ []

-- a 0 comes before a number, a 1 before a text
abbrev pub value_numbers : Value → List ℕ
value_numbers (Num n) = 0 ∷ n ∷ []
value_numbers (Text t) = 1 ∷ list_numbers one_number t
