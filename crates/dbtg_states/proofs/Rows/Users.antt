-- Worked rows: who has an area open, whatever the order in which units opened it.
use Rattle.std.proofs.Common.{◌≡◌, refl, ℕ, List, [], ◌∷◌}
use Rattle.dbtg_cells.specs.declared.usage.Mode.{Mode}
use Rattle.dbtg_cells.specs.declared.usage.Mode.TheVariants.{Retrieval, Update}
use Rattle.dbtg_states.specs.Alike.{uses_of}
use Rattle.dbtg_states.specs.Users.{by_unit}

-- unit 2 opened the area first, or unit 1
abbrev second_first : List (ℕ × Mode)
second_first = (2, Update) ∷ (1, Retrieval) ∷ []

abbrev first_first : List (ℕ × Mode)
first_first = (1, Retrieval) ∷ (2, Update) ∷ []

-- each has it open in the same way
row_unit_one : uses_of 1 second_first ≡ uses_of 1 first_first
row_unit_one = refl

row_unit_two : uses_of 2 second_first ≡ (2, Update) ∷ []
row_unit_two = refl

-- a unit that does not have it open
row_unit_three : uses_of 3 second_first ≡ []
row_unit_three = refl

-- in the order of units
row_in_order : by_unit (1 ∷ 2 ∷ 3 ∷ []) second_first ≡ first_first
row_in_order = refl
