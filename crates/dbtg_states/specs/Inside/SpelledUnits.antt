-- Units spelled as numbers.
use Rattle.std.specs.Prelude.{ℕ, List, ◌++◌}
use Rattle.dbtg_cells.specs.declared.key.DbKey.{DbKey}
use Rattle.dbtg_unit.specs.declared.unit.Place.{Place}
use Rattle.dbtg_unit.specs.declared.unit.Currency.{Currency}
use Rattle.dbtg_unit.specs.declared.unit.Unit as unit
use Rattle.dbtg_states.specs.Spelling.{key_numbers, list_numbers, mode_numbers, one_number, option_numbers, owner_numbers, pair_numbers}

-- for a current of a set its owner, and where it is
abbrev pub place_numbers : Place → List ℕ
place_numbers p = owner_numbers p.owner ++ option_numbers key_numbers p.at

-- for kept records each key, with the version
abbrev pub kept_numbers : List (DbKey × ℕ) → List ℕ
kept_numbers = list_numbers (pair_numbers key_numbers one_number)

-- for the currents those of the run-unit, of the record types, of the areas and of the sets
abbrev pub currency_numbers : Currency → List ℕ
currency_numbers c =
    option_numbers key_numbers c.run_unit ++ (list_numbers (option_numbers key_numbers) c.types
    ++ (list_numbers (option_numbers key_numbers) c.areas ++ list_numbers (option_numbers place_numbers) c.sets))

-- for a unit its number, its currents, its usage modes and what it keeps
abbrev pub unit_numbers : unit.Unit → List ℕ
unit_numbers u =
    one_number u.number ++ (currency_numbers u.currency ++ (list_numbers (option_numbers mode_numbers) u.modes ++ kept_numbers u.kept))
