-- Which number is free, by a held extent.
-- t is a record type.
use Rattle.std.specs.Prelude.{ℕ, List, Option, option_map}
use Rattle.dbtg_schema.specs.Lookups.{first}
use Rattle.dbtg_cells.specs.declared.extent.Number.{Number}
use Rattle.dbtg_cells.specs.declared.key.DbKey.{DbKey}
use Rattle.dbtg_cells.specs.Numbers.{is_free, numbers_where}
use Rattle.dbtg_unit.specs.Hands.InHand.{next_key_of}

-- the key of a new record of type t: the least free number, in its next generation
abbrev pub fresh_key : List Number → ℕ → Option DbKey
fresh_key numbers t = option_map (next_key_of numbers t) (first (numbers_where is_free numbers))
