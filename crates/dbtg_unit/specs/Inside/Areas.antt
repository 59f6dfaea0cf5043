-- The questions about the areas of a statement.
use Rattle.std.specs.Prelude.{ℕ, Bool, not, ◌==◌, is_none, List, Option}
use Rattle.dbtg_cells.specs.declared.usage.Mode.{Mode}
use Rattle.dbtg_schema.specs.Lookups.{at, some_and}
use Rattle.dbtg_unit.specs.Database.Statements.Checks.{is_update}
use Rattle.dbtg_unit.specs.declared.areas.Question.{Question}
use Rattle.dbtg_unit.specs.declared.areas.Question.TheVariants.{NotOpen, NotUpdate, Is}

-- the answer for area b of a unit with these modes
abbrev pub asks : List (Option Mode) → Question → ℕ → Bool
asks modes NotOpen b = is_none (at modes b)
asks modes NotUpdate b = not (some_and is_update (at modes b))
asks modes (Is a) b = b == a
