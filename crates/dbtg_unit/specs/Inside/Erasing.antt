-- A word beside `Erasing` that private functions and lemmas use.
use Rattle.std.specs.Prelude.{ℕ, List, Option}
use Rattle.dbtg_schema.specs.Lists.{Lists}
use Rattle.dbtg_cells.specs.declared.key.DbKey.{DbKey}
use Rattle.dbtg_unit.specs.declared.statement.Erase.{Erase}
use Rattle.dbtg_unit.specs.Database.State.Base.{Database}
use Rattle.dbtg_unit.specs.Hands.Erasing.{brought_from, taken_with}

-- the list after its key d, by what the option takes
abbrev pub spread_from : Lists → ℕ → Database → Erase → List DbKey → Option DbKey → List DbKey
spread_from schema capacity db option order d = brought_from (taken_with schema capacity db option) order d
