-- Whether records still have the versions that are kept of them, by what cells show.
-- e is a record that a unit keeps, with the version that is kept of it.
use Rattle.std.specs.Prelude.{ℕ, Bool, false, ◌&&◌, ◌==◌, List}
use Rattle.dbtg_schema.specs.Lookups.{some_and}
use Rattle.dbtg_cells.specs.Shown.{CellValue, SlotValue}
use Rattle.dbtg_cells.specs.declared.key.DbKey.{DbKey}
use Rattle.dbtg_cells.specs.Keys.{key_below}
use Rattle.dbtg_unit.specs.Database.State.Legal.{pairwise}

-- the slot of the key's number has the record, with this version
abbrev pub shows_version : CellValue → DbKey × ℕ → Bool
shows_version (SlotValue slot) e = some_and (λ r. r.generation == e.0.generation && r.version == e.1) slot
shows_version _ e = false

-- the kept list is in key order
abbrev pub is_in_order : List (DbKey × ℕ) → Bool
is_in_order kept = pairwise (λ e f. key_below e.0 f.0) kept
