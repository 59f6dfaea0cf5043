-- The currents of sets after a FIND or STORE, set by set.
use Rattle.std.specs.Prelude.{ℕ, List, Option, None, false, map, if◌then◌else◌}
use Rattle.std.specs.List.{enumerate_from}
use Rattle.dbtg_schema.specs.Lists.{Lists}
use Rattle.dbtg_schema.specs.Lookups.{at}
use Rattle.dbtg_schema.specs.Structure.{owns}
use Rattle.dbtg_cells.specs.declared.key.DbKey.{DbKey}
use Rattle.dbtg_cells.specs.declared.key.Owner.{Owner}
use Rattle.dbtg_unit.specs.declared.unit.Place.{Place}
use Rattle.dbtg_unit.specs.declared.statement.Suppress.{Suppress}
use Rattle.dbtg_unit.specs.Database.State.Units.{suppresses, seen_place}

-- for a set by its number, with its current before
abbrev pub seen_in_set : Lists → DbKey → List (Option Owner) → Suppress → ℕ × Option Place → Option Place
seen_in_set schema k owners suppress e = if suppresses suppress e.0 then e.1 else seen_place e.1 (owns schema e.0 k.rtype) k (at owners e.0)

-- for all sets
abbrev pub seen_in_each_set : Lists → DbKey → List (Option Owner) → Suppress → List (Option Place) → List (Option Place)
seen_in_each_set schema k owners suppress was = map (seen_in_set schema k owners suppress) (enumerate_from 0 was)

-- for a set in whose list k is, by its number, with its current before
abbrev pub seen_in_list : DbKey → List (Option Owner) → Suppress → ℕ × Option Place → Option Place
seen_in_list k owners suppress e = if suppresses suppress e.0 then e.1 else seen_place e.1 false k (at owners e.0)

-- for a set that the type of k owns, by its number, with its current before
abbrev pub seen_as_owner : Lists → DbKey → Suppress → ℕ × Option Place → Option Place
seen_as_owner schema k suppress e = if suppresses suppress e.0 then e.1 else seen_place e.1 (owns schema e.0 k.rtype) k None
