-- The owners of a record, where few sets have one.
use Rattle.std.specs.Prelude.{ℕ, List, Option, None, replicate, slice_set}
use Rattle.dbtg_cells.specs.declared.key.Owner.{Owner}
use Rattle.dbtg_cells.specs.declared.record_owners.Joined.{Joined}
use Rattle.dbtg_cells.specs.declared.record_owners.Joined.TheVariants.{Alone, Each}

-- no owner in any of this many sets, but this one in the set
abbrev pub alone : ℕ → ℕ → Option Owner → List (Option Owner)
alone sets set owner = slice_set (replicate sets None) set owner

-- the owners by set
abbrev pub owners_in : Joined → List (Option Owner)
owners_in (Alone sets set owner) = alone sets set owner
owners_in (Each row) = row
