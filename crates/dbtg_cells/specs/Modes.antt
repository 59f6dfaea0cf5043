-- Which usage modes conflict.
use Rattle.std.specs.Prelude.{Bool, true, false, ◌&&◌, ◌||◌}
use Rattle.dbtg_cells.specs.declared.usage.Mode.{Mode}
use Rattle.dbtg_cells.specs.declared.usage.Mode.TheVariants.{Retrieval, Update, ProtectedRetrieval, ProtectedUpdate, ExclusiveRetrieval, ExclusiveUpdate}

-- the modes in which records may be changed
abbrev pub is_update : Mode → Bool
is_update Retrieval = false
is_update Update = true
is_update ProtectedRetrieval = false
is_update ProtectedUpdate = true
is_update ExclusiveRetrieval = false
is_update ExclusiveUpdate = true

-- the modes that allow no other mode beside them
abbrev pub is_exclusive : Mode → Bool
is_exclusive ExclusiveRetrieval = true
is_exclusive ExclusiveUpdate = true
is_exclusive _ = false

-- the modes that allow no update mode beside them
abbrev pub is_protected : Mode → Bool
is_protected ProtectedRetrieval = true
is_protected ProtectedUpdate = true
is_protected _ = false

-- either is exclusive, or one is protected and the other is an update mode
abbrev pub conflict : Mode → Mode → Bool
conflict a b = is_exclusive a || is_exclusive b || (is_protected a && is_update b) || (is_protected b && is_update a)
