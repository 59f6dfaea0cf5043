-- How a unit has an area open, as the code asks for it.
use Rattle.std.specs.Prelude.{Bool, not, Option, is_none, is_some}
use Rattle.dbtg_schema.specs.Lookups.{some_and}
use Rattle.dbtg_cells.specs.Modes.{is_update}
use Rattle.dbtg_cells.specs.declared.usage.Mode.{Mode}
use Rattle.dbtg_refusal.specs.declared.areas.Opening.{Opening}
use Rattle.dbtg_refusal.specs.declared.areas.Opening.TheVariants.{Open, NotOpen, NotUpdate}

-- the mode is what is asked for
abbrev pub passes : Opening → Option Mode → Bool
passes Open mode = is_some mode
passes NotOpen mode = is_none mode
passes NotUpdate mode = not (some_and is_update mode)
