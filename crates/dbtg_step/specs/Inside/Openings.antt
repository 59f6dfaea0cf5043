-- What a core keeps when it is opened.
use Rattle.std.specs.Prelude.{ℕ, suc, List, [], ◌∷◌, None, Some, length, map, replicate}
use Rattle.dbtg_schema.specs.Lists.{Lists}
use Rattle.dbtg_cells.specs.declared.key.Owner.TheVariants.{System}
use Rattle.dbtg_cells.specs.declared.name.CellName.{CellName}
use Rattle.dbtg_cells.specs.declared.name.CellName.TheVariants.{Usage, Extent, Ring, Slot}
use Rattle.dbtg_cells.specs.Shown.{CellValue, UsageValue, ExtentValue, RingValue, SlotValue}
use Rattle.dbtg_unit.specs.declared.statement.Statement.{Statement}
use Rattle.dbtg_unit.specs.Database.State.Units.{opening_unit}
use Rattle.dbtg_step.specs.declared.parts.UnitState.{UnitState}
use Rattle.dbtg_step.specs.Machine.Machine.{CellLocation, Home}

-- what the cell of a name shows in the opening database
abbrev pub opening_value : ℕ → CellName → CellValue
opening_value capacity (Usage a) = UsageValue []
opening_value capacity (Extent t) = ExtentValue (replicate capacity (record { last = 0; calc = None }))
opening_value capacity (Ring s None) = RingValue (Some (record { owner = System; members = [] }))
opening_value capacity (Ring s (Some p)) = RingValue None
opening_value capacity (Slot t n) = SlotValue None

-- the cells of these names at home
abbrev pub homes_opened : ℕ → List CellName → List (CellLocation CellValue)
homes_opened capacity = map (λ c. Home (opening_value capacity c))

-- a unit that stands before its script
abbrev pub opening_runner : Lists → ℕ → List Statement → UnitState
opening_runner schema n script = record {
  unit = opening_unit schema n;
  held = record { areas = []; cells = []; guesses = replicate (length schema.sets) None };
  script = script;
  next = 0;
  progress = None;
  course = None;
}

-- units that stand before their scripts, the first of them with number n
abbrev pub runners_from : Lists → ℕ → List (List Statement) → List UnitState
runners_from schema n [] = []
runners_from schema n (script ∷ scripts) = opening_runner schema n script ∷ runners_from schema (suc n) scripts
