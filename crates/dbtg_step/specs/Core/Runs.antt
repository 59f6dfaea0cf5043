-- What a core hands out at the end.
use Rattle.std.specs.Prelude.{◌≡◌, List, map, length}
use Rattle.dbtg_unit.specs.Database.State.Image.{image_of}
use Rattle.dbtg_unit.specs.Database.Laws.Replay.{opening_state, replay}
use Rattle.dbtg_step.specs.declared.results.Run.{Run}
use Rattle.dbtg_unit.specs.declared.moves.Stepped.{Stepped}
use Rattle.dbtg_step.specs.Core.Parts.{CoreParts}

-- what a core hands out with these results: the image of the database to which its history leads, its history and its units
pub record IsHandedOut (core : CoreParts) (results : List Stepped) (given : Run) : Type 0 where
  pub results_are : given.results ≡ results
  pub history_is : given.history ≡ core.history
  pub image_is : given.image ≡ image_of core.schema core.capacity (replay core.schema core.capacity (opening_state core.schema (length core.runners)) core.history).database
  pub units_are : given.units ≡ map (λ r. r.unit) core.runners
