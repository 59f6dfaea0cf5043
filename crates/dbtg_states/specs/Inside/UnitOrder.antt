-- Images with the units that have an area open in the order of their numbers.
use Rattle.std.specs.Prelude.{ℕ, List, map}
use Rattle.dbtg_unit.specs.Database.State.Image.{Image}
use Rattle.dbtg_states.specs.Users.{by_unit}

-- an image with the units that have an area open in that order
abbrev pub in_unit_order : List ℕ → Image → Image
in_unit_order units image = record image { usage = map (by_unit units) image.usage }
