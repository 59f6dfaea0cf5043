-- A word beside `Sources` that private functions and lemmas use.
use Rattle.std.specs.Prelude.{ℕ, ◌≡◌, ◌-◌, List, [], Some, slice_get, unwrap_or}
use Rattle.dbtg_command.specs.declared.order.Order.{Order}
use Rattle.dbtg_command.specs.declared.order.Order.TheVariants as by
use Rattle.dbtg_command.specs.declared.place.TextPlace.{TextPlace}
use Rattle.dbtg_command.specs.declared.place.TextPlace.TheVariants.{Schema, Script, Moves, Turns, Trace}

-- among a schema, scripts and moves or turns, this one is in this place; they are texts, or paths of files. A trace is given as the
-- first of the scripts
abbrev pub StandsIn : List ℕ → List (List ℕ) → Order (List ℕ) → TextPlace → List ℕ → Type 0
StandsIn schema scripts order Schema it = it ≡ schema
StandsIn schema scripts order (Script n) it = slice_get scripts (n - 1) ≡ Some it
StandsIn schema scripts order Moves it = order ≡ by.Moves it
StandsIn schema scripts order Turns it = order ≡ by.Turns it
StandsIn schema scripts order Trace it = it ≡ unwrap_or (slice_get scripts 0) []
