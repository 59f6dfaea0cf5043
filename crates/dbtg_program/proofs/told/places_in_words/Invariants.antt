use Rattle.std.proofs.Common.{◌≡◌, ◌++◌, drop, map}
use Rattle.dbtg_program.specs.Told.{places_in_words}
use Rattle.dbtg_program.proofs.told.places_in_words.Given as goal

abbrev pub invariant-loop-place : goal.invariant-loop-place
invariant-loop-place l = map (λ thing. thing.now) l.list.items ++ places_in_words (drop l.place-index l.places) ≡ places_in_words l.places
