use Rattle.std.proofs.Common.{◌≡◌, ◌++◌, take}
use Rattle.std.specs.List.{flat_map}
use Rattle.dbtg_script.specs.Printing.Texts.{place_text}
use Rattle.dbtg_script.proofs.print.push_each_place.Given as goal

abbrev pub invariant-loop-place : goal.invariant-loop-place
invariant-loop-place l = l.out.items ≡ l.initial.out.items ++ flat_map (place_text l.schema) (take l.place-index l.places)
