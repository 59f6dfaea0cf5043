use Rattle.std.proofs.Common.{◌≡◌, ◌∷◌, take, map}
use Rattle.dbtg.proofs.timeline.names_of_files.Given as goal

abbrev pub invariant-loop-script : goal.invariant-loop-script
invariant-loop-script l = l.names.items ≡ l.schema ∷ map (λ s. s.now) (take l.script-index l.scripts)
