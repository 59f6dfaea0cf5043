use Rattle.std.proofs.Common.{◌≡◌, drop}
use Rattle.std.specs.Prelude.{map}
use Rattle.std.specs.List.{enumerate_from}
use Rattle.dbtg_unit.specs.Inside.Seen.{seen_as_owner}
use Rattle.dbtg_unit.proofs.Database.Records.SetsSeen.{yet_to_see}
use Rattle.dbtg_unit.proofs.see.see_owned.Given as goal

abbrev pub invariant-loop-set : goal.invariant-loop-set
invariant-loop-set l = yet_to_see l.key l.suppress (drop l.set-index l.set-items) l.sets ≡ map (seen_as_owner l.schema l.key l.suppress) (enumerate_from 0 l.initial.sets)
