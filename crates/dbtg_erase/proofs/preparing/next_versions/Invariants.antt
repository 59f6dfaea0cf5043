use Rattle.std.proofs.Common.{◌≡◌, ◌+◌, ◌++◌, drop}
use Rattle.std.specs.Prelude.{map}
use Rattle.dbtg_unit.specs.Hands.InHand.{version_in}
use Rattle.dbtg_erase.proofs.preparing.next_versions.Given as goal

abbrev pub invariant-loop-key : goal.invariant-loop-key
invariant-loop-key l =
    l.versions ++ map (λ x. (x, version_in l.held x + 1)) (drop l.key-index l.keys) ≡ map (λ x. (x, version_in l.held x + 1)) l.keys
