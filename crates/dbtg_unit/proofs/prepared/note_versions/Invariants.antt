use Rattle.std.proofs.Common.{◌≡◌, drop}
use Rattle.dbtg_unit.specs.Hands.Prepared.{renoted_at}
use Rattle.dbtg_unit.proofs.prepared.note_versions.Given as goal

abbrev pub invariant-loop-version : goal.invariant-loop-version
invariant-loop-version l =
    record l.unit { kept = renoted_at (drop l.version-index l.versions) l.unit.kept }
    ≡ record l.initial.unit { kept = renoted_at l.versions l.initial.unit.kept }
