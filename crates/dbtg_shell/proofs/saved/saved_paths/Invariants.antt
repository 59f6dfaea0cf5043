use Rattle.std.proofs.Common.{◌≡◌, map}
use Rattle.std.specs.Prelude.{string_bytes}
use Rattle.dbtg_shell.specs.Inside.Saved.{script_paths}
use Rattle.dbtg_shell.proofs.saved.saved_paths.Given as goal

abbrev pub invariant-loop-i : goal.invariant-loop-i
invariant-loop-i l = map string_bytes l.paths.items ≡ script_paths l.directory l.i
