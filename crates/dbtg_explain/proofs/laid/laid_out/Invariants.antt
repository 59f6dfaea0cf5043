use Rattle.std.proofs.Common.{◌≡◌, ◌++◌, drop}
use Rattle.std.specs.List.{flat_map}
use Rattle.dbtg_explain.specs.FaultyWord.{apart}
use Rattle.dbtg_explain.proofs.laid.laid_out.Given as goal

abbrev pub invariant-loop-b : goal.invariant-loop-b
invariant-loop-b l = l.out.items ++ flat_map apart (drop l.b-index l.text) ≡ flat_map apart l.text
