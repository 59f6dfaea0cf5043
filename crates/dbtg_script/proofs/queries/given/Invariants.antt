use Rattle.std.proofs.Common.{◌≡◌, drop}
use Rattle.dbtg_script.specs.Labels.{given}
use Rattle.dbtg_script.specs.Inside.Views.{views}
use Rattle.dbtg_script.proofs.queries.given.Given as goal

abbrev pub invariant-loop-i : goal.invariant-loop-i
invariant-loop-i l = given l.name (views (drop l.i l.words)) ≡ given l.name (views l.words)
