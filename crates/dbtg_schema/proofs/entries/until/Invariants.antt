use Rattle.std.proofs.Common.{◌≡◌, ◌++◌, drop, take}
use Rattle.dbtg_schema.specs.Texts.Labels.{until}
use Rattle.dbtg_schema.specs.Inside.Views.{views}
use Rattle.dbtg_schema.proofs.entries.until.Given as goal

abbrev pub invariant-loop-i : goal.invariant-loop-i
invariant-loop-i l = views (take l.i l.words) ++ until l.role (views (drop l.i l.words)) ≡ until l.role (views l.words)
