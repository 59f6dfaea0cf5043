use Rattle.std.proofs.Common.{◌≡◌, ◌++◌, drop, false, take}
use Rattle.dbtg_page.specs.Changes.{name_from}
use Rattle.dbtg_page.proofs.changes.name_of.Given as goal

abbrev pub invariant-loop-i : goal.invariant-loop-i
invariant-loop-i l = name_from false l.line ≡ take l.i l.line ++ name_from l.second (drop l.i l.line)
