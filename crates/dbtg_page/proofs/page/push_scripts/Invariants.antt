use Rattle.std.proofs.Common.{◌≡◌, ◌++◌, take}
use Rattle.std.specs.Prelude.{codes}
use Rattle.std.specs.List.{flat_map}
use Rattle.dbtg_page.specs.Json.{row}
use Rattle.dbtg_page.proofs.page.push_scripts.Given as goal

abbrev pub invariant-loop-script : goal.invariant-loop-script
invariant-loop-script l = l.out.items ≡ l.initial.out.items ++ flat_map (row (codes "SCRIPT")) (take l.script-index l.scripts)
