use Rattle.std.proofs.Common.{◌≡◌, ◌++◌, List, length}
use Rattle.std.specs.Vec.Iter.{into_iter_items}
use Rattle.dbtg_step.specs.Core.Serial.{in_turn_from}
use Rattle.dbtg_unit.specs.declared.statement.Statement.{Statement}
use Rattle.dbtg_replay.specs.Inside.Serial.{HasPrinted}
use Rattle.dbtg_replay.proofs.serial.push_each_script.Given as goal

-- the scripts that are made and those that are left are all scripts
abbrev pub invariant-loop-script : goal.invariant-loop-script
invariant-loop-script l =
    (made : List (List Statement)) × (made ++ into_iter_items l.script-iterator ≡ l.fn.scripts) × (l.before ≡ length made)
    × HasPrinted l.schema l.initial.database l.initial.out.items (in_turn_from 1 made) l.database l.out.items
