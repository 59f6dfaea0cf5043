use Rattle.std.proofs.Common.{◌≡◌, ◌++◌, List, map}
use Rattle.std.specs.Vec.Iter.{into_iter_items}
use Rattle.dbtg_unit.specs.declared.statement.Statement.{Statement}
use Rattle.dbtg_replay.specs.Inside.Serial.{HasPrinted}
use Rattle.dbtg_replay.proofs.serial.push_script.Given as goal

-- the statements that are made and those that are left are the script
abbrev pub invariant-loop-statement : goal.invariant-loop-statement
invariant-loop-statement l =
    (made : List Statement) × (made ++ into_iter_items l.statement-iterator ≡ l.fn.script)
    × HasPrinted l.schema l.initial.database l.initial.out.items (map (λ x. (l.unit, x)) made) l.database l.out.items
