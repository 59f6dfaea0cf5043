-- Statements that are made at once, without a plan.
use Rattle.std.specs.Prelude.{Bool, true, false}
use Rattle.dbtg_unit.specs.declared.statement.Statement.{Statement}
use Rattle.dbtg_unit.specs.declared.statement.Statement.TheVariants.{Find, Get, Store, Insert, Remove, Modify}

-- the statement is made at once
abbrev pub is_made_at_once : Statement → Bool
is_made_at_once (Find suppress form) = true
is_made_at_once (Get r) = true
is_made_at_once (Store t items suppress) = true
is_made_at_once (Insert s) = true
is_made_at_once (Remove s) = true
is_made_at_once (Modify t changes) = true
is_made_at_once _ = false
