use Rattle.std.proofs.Common.{◌≡◌, drop}
use Rattle.dbtg_schema.specs.Texts.SchemaFaults.{wants_calc}
use Rattle.dbtg_schema.specs.Inside.Automaton.{view_starts}
use Rattle.dbtg_schema.proofs.checks.wants_calc.Given as goal

abbrev pub invariant-loop-start : goal.invariant-loop-start
invariant-loop-start l = wants_calc (view_starts (drop l.start-index l.starts)) ≡ wants_calc (view_starts l.starts)
