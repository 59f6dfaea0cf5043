use Rattle.std.proofs.Common.{◌≡◌, ◌++◌}
use Rattle.dbtg_command.specs.Checking.{script_lines}
use Rattle.dbtg_command.specs.Sources.{ReadScripts}
use Rattle.dbtg_command.proofs.check.push_each_script.Given as goal

abbrev pub invariant-loop-i : goal.invariant-loop-i
invariant-loop-i g l = (read : ReadScripts (g.S.Source.holds l.source) l.schema l.i) × (l.out.items ≡ l.initial.out.items ++ script_lines l.schema 1 read.texts)
