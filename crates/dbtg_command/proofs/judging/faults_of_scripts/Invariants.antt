use Rattle.dbtg_command.specs.Checking.{TellsOfEachScript}
use Rattle.dbtg_command.proofs.judging.faults_of_scripts.Given as goal

abbrev pub invariant-loop-i : goal.invariant-loop-i
invariant-loop-i g l = TellsOfEachScript (g.S.Source.holds l.source) (g.S.Source.fails l.source) l.programs l.schema l.i l.faults.items
