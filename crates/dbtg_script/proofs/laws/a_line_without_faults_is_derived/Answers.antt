use Rattle.dbtg_script.proofs.Reading.NoFault.{line_derived}
use Rattle.dbtg_script.proofs.laws.a_line_without_faults_is_derived.Goals as goal

pub returns : goal.returns
returns c schema line h = line_derived schema line h
