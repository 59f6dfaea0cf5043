use Rattle.dbtg_script.proofs.Reading.NoFault.{clean_script}
use Rattle.dbtg_script.proofs.laws.a_derived_script_has_no_fault_of_the_grammar.Goals as goal

pub returns : goal.returns
returns c = clean_script
