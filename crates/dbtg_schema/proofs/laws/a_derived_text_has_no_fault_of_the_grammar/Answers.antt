use Rattle.dbtg_schema.proofs.Forms.NoFault.{clean_text}
use Rattle.dbtg_schema.proofs.laws.a_derived_text_has_no_fault_of_the_grammar.Goals as goal

pub returns : goal.returns
returns c = clean_text
