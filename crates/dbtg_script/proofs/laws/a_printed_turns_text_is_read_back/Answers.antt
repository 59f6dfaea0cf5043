use Rattle.dbtg_script.proofs.Printing.ReadBack.{turns_read_back}
use Rattle.dbtg_script.proofs.laws.a_printed_turns_text_is_read_back.Goals as goal

pub returns : goal.returns
returns c = turns_read_back
