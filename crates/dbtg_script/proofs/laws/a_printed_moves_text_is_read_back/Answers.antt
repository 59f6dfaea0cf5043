use Rattle.dbtg_script.proofs.Printing.ReadBack.{moves_read_back}
use Rattle.dbtg_script.proofs.laws.a_printed_moves_text_is_read_back.Goals as goal

pub returns : goal.returns
returns c = moves_read_back
