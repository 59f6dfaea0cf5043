use Rattle.dbtg_script.proofs.Printing.KeyText.{printed_key}
use Rattle.dbtg_script.proofs.laws.a_printed_key_is_read_back.Goals as goal

pub returns : goal.returns
returns c schema k h = printed_key schema k h
