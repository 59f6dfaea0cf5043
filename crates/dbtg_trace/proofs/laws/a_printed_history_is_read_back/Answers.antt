use Rattle.dbtg_trace.proofs.ReadBack.Scripts.{history_read_back}
use Rattle.dbtg_trace.proofs.laws.a_printed_history_is_read_back.Goals as goal

pub returns : goal.returns
returns c schema sound named capacity small texts few history of room short = history_read_back schema sound named capacity small texts few history of room short
