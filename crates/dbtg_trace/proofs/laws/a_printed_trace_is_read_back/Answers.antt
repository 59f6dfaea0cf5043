use Rattle.dbtg_trace.proofs.ReadBack.Lines.{read_back}
use Rattle.dbtg_trace.proofs.laws.a_printed_trace_is_read_back.Goals as goal

pub returns : goal.returns
returns c schema sound named units few lines history are room short = read_back schema sound named units few lines history are room short
