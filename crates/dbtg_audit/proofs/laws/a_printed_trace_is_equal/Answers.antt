use Rattle.dbtg_audit.proofs.Printed.{printed_is_equal}
use Rattle.dbtg_audit.proofs.laws.a_printed_trace_is_equal.Goals as goal

pub returns : goal.returns
returns c schema capacity texts load begin entries begun back is statuses audited h = printed_is_equal schema capacity texts load begin entries begun back is statuses audited h
