use Rattle.dbtg_running.proofs.ReadBack.Runs.{run_read_back}
use Rattle.dbtg_running.proofs.laws.a_printed_run_is_read_back.Goals as goal

pub returns : goal.returns
returns c schema sound named capacity small texts few accepted turns given is short room most = run_read_back schema sound named capacity small texts few accepted turns given is short room most
