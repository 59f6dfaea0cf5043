use Rattle.dbtg_replay.proofs.ReadBack.{replay_is_traced}
use Rattle.dbtg_replay.proofs.laws.a_printed_replay_is_read_back.Goals as goal

pub returns : goal.returns
returns c first text scripts order capacity out sound named few small shown = replay_is_traced first text scripts order capacity out sound named few small shown
