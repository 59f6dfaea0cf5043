use Rattle.dbtg_going.proofs.Turning.{written}
use Rattle.dbtg_explore.proofs.walk.put_back.Goals as goal

pub returns : goal.returns
returns c = written c.args.goings.now c.args.unit c.args.before c.requires.numbered
