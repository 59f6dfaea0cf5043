use Rattle.dbtg_run.proofs.Together.Joined.{are_all}
use Rattle.dbtg_run.proofs.settlement.learn_all.Goals as goal

pub returns-clause-all : goal.returns-clause-all
returns-clause-all c =
    let db = c.args.db.now in let e = c.learn.ensures in
    are_all db.board.shared.key db.about c.args.units.items c.join_all-seat.result.me db.keyed c.join_all-seat.ensures.joined c.requires.all e.few e.whole
