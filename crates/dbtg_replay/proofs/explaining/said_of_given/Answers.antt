use Rattle.std.proofs.Common.{length, subst, sym}
use Rattle.dbtg_step.specs.Core.Audit.{MayBeHistory}
use Rattle.dbtg_replay.proofs.CanBeMade.{can_be_made}
use Rattle.dbtg_replay.proofs.explaining.said_of_given.Goals as goal

pub said_of_history-requires-clause-may : goal.said_of_history-requires-clause-may
said_of_history-requires-clause-may c =
    let given = c.args.given.now in
    subst (MayBeHistory c.args.schema.now (length c.args.statements.now)) (sym c.as_slice.ensures)
    (can_be_made c.args.schema.now c.args.capacity c.args.statements.now given.history given.image given.units c.requires.is_run.sequential c.requires.fit)
