use Rattle.std.proofs.Common.{◌≡◌, subst}
use Rattle.std.specs.Prelude.{IfOk}
use Rattle.dbtg_step.specs.Core.Parts.{CoreState}
use Rattle.dbtg_timeline.specs.Events.{events_of}
use Rattle.dbtg_timeline.proofs.watching.watch.Goals as goal

pub returns : goal.returns
returns c = subst (λ (m : CoreState). IfOk c.watch_each_move.result (λ events. events.items ≡ events_of m c.args.moves.now)) c.in_ok-core.ensures c.watch_each_move.ensures
