use Rattle.std.proofs.Common.{false}
use Rattle.dbtg_command.specs.declared.order.Order.TheVariants as by
use Rattle.dbtg_command.specs.declared.order.OrderKind.TheVariants as kind
use Rattle.dbtg_command.proofs.Public.{run_told}
use Rattle.dbtg_replay.specs.declared.replay.AnswerForm.TheVariants.{Plain}
use Rattle.dbtg_running.proofs.TextsAtHand.{at_hand_threads}
use Rattle.dbtg_running.proofs.scripts_on_threads.threads_bytes.Goals as goal

pub returns-in-Ok-clause-done : goal.returns-in-Ok-clause-done
returns-in-Ok-clause-done g c =
    let said = c.in-Ok.said in
    (said.turns.items, at_hand_threads c.args.schema.now c.args.scripts.now false Plain c.args.capacity said.printed.items said.turns.items c.in-Ok.ensures.done)

pub returns-in-Err-clause-refused : goal.returns-in-Err-clause-refused
returns-in-Err-clause-refused g c = run_told c.in-Err.fault c.args.schema.now c.args.scripts.now by.Serial kind.Serial c.in-Err.ensures.refused
