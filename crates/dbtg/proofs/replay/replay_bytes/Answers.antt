use Rattle.std.proofs.Common.{false, length}
use Rattle.std.proofs.lemmas.Result.{IfErr-weaker, IfOk-weaker}
use Rattle.dbtg_command.specs.Refusals.{RefusesReplay}
use Rattle.dbtg_replay.specs.declared.replay.AnswerForm.TheVariants.{Plain}
use Rattle.dbtg_replay.specs.Replaying.{IsReplay, ReplaysHeld}
use Rattle.dbtg_command.specs.Inside.Sources.{StandsIn}
use Rattle.dbtg_command.specs.Sources.{ToldOfRun, kind_of, order_map}
use Rattle.dbtg_command.proofs.Public.{OnlyMemory, run_told, same_kind}
use Rattle.dbtg.proofs.TextsAtHand.{at_hand_replay}
use Rattle.dbtg.proofs.replay.replay_bytes.Goals as goal

pub returns-clause-done : goal.returns-clause-done
returns-clause-done c =
    let schema = c.args.schema.now in
    let scripts = c.args.scripts.now in
    let order = order_map (λ t. t.now) c.args.order in
    IfOk-weaker c.replay.result (λ out. ReplaysHeld (StandsIn schema scripts order) (length scripts) (kind_of c.args.order) false Plain c.args.capacity out.items) (λ out. IsReplay schema scripts order c.args.capacity out.items)
    (λ out held. at_hand_replay schema scripts order (kind_of c.args.order) c.args.capacity out.items (same_kind _ c.args.order) held) c.replay.ensures.done

pub returns-clause-refused : goal.returns-clause-refused
returns-clause-refused c =
    let schema = c.args.schema.now in
    let scripts = c.args.scripts.now in
    let order = order_map (λ t. t.now) c.args.order in
    IfErr-weaker c.replay.result (λ fault. ToldOfRun (StandsIn schema scripts order) OnlyMemory fault (length scripts) (kind_of c.args.order)) (λ fault. RefusesReplay fault schema scripts order)
    (λ fault told. run_told fault schema scripts order (kind_of c.args.order) told) c.replay.ensures.refused
