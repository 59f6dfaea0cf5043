use Rattle.std.proofs.Common.{◌∙◌, [], ap, subst}
use Rattle.std.proofs.lemmas.Result.{IfOk-weaker}
use Rattle.dbtg_step.specs.Core.Serial.{in_turn_from}
use Rattle.dbtg_step.specs.Inside.Whole.{HasMadeAll}
use Rattle.dbtg_step.specs.Core.Whole.{Making}
use Rattle.dbtg_step.proofs.MadeWhole.SerialShown.{serial_made}
use Rattle.dbtg_step.proofs.MadeWhole.Wholes.{making}
use Rattle.dbtg_step.proofs.running.run_serial.Goals as goal

pub returns : goal.returns
returns c =
    let schema = c.args.schema.now in
    let capacity = c.args.capacity in
    let scripts = c.args.scripts in
    let all = subst (λ (m : Making). HasMadeAll m (in_turn_from 1 scripts) c.make_each_script.new.database) (c.in_ok-database.ensures ∙ ap (λ n. making schema capacity n []) c.len-units.ensures) c.in_ok-make_each_script.ensures in
    IfOk-weaker c.into_run.result _ _ (λ given run. serial_made schema capacity scripts c.make_each_script.new.database given all run) c.into_run.ensures
