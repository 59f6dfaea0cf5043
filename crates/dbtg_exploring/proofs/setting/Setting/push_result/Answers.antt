use Rattle.std.proofs.Common.{◌∙◌}
use Rattle.std.proofs.lemmas.Result.{on_ok_weaker}
use Rattle.dbtg_exploring.proofs.Results.{shown_of}
use Rattle.dbtg_exploring.proofs.setting.Setting.push_result.Goals as goal

pub returns : goal.returns
returns c =
    let self = c.args.self.now in
    let turns = c.in_ok-turns.ensures in
    on_ok_weaker c.push_run.result
    (λ made.
    shown_of self.schema.now self.programs.now self.told.now self.asked c.args.before.now c.push_run.new.before c.args.number c.args.order.now c.args.out.now.items c.push_result_head.new.out.items _ c.as_slice.result.now c.as_slice-2.result.now made.0
    (c.as_slice.ensures.value ∙ turns) (c.as_slice-2.ensures.value ∙ turns) made.1 c.in_ok-push_result_head.ensures made.2 made.3)
    c.push_run.ensures
