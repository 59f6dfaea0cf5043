use Rattle.std.proofs.Common.{◌≡◌, ◌∙◌, ap, subst, false, length, Some}
use Rattle.std.specs.Prelude.{IfOk}
use Rattle.dbtg_going.specs.Turns.{IsRunOf, turns_before, turns_of}
use Rattle.dbtg_exploring.proofs.LeftOut.{all_taken}
use Rattle.dbtg_exploring.proofs.begun.run_before.Goals as goal

pub returns : goal.returns
returns c =
    let schema = c.args.setting.now.schema.now in
    let capacity = c.args.setting.now.asked.capacity in
    let programs = c.args.setting.now.programs.now in
    let given = c.as_slice.ensures.value ∙ c.in_ok-turns.ensures in
    let taken = ap (λ turns. turns_of schema capacity programs (record { first = false; last = false }) (Some turns)) given ∙ all_taken schema capacity programs _ in
    subst (λ turns. IfOk c.run_programs.result (IsRunOf schema capacity programs turns)) taken c.run_programs.ensures
