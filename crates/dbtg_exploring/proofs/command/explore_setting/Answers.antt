use Rattle.std.proofs.Common.{rules, ℕ, List, false, subst}
use Rattle.std.specs.Prelude.{IfOk}
use Rattle.dbtg_exploring.specs.Exploring.{IsListedIf}
use Rattle.dbtg_exploring.proofs.command.explore_setting.Goals as goal

pub returns-clause-done : goal.returns-clause-done
returns-clause-done g c =
    let s = c.args.setting.now in
    let done = subst (λ (ts : List (List ℕ)). IfOk c.explore_behind.result (IsListedIf false s.schema.now s.programs.now ts s.told.now s.asked)) c.requires.texts c.explore_behind.ensures.done in
    search (rules, done)
