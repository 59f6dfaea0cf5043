use Rattle.std.proofs.Common.{List, ℕ, subst}
use Rattle.std.specs.Prelude.{OnOk}
use Rattle.dbtg_explore.specs.Inside.Found.{IsEnteredAt}
use Rattle.dbtg_explore.proofs.ends.Ends.note_result.Goals as goal

pub returns-clause-result : goal.returns-clause-result
returns-clause-result c = subst (λ (t : List ℕ). OnOk c.enter.result (IsEnteredAt c.args.self.now.results t c.args.place c.enter.new.self)) c.in_ok-text.ensures c.enter.ensures
