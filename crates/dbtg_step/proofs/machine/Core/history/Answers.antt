use Rattle.std.proofs.Common.{sym, subst}
use Rattle.dbtg_unit.specs.Database.Laws.Replay.{AnswersHold, TicketsInOrder}
use Rattle.dbtg_step.specs.Core.Core.{start}
use Rattle.dbtg_step.specs.Core.Parts.{CoreParts}
use Rattle.dbtg_step.proofs.TheCore.CoreShown.{core_is, core_with}
use Rattle.dbtg_step.proofs.machine.Core.history.Goals as goal

pub returns-clause-tickets : goal.returns-clause-tickets
returns-clause-tickets c =
    let inside = c.self.inside in
    subst TicketsInOrder (sym c.as_slice.ensures.value) (core_is inside.schema inside.capacity inside.parts c.self.invariant).tickets

pub returns-clause-answers : goal.returns-clause-answers
returns-clause-answers c =
    let inside = c.self.inside in
    subst (λ (v : CoreParts). AnswersHold v.schema v.capacity (start v) c.as_slice.result.now) c.self.view_is
    (subst (AnswersHold inside.schema inside.capacity (start (core_with inside.schema inside.capacity inside.parts))) (sym c.as_slice.ensures.value) (core_is inside.schema inside.capacity inside.parts c.self.invariant).answers)
