use Rattle.std.proofs.Common.{◌≡◌, ◌∙◌, sym, ap}
use Rattle.dbtg_unit.specs.declared.edit.UnitEdit.TheVariants.{Same}
use Rattle.dbtg_plan.proofs.Plans.GetKeepFree.{answering, get_only_answers}
use Rattle.dbtg_plan.proofs.keeping.get.Goals as goal

pub returns : goal.returns
returns c =
    let is : c.new-3.result ≡ answering c.in_ok-answer.answer
    = c.new-3.ensures ∙ (λ i. record { answer = c.in_ok-answer.answer; cells = (c.of.ensures ∙ c.new.ensures.items) i; versions = (c.of-2.ensures ∙ c.new-2.ensures.items) i; unit = Same }) in
    is ∙ ap answering c.in_ok-answer.ensures ∙ sym (get_only_answers c.args.schema.now c.args.unit.now c.args.held.now c.args.rtype)
