use Rattle.std.proofs.Common.{true, false, sym, ◌∙◌}
use Rattle.dbtg_unit.proofs.Database.FindChecks.{find_fails, find_passes}
use Rattle.dbtg_unit.proofs.checks.find_refused_at_once.Goals as goal

pub returns-then-wants_null : goal.returns-then-wants_null
returns-then-wants_null c = λ s. find_fails c.args.schema.now c.args.capacity c.args.unit.now s c.args.form.now (sym (c.wants_null.ensures s) ∙ c.if-wants_null.true)

pub returns-then-form_is_beyond : goal.returns-then-form_is_beyond
returns-then-form_is_beyond c = λ s.
    find_passes c.args.schema.now c.args.capacity c.args.unit.now s c.args.form.now true (sym (c.wants_null.ensures s) ∙ c.if-wants_null.false) (sym c.find_lacks_current.ensures ∙ c.if-find_lacks_current.false)
    (sym c.ask_of_find.ensures ∙ c.if-ask_of_find.false) (sym (c.form_is_beyond.ensures s) ∙ c.if-form_is_beyond.true)

pub returns : goal.returns
returns c = λ s.
    find_passes c.args.schema.now c.args.capacity c.args.unit.now s c.args.form.now false (sym (c.wants_null.ensures s) ∙ c.if-wants_null.false) (sym c.find_lacks_current.ensures ∙ c.if-find_lacks_current.false)
    (sym c.ask_of_find.ensures ∙ c.if-ask_of_find.false) (sym (c.form_is_beyond.ensures s) ∙ c.if-form_is_beyond.false)
