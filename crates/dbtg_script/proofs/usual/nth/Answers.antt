use Rattle.std.proofs.Common.{rules, ◌≡◌, ◌∙◌, true, ap, None}
use Rattle.dbtg_unit.specs.declared.statement.Statement.TheVariants as statement
use Rattle.dbtg_unit.specs.declared.statement.Form.TheVariants as form
use Rattle.dbtg_unit.specs.declared.statement.Which.TheVariants as which
use Rattle.dbtg_script.specs.Printing.Spelling.{is_signed, number}
use Rattle.dbtg_script.specs.StatementFaults.{without_minus}
use Rattle.dbtg_script.specs.Statements.{signed}
use Rattle.dbtg_script.specs.Inside.Usual.{nothing}
use Rattle.dbtg_script.specs.Values.{up_to}
use Rattle.dbtg_script.proofs.Reading.UsualLines.{capped, nth_said}
use Rattle.dbtg_script.proofs.usual.nth.Goals as goal

pub returns : goal.returns
returns c =
    let t = c.args.word.now in
    let number_is : is_signed t ≡ true = search rules in
    let value : c.up_to.result ≡ up_to 999999 (number (without_minus t)) =
    c.up_to.ensures.value ∙ ap (up_to 999999) c.number.ensures ∙ capped (number c.without_minus.result.now) ∙ ap (λ ds. up_to 999999 (number ds)) c.without_minus.ensures in
    let is : c.find.result ≡ statement.Find nothing (form.InSet (which.Nth (signed t)) None c.in_ok-set.set) = search rules in
    rw is (nth_said c.args.schema.now t _ c.in_ok-set.set number_is (λ e. c.if-up_to-eq0.false (value ∙ e)) c.in_ok-set.ensures)
