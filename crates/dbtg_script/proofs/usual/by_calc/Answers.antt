use Rattle.std.proofs.Common.{◌≡◌, ◌∙◌, ℕ, [], ◌∷◌, ◌++◌, List, ap, subst, arith, false}
use Rattle.dbtg_cells.specs.declared.key.Value.{Value}
use Rattle.dbtg_unit.specs.declared.statement.Statement.TheVariants as statement
use Rattle.dbtg_unit.specs.declared.statement.Form.TheVariants as form
use Rattle.dbtg_script.specs.Inside.Usual.{IsOnlyGiven, nothing, words_left}
use Rattle.dbtg_script.proofs.Reading.UsualLines.{find_calc_said}
use Rattle.dbtg_script.proofs.usual.by_calc.Goals as goal

pub returns-in_ok-form-in-Some-2 : goal.returns-in_ok-form-in-Some-2
returns-in_ok-form-in-Some-2 c =
    let schema = c.args.schema.now in
    let r = c.in-Some.rtype in
    let item = c.in-Some-only_calc_item.item in
    let value = c.in-Some-2.change.value in
    let same : c.in-Some-2.change.item ≡ item = omega (arith, c.if-index.false, c.index.ensures, c.index-in-Some-2.ensures) in
    let given = subst (λ (i : ℕ). IsOnlyGiven schema r (words_left c.calc_type.new.left) i value) same (rw c.in-Some-2.is at c.in_ok-only_change.ensures) in
    let values : c.of.result ≡ value ∷ [] = c.of.ensures ∙ c.in_ok-push-in-Some-2.ensures.items ∙ ap (λ (vs : List Value). vs ++ value ∷ []) c.in_ok-values-in-Some-2.ensures.items in
    let is : c.find.result ≡ statement.Find nothing (form.Calc r (value ∷ [])) = c.find.ensures ∙ ap (statement.Find nothing) (c.in_ok-form-in-Some-2.ensures ∙ ap (form.Calc r) values) in
    rw is (find_calc_said schema (words_left c.args.left.now) (words_left c.calc_type.new.left) r item value c.in-Some.ensures c.in-Some-only_calc_item.ensures given)
