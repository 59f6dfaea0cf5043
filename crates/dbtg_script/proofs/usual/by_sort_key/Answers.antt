use Rattle.std.proofs.Common.{rules, ◌≡◌, Some, true, sym}
use Rattle.dbtg_schema.specs.Structure.{order_of}
use Rattle.dbtg_schema.specs.WellFormed.{is_sorted}
use Rattle.dbtg_script.specs.StatementGrammar.{fits, value}
use Rattle.dbtg_script.specs.Tokens.{view}
use Rattle.dbtg_script.specs.Values.{spelled}
use Rattle.dbtg_script.proofs.Reading.UsualLines.{sorted_said}
use Rattle.dbtg_script.proofs.usual.by_sort_key.Goals as goal

pub returns-in_ok-form-in-Some-2 : goal.returns-in_ok-form-in-Some-2
returns-in_ok-form-in-Some-2 c =
    let set = c.in-Some-of_set.set in
    let t = view c.in-Some.token in
    let fitting : fits value t ≡ true = rw c.in-Some-2.is at c.in_ok-usual_value.ensures.fitting in
    let order : is_sorted (order_of c.args.schema.now set) ≡ true = search rules in
    let said : spelled c.in-Some-sort_picture.picture t ≡ Some c.in-Some-2.value = rw c.in-Some-2.is at c.in_ok-usual_value.ensures.value in
    rw (c.in-Some.ensures, c.find.ensures, c.in_ok-form-in-Some-2.ensures)
    (sorted_said c.args.schema.now t _ set c.in-Some-sort_picture.picture c.in-Some-2.value fitting c.in-Some-of_set.ensures order (sym c.in-Some-sort_picture.ensures) said)
