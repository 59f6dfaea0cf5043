use Rattle.std.proofs.Common.{◌≡◌, ◌∙◌, [], ◌∷◌, ◌++◌, List, sym, ap}
use Rattle.dbtg_unit.specs.declared.statement.Change.{Change}
use Rattle.dbtg_script.proofs.Reading.UsualLines.{modify_said}
use Rattle.dbtg_script.proofs.usual.usual_modify.Goals as goal

pub returns-in_ok-new-in-Some-2 : goal.returns-in_ok-new-in-Some-2
returns-in_ok-new-in-Some-2 c =
    let change = c.in-Some-2.change in
    let given = rw c.in-Some-2.is at c.in_ok-only_change.ensures in
    let changes : c.in_ok-new-in-Some-2.field-0 ≡ change ∷ [] = c.in_ok-new-in-Some-2.ensures ∙ c.of.ensures ∙ c.in_ok-push-in-Some-2.ensures.items ∙ ap (λ (cs : List Change). cs ++ change ∷ []) c.in_ok-changes-in-Some-2.ensures.items in
    rw (c.in-Some.ensures, changes) (modify_said c.args.schema.now c.in-Some.name.now _ c.in-Some-type_named.rtype change.item change.value (sym c.in-Some-type_named.ensures) given)
