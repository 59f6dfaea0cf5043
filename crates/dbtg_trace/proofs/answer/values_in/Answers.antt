use Rattle.std.proofs.Common.{◌≡◌, ◌∙◌, ◌+◌, ◌∷◌, [], ◌++◌, List, None, Option, Some, ap, drop, false, sym}
use Rattle.std.specs.Prelude.{option_map}
use Rattle.std.proofs.lemmas.List.{append-nil, drop_all, drop_more}
use Rattle.dbtg_schema.specs.declared.shape.Item.{Item}
use Rattle.dbtg_cells.specs.declared.key.Value.{Value}
use Rattle.dbtg_script.specs.Tokens.{Token, tokens}
use Rattle.dbtg_trace.specs.Answers.{value_in, values_in}
use Rattle.dbtg_trace.proofs.WordSteps.{no_value, one_value_more}
use Rattle.dbtg_trace.proofs.answer.values_in.Goals as goal

pub loop-item-preserved : goal.loop-item-preserved
loop-item-preserved c =
    let items = c.args.items.now in
    let i = c.loop-item.item-index in
    let item = c.item-item.result in
    let rest : List Item = drop (i + 1) items in
    let old = c.loop-item.values.items in
    let before = tokens false c.loop-item.left.rest.now in
    let behind = tokens false c.value_in.new.left.rest.now in
    let here : drop i items ≡ item ∷ rest = drop_more items i item c.loop-item-test.true ∙ ap (λ (x : Item). x ∷ rest) (sym c.item-item.is) in
    let read : value_in item before ≡ Some (c.in-Some.value, behind) = rw c.in-Some.is at c.in_ok-value_in.ensures in
    ap (λ (vs : List Value). option_map (λ more. vs ++ more) (values_in rest behind)) c.in_ok-push-in-Some.ensures.items
    ∙ sym (one_value_more item rest before behind c.in-Some.value old read)
    ∙ ap (λ (xs : List Item). option_map (λ more. old ++ more) (values_in xs before)) (sym here)
    ∙ c.loop-item.invariant

pub returns-in-None : goal.returns-in-None
returns-in-None c =
    let items = c.args.items.now in
    let i = c.loop-item.item-index in
    let item = c.item-item.result in
    let rest : List Item = drop (i + 1) items in
    let old = c.loop-item.values.items in
    let before = tokens false c.loop-item.left.rest.now in
    let here : drop i items ≡ item ∷ rest = drop_more items i item c.loop-item-test.true ∙ ap (λ (x : Item). x ∷ rest) (sym c.item-item.is) in
    let none : value_in item before ≡ None = rw c.in-None.is at c.in_ok-value_in.ensures in
    sym (ap (λ (o : Option (List Value)). option_map (λ more. old ++ more) o) (ap (λ (xs : List Item). values_in xs before) here ∙ no_value item rest before none))
    ∙ c.loop-item.invariant

pub returns-in-None-next : goal.returns-in-None-next
returns-in-None-next c =
    let items = c.args.items.now in
    let i = c.loop-item.item-index in
    let old = c.loop-item.values.items in
    let all : drop i items ≡ [] = drop_all i items c.loop-item-test.false in
    ap (λ (vs : List Value). Some vs) (sym (append-nil old))
    ∙ ap (λ (xs : List Item). option_map (λ more. old ++ more) (values_in xs [])) (sym all)
    ∙ ap (λ (ts : List Token). option_map (λ more. old ++ more) (values_in (drop i items) ts)) (sym c.in-None-next.ensures.found)
    ∙ c.loop-item.invariant
