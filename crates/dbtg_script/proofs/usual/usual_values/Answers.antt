use Rattle.std.proofs.Common.{rules, ◌≡◌, ◌∙◌, ℕ, List, [], true, not, Some, drop, map, take, refl, sym, ap, subst, arith}
use Rattle.std.specs.List.{list_all}
use Rattle.std.specs.Str.{bytes_eq}
use Rattle.std.proofs.lemmas.List.{append-nil, drop_all}
use Rattle.dbtg_schema.specs.Structure.{place_of}
use Rattle.dbtg_schema.specs.declared.shape.Item.{Item}
use Rattle.dbtg_script.specs.Lookups.{item_named}
use Rattle.dbtg_script.specs.Inside.Usual.{AreAssigned, words_left}
use Rattle.dbtg_script.proofs.Reading.NameSteps.{first_of_its_name}
use Rattle.dbtg_script.proofs.Reading.UsualStores.{one_value_more}
use Rattle.dbtg_script.proofs.usual.usual_values.Goals as goal

pub loop-i-preserved : goal.loop-i-preserved
loop-i-preserved c =
    let schema = c.args.schema.now in
    let r = c.args.rtype in
    let items = c.items-items.result.now in
    let item = c.index-items-i.result in
    let are_other = λ (name : List ℕ) (before : List Item). list_all (λ (x : Item). not (bytes_eq name x.name)) before in
    let other : are_other c.as_slice.result.now c.split_at.result.0.now ≡ true = search rules in
    let first : are_other item.name (take c.loop-i.i items) ≡ true = (λ x. are_other (sym c.as_slice.ensures x) (sym c.split_at.ensures.front x)) ∙ other in
    let named : item_named schema r item.name ≡ Some c.loop-i.i =
    ap (λ (is : List Item). place_of item.name (map (λ (x : Item). x.name) is)) (sym c.loop-i.invariant.items_are) ∙ first_of_its_name (λ (x : Item). x.name) c.loop-i.i items item c.loop-i-test.true c.index-items-i.is first in
    let given = rw c.in-Some.is at c.in_ok-next_value.ensures in
    record {
      items_are = c.loop-i.invariant.items_are;
      so_far = rw c.in_ok-push-in-Some.ensures.items
          (one_value_more schema r c.loop-i.i items c.index-items-i.result (words_left c.loop-i.left) (words_left c.next_value.new.left) (words_left c.args.left.now)
          c.loop-i.values.items c.in-Some.value c.loop-i-test.true c.index-items-i.is named given c.loop-i.invariant.so_far);
    }

pub returns-then-ends : goal.returns-then-ends
returns-then-ends c =
    let schema = c.args.schema.now in
    let r = c.args.rtype in
    let items = c.items-items.result.now in
    let over : drop c.loop-i.i items ≡ [] = drop_all c.loop-i.i items (omega arith) in
    let none : words_left c.loop-i.left ≡ [] = search rules in
    let last : AreAssigned schema r c.loop-i.i (drop c.loop-i.i items) (words_left c.loop-i.left) [] =
    subst (λ z. AreAssigned schema r c.loop-i.i z (words_left c.loop-i.left) []) (sym over) (none, refl) in
    let all = c.loop-i.invariant.so_far [] last in
    subst (λ z. AreAssigned schema r 0 z (words_left c.args.left.now) c.loop-i.values.items) c.loop-i.invariant.items_are
    (subst (λ z. AreAssigned schema r 0 items (words_left c.args.left.now) z) (append-nil c.loop-i.values.items) all)
