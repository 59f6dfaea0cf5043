use Rattle.std.proofs.Common.{sym, ap, ◌∙◌, ◌≡◌, ◌+◌, ◌∷◌, drop, drop-cons, add-one}
use Rattle.std.specs.List.{flat_map}
use Rattle.dbtg_unit.specs.Hands.Erasing.{with_those}
use Rattle.dbtg_erase.specs.WorkList.{taken_of_set}
use Rattle.dbtg_erase.proofs.KeyLists.{with_those_append}
use Rattle.dbtg_erase.proofs.work_list.bring.Goals as goal

pub loop-set-preserved : goal.loop-set-preserved
loop-set-preserved c =
    let sets = c.owned_sets-set-items.result.now in
    let i = c.loop-set.set-index in
    let set = c.set-item.result in
    let taken = taken_of_set c.args.schema.now c.args.held.now c.args.option c.args.key.now in
    let next : drop i sets ≡ set ∷ drop (i + 1) sets = rw add-one (drop-cons sets i set c.loop-set-test.true) ∙ ap (λ s. s ∷ drop (i + 1) sets) (sym c.set-item.is) in
    ap (λ keys. with_those keys (flat_map taken (drop (i + 1) sets))) c.in_ok-bring_of_set.ensures
    ∙ sym (with_those_append c.loop-set.gone (taken set) (flat_map taken (drop (i + 1) sets)))
    ∙ ap (λ xs. with_those c.loop-set.gone (flat_map taken xs)) (sym next)
    ∙ c.loop-set.invariant
