use Rattle.std.proofs.Common.{◌≡◌, ◌∙◌, ◌+◌, ◌∷◌, add-one, ap, drop, drop-cons, sym}
use Rattle.std.proofs.Math.ListN.{drop_of_length-le}
use Rattle.dbtg_unit.proofs.Database.Records.SetsSeen.{all_owned, none_left, one_seen, one_spared, yet_to_see}
use Rattle.dbtg_unit.proofs.see.see_owned.Goals as goal
use Rattle.dbtg_unit.proofs.see.see_owned.Goals.{then-not-has_set, else-not-has_set}

pub loop-set-init : goal.loop-set-init
loop-set-init c =
    let key = c.args.key.now in
    let suppress = c.args.suppress.now in
    ap (λ sets. yet_to_see key suppress sets c.args.sets.now) c.owned_sets-set-items.ensures ∙ all_owned c.args.schema.now key suppress c.args.sets.now

pub loop-set-preserved : goal.loop-set-preserved
loop-set-preserved c =
    let key = c.args.key.now in
    let suppress = c.args.suppress.now in
    let items = c.owned_sets-set-items.result.now in
    let i = c.loop-set.set-index in
    let set = c.index-set.result in
    let others = drop (i + 1) items in
    let next : drop i items ≡ set ∷ others = rw add-one (drop-cons items i c.set-item.result c.loop-set-test.true) ∙ ap (λ s. s ∷ others) (sym c.set-item.is ∙ sym c.index-set.ensures) in
    let rest = ap (λ sets. yet_to_see key suppress sets c.loop-set.sets) (sym next) ∙ c.loop-set.invariant in
    elim c.if-not-has_set.branch [
      | then-not-has_set w ↦ ap (yet_to_see key suppress others) (w.sets-is ∙ w.set_entry.ensures) ∙ one_seen suppress set others key c.loop-set.sets (sym c.has_set.ensures ∙ w.if-not-has_set.true) ∙ rest
      | else-not-has_set w ↦ ap (yet_to_see key suppress others) w.sets-is ∙ one_spared suppress set others key c.loop-set.sets (sym c.has_set.ensures ∙ w.if-not-has_set.false) ∙ rest
    ]

pub returns : goal.returns
returns c =
    let key = c.args.key.now in
    let suppress = c.args.suppress.now in
    sym (none_left key suppress c.loop-set.sets)
    ∙ ap (λ sets. yet_to_see key suppress sets c.loop-set.sets) (sym (drop_of_length-le c.owned_sets-set-items.result.now c.loop-set-test.false))
    ∙ c.loop-set.invariant
