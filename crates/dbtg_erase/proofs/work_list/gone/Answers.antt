use Rattle.std.proofs.Common.{◌≡◌, sym, ◌∙◌, ap, subst, ◌+◌, ◌-◌, ◌<◌, Some}
use Rattle.std.specs.Prelude.{slice_get}
use Rattle.dbtg_unit.specs.Hands.Erasing.{brought, with_those}
use Rattle.dbtg_erase.specs.WorkList.{most_gone, taken_in}
use Rattle.dbtg_erase.proofs.KeyLists.{brought_ended, brought_next}
use Rattle.dbtg_erase.proofs.work_list.gone.Goals as goal

pub returns-in-None : goal.returns-in-None
returns-in-None c =
    sym (brought_ended (taken_in c.args.schema.now c.args.held.now c.args.option) (most_gone c.args.schema.now c.args.capacity - c.loop-place.place) c.loop-place.place c.loop-place.gone (sym c.get.ensures ∙ c.in-None.is))
    ∙ c.loop-place.invariant

pub loop-place-preserved : goal.loop-place-preserved
loop-place-preserved c =
    let d = c.in-Some.next in
    let taken = taken_in c.args.schema.now c.args.held.now c.args.option in
    let most = most_gone c.args.schema.now c.args.capacity in
    let at : slice_get c.loop-place.gone c.loop-place.place ≡ Some d = sym c.get.ensures ∙ c.in-Some.is in
    let brings_doomed : c.bring.new.gone ≡ with_those c.loop-place.gone (taken d) = c.in_ok-bring-in-Some.ensures in
    let below : c.loop-place.place < most = subst (λ n. c.loop-place.place < n) c.most_gone-most.ensures c.loop-place-test.true in
    ap (λ gone. brought taken (most - (c.loop-place.place + 1)) (c.loop-place.place + 1) gone) brings_doomed
    ∙ sym (brought_next taken most c.loop-place.place c.loop-place.gone d below at)
    ∙ c.loop-place.invariant
