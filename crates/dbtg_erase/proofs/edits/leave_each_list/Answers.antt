use Rattle.std.proofs.Common.{refl, subst, ap, ◌≡◌, ◌∙◌, ◌++◌, [], ◌∷◌, ◌<◌, ◌≤◌, arith, length, List, Option}
use Rattle.std.specs.List.{flat_map}
use Rattle.dbtg_schema.specs.Lookups.{at}
use Rattle.dbtg_cells.specs.declared.key.Owner.{Owner}
use Rattle.dbtg_unit.specs.declared.edit.Edit.TheVariants.{TakeOut}
use Rattle.dbtg_unit.specs.Hands.EditsOf.{ring_edits, staying_owner}
use Rattle.dbtg_unit.specs.Hands.InHand.{owner_in}
use Rattle.dbtg_erase.proofs.EditLists.{edits_of_each, edits_of_end}
use Rattle.dbtg_erase.proofs.edits.leave_each_list.Goals as goal

pub loop-s-preserved : goal.loop-s-preserved
loop-s-preserved c =
    let below : c.loop-s.s < length c.args.schema.now.sets = subst (λ n. c.loop-s.s < n) c.set_count-s-end.ensures c.loop-s-test.true in
    let leave = TakeOut c.args.key.now ∷ [] in
    let owner_is : c.staying_owner-owner.result ≡ staying_owner c.args.gone.now (owner_in c.args.held.now c.loop-s.s c.args.key.now) =
    c.staying_owner-owner.ensures ∙ ap (staying_owner c.args.gone.now) (c.owner_at.ensures ∙ ap (λ (owners : List (Option Owner)). at owners c.loop-s.s) c.as_slice.ensures.value ∙ c.owners_of-owners.ensures c.loop-s.s) in
    edits_of_each c.loop-s.edits c.push_taking_out.new.edits _ (λ s. ring_edits s (staying_owner c.args.gone.now (owner_in c.args.held.now s c.args.key.now)) leave)
    (length c.args.schema.now.sets) c.loop-s.s below
    (c.in_ok-push_taking_out.ensures ∙ ap (λ s. c.loop-s.edits ++ ring_edits s c.staying_owner-owner.result leave) c.new.ensures ∙ ap (λ o. c.loop-s.edits ++ ring_edits c.loop-s.s o leave) owner_is)
    c.loop-s.invariant

pub returns : goal.returns
returns c =
    let past : length c.args.schema.now.sets ≤ c.loop-s.s = let count = c.set_count-s-end.ensures in let end = c.loop-s-test.false in omega arith in
    edits_of_end c.loop-s.edits _ (flat_map (λ s. ring_edits s (staying_owner c.args.gone.now (owner_in c.args.held.now s c.args.key.now)) (TakeOut c.args.key.now ∷ [])))
    (length c.args.schema.now.sets) c.loop-s.s past refl c.loop-s.invariant
