use Rattle.std.proofs.Common.{refl, subst, ◌<◌, ◌≤◌, arith, length}
use Rattle.std.specs.Prelude.{filter, map}
use Rattle.dbtg_schema.specs.Lookups.{some_and}
use Rattle.dbtg_unit.specs.Database.Statements.Effect.{is_gone}
use Rattle.dbtg_unit.specs.Hands.InHand.{owner_in}
use Rattle.dbtg_erase.specs.Inside.ErasePlan.{lose_owner}
use Rattle.dbtg_erase.proofs.EditLists.{edits_of_end, edits_of_next}
use Rattle.dbtg_erase.proofs.edits.lose_each_owner.Goals as goal

pub loop-s-preserved : goal.loop-s-preserved
loop-s-preserved c =
    let below : c.loop-s.s < length c.args.schema.now.sets = subst (λ n. c.loop-s.s < n) c.set_count-s-end.ensures c.loop-s-test.true in
    edits_of_next c.loop-s.edits c.lose_owner.new.edits _ (lose_owner c.args.key.now) (λ s. some_and (is_gone c.args.gone.now) (owner_in c.args.held.now s c.args.key.now))
    (length c.args.schema.now.sets) c.loop-s.s c.new-set.result below c.new-set.ensures c.in_ok-lose_owner.ensures c.loop-s.invariant

pub returns : goal.returns
returns c =
    let past : length c.args.schema.now.sets ≤ c.loop-s.s = let count = c.set_count-s-end.ensures in let end = c.loop-s-test.false in omega arith in
    edits_of_end c.loop-s.edits _ (λ xs. map (lose_owner c.args.key.now) (filter (λ s. some_and (is_gone c.args.gone.now) (owner_in c.args.held.now s c.args.key.now)) xs))
    (length c.args.schema.now.sets) c.loop-s.s past refl c.loop-s.invariant
