use Rattle.std.proofs.Common.{refl, ◌≤◌, arith, length}
use Rattle.std.specs.List.{flat_map}
use Rattle.std.proofs.lemmas.Grind.{common_steps}
use Rattle.dbtg_unit.specs.Hands.InHand.{owner_in}
use Rattle.dbtg_unit.specs.Hands.Needs.{ring_names}
use Rattle.dbtg_schema.proofs.Public.{numbers_next}
use Rattle.dbtg_erase.proofs.FirstNames.{names_append}
use Rattle.dbtg_erase.proofs.EditLists.{edits_of_end}
use Rattle.dbtg_erase.proofs.around.push_each_ring.Goals as goal

pub returns : goal.returns
returns c =
    let past : length c.args.schema.now.sets ≤ c.loop-s.s = let count = c.set_count-s-end.ensures in let end = c.loop-s-test.false in omega arith in
    edits_of_end c.loop-s.names.items _ (flat_map (λ s. ring_names s (owner_in c.args.held.now s c.args.key.now))) (length c.args.schema.now.sets) c.loop-s.s past refl c.loop-s.invariant

pub loop-s-preserved : goal.loop-s-preserved
loop-s-preserved c = grind (arith, common_steps, numbers_next, names_append)
