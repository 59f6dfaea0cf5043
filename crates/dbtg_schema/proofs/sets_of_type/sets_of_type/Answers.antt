use Rattle.std.proofs.Common.{◌==◌, ◌∙◌, ℕ, ap, refl, sym}
use Rattle.std.specs.Prelude.{option_and_then}
use Rattle.std.specs.List.{find}
use Rattle.std.proofs.lemmas.Option.{slice_get_read}
use Rattle.dbtg_schema.specs.Inside.Connecting.{connects_in}
use Rattle.dbtg_schema.specs.Lookups.{some_and}
use Rattle.dbtg_schema.specs.Inside.SetsOfTypes.{sets_alone}
use Rattle.dbtg_schema.specs.Structure.{is_automatic, owns}
use Rattle.dbtg_schema.proofs.Indexes.SetsOfTypes.{one_more_tested}
use Rattle.dbtg_schema.proofs.sets_of_type.sets_of_type.Goals as goal

pub loop-s-preserved : goal.loop-s-preserved
loop-s-preserved c =
    let sets = c.args.sets.now in
    let t = c.args.rtype in
    let s = c.loop-s.s in
    let so_far = c.loop-s.invariant in
    let there = slice_get_read sets _ s c.index-sets-s.result refl c.loop-s-test.true c.index-sets-s.is in
    let connected = ap (λ o. some_and (λ m. is_automatic m.class) (option_and_then (λ set. find (λ member. member.rtype == t) set.members) o)) there ∙ sym c.connects.ensures in
    let own = ap (λ o. some_and (λ owner. owner == t) (option_and_then (λ set. set.owner) o)) there ∙ sym c.owns.ensures in
    record {
      connected = one_more_tested (λ (k : ℕ). connects_in (sets_alone sets) k t) s c.new-number.result c.connects.result c.loop-s.automatic _ c.new-number.ensures connected so_far.connected c.in_ok-list_if.ensures;
      own = one_more_tested (λ (k : ℕ). owns (sets_alone sets) k t) s c.new-number.result c.owns.result c.loop-s.owned _ c.new-number.ensures own so_far.own c.in_ok-list_if-2.ensures;
    }
