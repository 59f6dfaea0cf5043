use Rattle.std.proofs.Common.{refl, sym, ◌∙◌, subst, ◌<◌, ◌≤◌, arith, length}
use Rattle.std.specs.Prelude.{filter, map}
use Rattle.dbtg_schema.specs.Structure.{owns}
use Rattle.dbtg_erase.specs.NextCell.{is_missing}
use Rattle.dbtg_erase.specs.Inside.NextCell.{ring_of}
use Rattle.dbtg_erase.proofs.FirstNames.{first_end, first_found, first_further, splits_map}
use Rattle.dbtg_erase.proofs.course.first_ring.Goals as goal

pub returns-in-Some : goal.returns-in-Some
returns-in-Some c =
    let below : c.loop-s.s < length c.args.schema.now.sets = subst (λ n. c.loop-s.s < n) c.set_count-s-end.ensures c.loop-s-test.true in
    first_found (is_missing c.args.held.now) (λ xs. map (ring_of c.args.key.now) (filter (λ s. owns c.args.schema.now s c.args.key.now.rtype) xs)) (length c.args.schema.now.sets) c.loop-s.s c.new-set.result _
    c.in-Some.name (splits_map (ring_of c.args.key.now) (λ s. owns c.args.schema.now s c.args.key.now.rtype)) below c.new-set.ensures (sym c.in-Some.is ∙ c.missing_ring.ensures) c.loop-s.invariant

pub loop-s-preserved : goal.loop-s-preserved
loop-s-preserved c =
    let below : c.loop-s.s < length c.args.schema.now.sets = subst (λ n. c.loop-s.s < n) c.set_count-s-end.ensures c.loop-s-test.true in
    first_further (is_missing c.args.held.now) (λ xs. map (ring_of c.args.key.now) (filter (λ s. owns c.args.schema.now s c.args.key.now.rtype) xs)) (length c.args.schema.now.sets) c.loop-s.s c.new-set.result _
    (splits_map (ring_of c.args.key.now) (λ s. owns c.args.schema.now s c.args.key.now.rtype)) below c.new-set.ensures (sym c.in-None.is ∙ c.missing_ring.ensures) c.loop-s.invariant

pub returns : goal.returns
returns c =
    let past : length c.args.schema.now.sets ≤ c.loop-s.s = let count = c.set_count-s-end.ensures in let end = c.loop-s-test.false in omega arith in
    first_end (is_missing c.args.held.now) (λ xs. map (ring_of c.args.key.now) (filter (λ s. owns c.args.schema.now s c.args.key.now.rtype) xs)) (length c.args.schema.now.sets) c.loop-s.s 0 _
    refl past c.loop-s.invariant
