use Rattle.std.proofs.Common.{◌+◌, sym, ◌∙◌, ap, subst, ℕ, List, eqb, drop, rules}
use Rattle.std.specs.List.{list_any}
use Rattle.std.proofs.lemmas.Bool.{false≢true}
use Rattle.std.proofs.lemmas.List.{drop_all}
use Rattle.dbtg_plan.proofs.Store.StoreSteps.{RoomsBut, left_next, rooms_next}
use Rattle.dbtg_plan.proofs.storing.make_places.Goals as goal

pub loop-set-init : goal.loop-set-init
loop-set-init c =
    record {
      same = search rules;
      rooms = λ s passed joins. absurd (false≢true (sym passed ∙ ap (list_any (λ s'. eqb s' s)) c.automatic_sets-set-items.ensures ∙ joins));
    }

pub loop-set-preserved : goal.loop-set-preserved
loop-set-preserved c =
    let schema = c.args.schema.now in
    let sets = c.automatic_sets-set-items.result.now in
    let i = c.loop-set.set-index in
    record {
      same = search rules;
      rooms =
          rooms_next schema c.args.unit.now c.loop-set.held c.make_room.new.held c.args.key.now c.set-item.result (drop (i + 1) sets)
          c.make_room.ensures.others c.in_ok-make_room.ensures.room
          (subst (λ (left : List ℕ). RoomsBut schema c.args.unit.now c.loop-set.held c.args.key.now left) (left_next sets i c.set-item.result c.loop-set-test.true c.set-item.is) c.loop-set.invariant.rooms);
    }

pub returns-clause-rooms : goal.returns-clause-rooms
returns-clause-rooms c = λ s joins. c.loop-set.invariant.rooms s (ap (list_any (λ s'. eqb s' s)) (drop_all c.loop-set.set-index c.automatic_sets-set-items.result.now c.loop-set-test.false)) joins
