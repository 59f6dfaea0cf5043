use Rattle.std.proofs.Common.{◌≡◌, ◌∙◌, List, ap, refl, subst, sym, length, arith}
use Rattle.std.specs.Vec.{with_items}
use Rattle.std.proofs.lemmas.List.{map_push, with_items_is}
use Rattle.dbtg_step.specs.Machine.SequentialDatabase.{unit_at}
use Rattle.dbtg_going.specs.declared.member.Going.{Going}
use Rattle.dbtg_explore.specs.declared.walk.Taken.{Taken}
use Rattle.dbtg_explore.specs.Inside.Walks.{HasTurned, links_of}
use Rattle.dbtg_explore.proofs.Walks.{stands_on}
use Rattle.dbtg_explore.proofs.meeting.Meeting.take_turn.Goals as goal

pub returns-in_ok-push-in-Some-clause-stands : goal.returns-in_ok-push-in-Some-clause-stands
returns-in_ok-push-in-Some-clause-stands c =
    let made = c.in_ok-before-in-Some.ensures in
    let found = ap (λ (gs : List Going). unit_at gs c.args.turn.unit) (sym c.as_mut_slice-goings.ensures.value) ∙ made.before in
    let walk = c.args.walk.now in
    let long : length c.make.new.goings ≡ walk.goings.len = omega (arith, c.make.auto.goings, c.as_mut_slice-goings.ensures.len) in
    let turned = subst (λ (gs : List Going). HasTurned c.args.self.now c.args.turn.unit walk.database.making c.make.new.database.making gs) (sym (with_items_is walk.goings c.make.new.goings long)) made.turned in
    stands_on c.args.self.now c.args.turn.before c.args.turn.unit c.args.walk.now (record { database = c.make.new.database; goings = with_items c.args.walk.now.goings c.make.new.goings; turns = c.push.new.self; reads = walk.reads }) c.in_ok-before-in-Some.before c.requires.stands c.requires.turn turned made.stays found c.in_ok-push-in-Some.ensures.items refl

pub returns-in_ok-push-in-Some-clause-turned : goal.returns-in_ok-push-in-Some-clause-turned
returns-in_ok-push-in-Some-clause-turned c =
    let walk = c.args.walk.now in
    let long : length c.make.new.goings ≡ walk.goings.len = omega (arith, c.make.auto.goings, c.as_mut_slice-goings.ensures.len) in
    subst (λ (gs : List Going). HasTurned c.args.self.now c.args.turn.unit walk.database.making c.make.new.database.making gs) (sym (with_items_is walk.goings c.make.new.goings long)) c.in_ok-before-in-Some.ensures.turned

pub returns-in_ok-push-in-Some-clause-links : goal.returns-in_ok-push-in-Some-clause-links
returns-in_ok-push-in-Some-clause-links c = ap links_of c.in_ok-push-in-Some.ensures.items ∙ map_push (λ (t : Taken). record { before = t.place; unit = t.unit }) c.args.walk.now.turns.items _
