use Rattle.std.proofs.Common.{◌≡◌, ◌≤◌, ◌-◌, ◌∙◌, List, ap, refl, length, arith}
use Rattle.std.specs.Vec.{with_items}
use Rattle.std.proofs.lemmas.List.{with_items_is}
use Rattle.dbtg_unit.specs.declared.unit.Entry.{Entry}
use Rattle.dbtg_step.specs.Core.Reversible.{made_first}
use Rattle.dbtg_step.specs.Core.Whole.{Making}
use Rattle.dbtg_step.specs.Machine.SequentialDatabase.{with_unit_at}
use Rattle.dbtg_going.specs.declared.member.Going.{Going}
use Rattle.dbtg_explore.proofs.Walks.{is_last, stands_back}
use Rattle.dbtg_explore.proofs.walk.Walk.take_back.Goals as goal

pub overflow_sub-count : goal.overflow_sub-count
overflow_sub-count c =
    let s = c.args.self.now in
    let last = is_last c.requires.0 s c.pop.new.self.items c.in-Some.field-0 c.requires.1 c.in-Some.ensures.items in
    let count : length c.history-count.result.now ≡ length s.database.making.history = ap (λ (es : List Entry). length es) (c.history-count.ensures.history ∙ ap (λ (d : Making). d.history) c.database.ensures) in
    omega (arith, last.some, count)

pub take_back_to-requires : goal.take_back_to-requires
take_back_to-requires c =
    let s = c.args.self.now in
    let last = is_last c.requires.0 s c.pop.new.self.items c.in-Some.field-0 c.requires.1 c.in-Some.ensures.items in
    let count : length c.history-count.result.now ≡ length s.database.making.history = ap (λ (es : List Entry). length es) (c.history-count.ensures.history ∙ ap (λ (d : Making). d.history) c.database.ensures) in
    let above : s.database.stays ≤ length c.history-count.result.now - 1 = omega (arith, last.above, count) in
    record { above = above }

pub put_back-requires-clause-numbered : goal.put_back-requires-clause-numbered
put_back-requires-clause-numbered c =
    let last = is_last c.requires.0 c.args.self.now c.pop.new.self.items c.in-Some.field-0 c.requires.1 c.in-Some.ensures.items in
    last.numbered

pub put_back-requires-clause-within : goal.put_back-requires-clause-within
put_back-requires-clause-within c =
    let last = is_last c.requires.0 c.args.self.now c.pop.new.self.items c.in-Some.field-0 c.requires.1 c.in-Some.ensures.items in
    let count = ap (λ (gs : List Going). length gs) c.as_mut_slice.ensures.value in
    omega (arith, last.within, count)

pub returns-in-Some-clause-stands : goal.returns-in-Some-clause-stands
returns-in-Some-clause-stands c = λ m h.
    let s = c.args.self.now in
    let t = c.in-Some.field-0 in
    let count : length c.history-count.result.now ≡ length s.database.making.history = ap (λ (es : List Entry). length es) (c.history-count.ensures.history ∙ ap (λ (d : Making). d.history) c.database.ensures) in
    let long : length c.put_back.new.goings ≡ s.goings.len = omega (arith, c.put_back.auto.goings, c.as_mut_slice.ensures.len) in
    stands_back m s c.pop.new.self.items t h c.in-Some.ensures.items (record { database = c.take_back_to.new.self; goings = with_items s.goings c.put_back.new.goings; turns = c.pop.new.self; reads = s.reads }) refl
    (c.take_back_to.ensures ∙ (λ i. record s.database { making = made_first (count i - 1) s.database.making })) (with_items_is s.goings c.put_back.new.goings long ∙ c.put_back.ensures ∙ ap (λ (gs : List Going). with_unit_at gs t.unit t.before) c.as_mut_slice.ensures.value) refl
