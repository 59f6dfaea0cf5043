use Rattle.std.proofs.Common.{◌<◌, sym, subst}
use Rattle.dbtg_interned.specs.Arrays.{IsArray, size}
use Rattle.dbtg_states.specs.Numbers.{HasPut, Numbers}
use Rattle.dbtg_states.proofs.States.Numbers.{put_is}
use Rattle.dbtg_states.proofs.numbers.Numbers.put.Goals as goal

pub returns-clause-put : goal.returns-clause-put
returns-clause-put c =
    let old : Numbers = record { contents = c.self.inside.contents; arrays = c.self.inside.arrays } in
    let new : Numbers = record { contents = c.enter.new.self; arrays = c.with_element.new.self } in
    subst (λ (o : Numbers). HasPut o new c.args.array c.args.place c.args.content.now c.in_ok-changed.changed) c.self.view_is
    (put_is old new c.args.array c.args.place c.in_ok-number.number c.in_ok-changed.changed c.args.content.now c.each_node_stands_once.ensures
    (record { contents = c.enter.ensures.sound; arrays = c.with_element.ensures.sound })
    (record { contents = c.enter.ensures.keeps; arrays = c.with_element.ensures.grows })
    (subst (λ (o : Numbers). c.args.place < size o.arrays) (sym c.self.view_is) c.requires.within)
    (subst (λ (o : Numbers). IsArray o.arrays c.args.array) (sym c.self.view_is) c.requires.array)
    c.in_ok-changed.ensures.array c.in_ok-changed.ensures.elements c.in_ok-number.ensures.number)
