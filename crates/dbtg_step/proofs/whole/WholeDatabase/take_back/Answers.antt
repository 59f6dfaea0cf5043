use Rattle.std.proofs.Common.{arith}
use Rattle.dbtg_step.proofs.MadeWhole.Reversals.{taken_unit, whole_before}
use Rattle.dbtg_step.proofs.whole.WholeDatabase.take_back.Goals as goal

pub overflow_sub-entry : goal.overflow_sub-entry
overflow_sub-entry c =
    let n = (taken_unit c.self.inside.schema.now c.self.inside.capacity c.self.inside.held c.self.inside.units.items c.self.inside.history.items c.pop.new.self.items c.in-Some.entry c.args.way c.self.invariant c.in-Some.ensures.items c.args.self.now c.self.view_is c.requires).0 in
    omega (arith, n)

pub index_mut-requires : goal.index_mut-requires
index_mut-requires c =
    let n = taken_unit c.self.inside.schema.now c.self.inside.capacity c.self.inside.held c.self.inside.units.items c.self.inside.history.items c.pop.new.self.items c.in-Some.entry c.args.way c.self.invariant c.in-Some.ensures.items c.args.self.now c.self.view_is c.requires in
    let numbered = n.0 in
    let within = n.1 in
    omega (arith, numbered, within, c.self.inside.units.ok.0)

pub invariant_of-self : goal.invariant_of-self
invariant_of-self c = whole_before c.self.inside.schema.now c.self.inside.capacity c.self.inside.held c.self.inside.units.items c.self.inside.history.items c.pop.new.self.items c.in-Some.entry c.args.way c.self.invariant c.in-Some.ensures.items c.args.self.now c.self.view_is c.requires c.put_each_back.new.held c.put_each_back.ensures
