use Rattle.std.proofs.Common.{◌≡◌, ℕ, length, subst, arith}
use Rattle.dbtg_states.specs.Numbers.{IsNumberBut}
use Rattle.dbtg_explore.specs.Inside.Parts.{parts_of}
use Rattle.dbtg_states.proofs.States.Numbers.{none_put, one_put}
use Rattle.dbtg_explore.proofs.meeting.Meeting.put_units.Goals as goal

pub loop-before-init : goal.loop-before-init
loop-before-init c = none_put (parts_of c.args.self.now c.args.walk.now.database.making.history) c.args.numbers.now c.args.array

pub put_unit-requires-clause-array : goal.put_unit-requires-clause-array
put_unit-requires-clause-array c = (c.loop-before.invariant.but c.requires.but.0 c.requires.but.1).is_array

pub put_unit-requires-clause-room : goal.put_unit-requires-clause-room
put_unit-requires-clause-room c = (c.loop-before.invariant.but c.requires.but.0 c.requires.but.1).room

pub put_unit-requires-clause-there : goal.put_unit-requires-clause-there
put_unit-requires-clause-there c = (omega arith, omega (arith, c.units-before-end.ensures, c.loop-before-test.true))

pub loop-before-preserved : goal.loop-before-preserved
loop-before-preserved c =
    one_put (parts_of c.args.self.now c.args.walk.now.database.making.history) c.args.numbers.now c.loop-before.numbers c.put_unit.new.numbers c.loop-before.before c.args.array c.loop-before.number c.in_ok-number.number
    (omega (arith, c.units-before-end.ensures, c.loop-before-test.true)) c.loop-before.invariant c.in_ok-number.ensures

pub returns-clause-keeps : goal.returns-clause-keeps
returns-clause-keeps c = c.loop-before.invariant.keeps

pub returns-clause-number : goal.returns-clause-number
returns-clause-number c = λ names h.
    let m = c.args.self.now in
    let all : c.loop-before.before ≡ length m.programs = omega (arith, c.units-before-end.ensures, c.loop-before-test.false) in
    subst (λ (u : ℕ). IsNumberBut (parts_of m c.args.walk.now.database.making.history) c.loop-before.numbers u names c.loop-before.number) all (c.loop-before.invariant.but names h)
