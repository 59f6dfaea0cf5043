use Rattle.std.proofs.Common.{sym, subst}
use Rattle.dbtg_step.specs.Core.Bare.{IsWhole}
use Rattle.dbtg_step.proofs.MadeWhole.Wholes.{opens}
use Rattle.dbtg_step.proofs.whole.WholeDatabase.opening.Goals as goal

pub invariant_of-result : goal.invariant_of-result
invariant_of-result c =
    let schema = c.args.schema.now in
    let o = opens schema c.args.capacity c.args.units c.in_ok-opening_hands.field-0 c.in_ok-opening_units.field-0.items c.requires.sound c.in_ok-opening_units.ensures c.in_ok-opening_hands.ensures.all c.in_ok-opening_hands.ensures.cells in
    subst (IsWhole schema c.args.capacity c.in_ok-opening_hands.field-0 c.in_ok-opening_units.field-0.items) (sym c.new.ensures.items) o.1

pub returns : goal.returns
returns c =
    let schema = c.args.schema.now in
    let o = opens schema c.args.capacity c.args.units c.in_ok-opening_hands.field-0 c.in_ok-opening_units.field-0.items c.requires.sound c.in_ok-opening_units.ensures c.in_ok-opening_hands.ensures.all c.in_ok-opening_hands.ensures.cells in
    λ i. record { schema = schema; capacity = c.args.capacity; units = o.0 i; history = c.new.ensures.items i }
