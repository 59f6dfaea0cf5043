use Rattle.std.proofs.Common.{◌≡◌, Some, slice_get, length, refl, sym, subst, inl, inr, ◌∙◌, ◌-◌, arith}
use Rattle.std.proofs.lemmas.Option.{same_Some, slice_get_read}
use Rattle.dbtg_schema.proofs.Public.{none_is, some_is}
use Rattle.dbtg_step.specs.declared.parts.UnitState.{UnitState}
use Rattle.dbtg_step.specs.Inside.Stands.{StandsUnticketed}
use Rattle.dbtg_step.proofs.TheCore.QuitShown.{between_quits, no_unit_quits, ticketed_quits}
use Rattle.dbtg_step.proofs.quitting.quit.Goals as goal
use Rattle.dbtg_step.proofs.quitting.quit.Goals.{then-unit-eq0-via-then-unit-eq0, then-unit-eq0-via-else-unit-eq0+then-len-unit}

pub returns-then-unit-eq0 : goal.returns-then-unit-eq0
returns-then-unit-eq0 c =
    no_unit_quits c.args.schema.now c.args.capacity c.args.unit c.args.parts.now c.requires.well
    (elim c.then-unit-eq0.branch [ then-unit-eq0-via-then-unit-eq0 w ↦ inl (omega arith) | then-unit-eq0-via-else-unit-eq0+then-len-unit w ↦ inr (omega (arith, w.if-len-unit.true, w.len.ensures)) ])

pub quit_event-requires-clause-stands : goal.quit_event-requires-clause-stands
quit_event-requires-clause-stands c r is =
    let items = c.args.parts.now.runners.items in
    let at : slice_get items (c.args.unit - 1) ≡ Some c.index.result.now = slice_get_read items (length items) (c.args.unit - 1) c.index.result.now refl (omega arith) c.index.ensures in
    let same : c.index.result.now ≡ r = same_Some _ r (sym at ∙ is) in
    subst (λ (x : UnitState). StandsUnticketed x) same (record { w = c.in-Some.progress; progress = c.in-Some.is; ticket = none_is c.in-Some.progress.ticket (sym c.is_some.ensures ∙ c.if-is_some.false) })

pub returns-in-None : goal.returns-in-None
returns-in-None c =
    let items = c.args.parts.now.runners.items in
    let at : slice_get items (c.args.unit - 1) ≡ Some c.index.result.now = slice_get_read items (length items) (c.args.unit - 1) c.index.result.now refl (omega arith) c.index.ensures in
    between_quits c.args.schema.now c.args.capacity c.args.unit c.args.parts.now c.requires.well c.index.result.now (omega arith) at c.in-None.is

pub returns-then-is_some : goal.returns-then-is_some
returns-then-is_some c =
    let items = c.args.parts.now.runners.items in
    let at : slice_get items (c.args.unit - 1) ≡ Some c.index.result.now = slice_get_read items (length items) (c.args.unit - 1) c.index.result.now refl (omega arith) c.index.ensures in
    let ticket = some_is c.in-Some.progress.ticket (sym c.is_some.ensures ∙ c.if-is_some.true) in
    ticketed_quits c.args.schema.now c.args.capacity c.args.unit c.args.parts.now c.requires.well c.index.result.now (omega arith) at c.in-Some.progress ticket.0 c.in-Some.is ticket.1
