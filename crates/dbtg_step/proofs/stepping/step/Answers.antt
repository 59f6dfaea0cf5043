use Rattle.std.proofs.Common.{◌≡◌, Some, slice_get, length, refl, sym, subst, inl, inr, ◌∙◌, ◌-◌, arith}
use Rattle.std.proofs.lemmas.Option.{same_Some, slice_get_read}
use Rattle.dbtg_step.specs.declared.parts.UnitState.{UnitState}
use Rattle.dbtg_step.specs.Inside.Stands.{StandsBetween, StandsNeeding, StandsTicketed, StandsTurning}
use Rattle.dbtg_step.proofs.TheCore.EventsShown.{has_statement, no_unit_idle, over_idle, stands_so}
use Rattle.dbtg_step.proofs.stepping.step.Goals as goal
use Rattle.dbtg_step.proofs.stepping.step.Goals.{then-unit-eq0-via-then-unit-eq0, then-unit-eq0-via-else-unit-eq0+then-len-unit}

pub returns-then-unit-eq0 : goal.returns-then-unit-eq0
returns-then-unit-eq0 c =
    no_unit_idle c.args.schema.now c.args.capacity c.args.unit c.args.parts.now c.requires.well
    (elim c.then-unit-eq0.branch [ then-unit-eq0-via-then-unit-eq0 w ↦ inl (omega arith) | then-unit-eq0-via-else-unit-eq0+then-len-unit w ↦ inr (omega (arith, w.if-len-unit.true, w.len.ensures)) ])

pub returns-in-Over : goal.returns-in-Over
returns-in-Over c =
    let items = c.args.parts.now.runners.items in
    let at : slice_get items (c.args.unit - 1) ≡ Some c.index-runner.result.now = slice_get_read items (length items) (c.args.unit - 1) c.index-runner.result.now refl (omega arith) c.index-runner.ensures in
    over_idle c.args.schema.now c.args.capacity c.args.unit c.args.parts.now c.requires.well c.index-runner.result.now (omega arith) at (rw c.in-Over.is at c.phase_of.ensures)

pub returns-in-Between : goal.returns-in-Between
returns-in-Between c = c.begin_event.ensures c.args.schema.now c.args.capacity c.requires.well

pub returns-in-TurningBack : goal.returns-in-TurningBack
returns-in-TurningBack c = c.turn_back_event.ensures

pub begin_event-requires-clause-stands : goal.begin_event-requires-clause-stands
begin_event-requires-clause-stands c r is =
    let items = c.args.parts.now.runners.items in
    let at : slice_get items (c.args.unit - 1) ≡ Some c.index-runner.result.now = slice_get_read items (length items) (c.args.unit - 1) c.index-runner.result.now refl (omega arith) c.index-runner.ensures in
    let same : c.index-runner.result.now ≡ r = same_Some _ r (sym at ∙ is) in
    subst (λ (x : UnitState). StandsBetween x) same (rw c.in-Between.is at c.phase_of.ensures)

pub turn_back_event-requires-clause-stands : goal.turn_back_event-requires-clause-stands
turn_back_event-requires-clause-stands c r is =
    let items = c.args.parts.now.runners.items in
    let at : slice_get items (c.args.unit - 1) ≡ Some c.index-runner.result.now = slice_get_read items (length items) (c.args.unit - 1) c.index-runner.result.now refl (omega arith) c.index-runner.ensures in
    let same : c.index-runner.result.now ≡ r = same_Some _ r (sym at ∙ is) in
    stands_so StandsTurning (λ x w s. s.before.progress) same (rw c.in-TurningBack.is at c.phase_of.ensures) c.progress_of-progress.ensures

pub event_before_ticket-requires-clause-stands : goal.event_before_ticket-requires-clause-stands
event_before_ticket-requires-clause-stands c r is =
    let items = c.args.parts.now.runners.items in
    let at : slice_get items (c.args.unit - 1) ≡ Some c.index-runner.result.now = slice_get_read items (length items) (c.args.unit - 1) c.index-runner.result.now refl (omega arith) c.index-runner.ensures in
    let same : c.index-runner.result.now ≡ r = same_Some _ r (sym at ∙ is) in
    stands_so StandsNeeding (λ x w s. s.before.progress) same (rw c.in-Needing.is at c.phase_of.ensures) c.progress_of-progress-in-Needing.ensures

pub end_event-requires-clause-stands : goal.end_event-requires-clause-stands
end_event-requires-clause-stands c r is =
    let items = c.args.parts.now.runners.items in
    let at : slice_get items (c.args.unit - 1) ≡ Some c.index-runner.result.now = slice_get_read items (length items) (c.args.unit - 1) c.index-runner.result.now refl (omega arith) c.index-runner.ensures in
    let same : c.index-runner.result.now ≡ r = same_Some _ r (sym at ∙ is) in
    stands_so StandsTicketed (λ x w s. s.progress) same (rw c.in-Ticketed.is at c.phase_of.ensures) c.progress_of-progress-in-Ticketed.ensures

pub phase_of-requires : goal.phase_of-requires
phase_of-requires c =
    let items = c.args.parts.now.runners.items in
    let at : slice_get items (c.args.unit - 1) ≡ Some c.index-runner.result.now = slice_get_read items (length items) (c.args.unit - 1) c.index-runner.result.now refl (omega arith) c.index-runner.ensures in
    has_statement c.args.schema.now c.args.capacity c.args.unit c.args.parts.now c.requires.well c.index-runner.result.now (omega arith) at
