use Rattle.std.proofs.Common.{◌≡◌, ◌-◌, Some, None, inl, inr, suc, slice_get, drop, length, refl, sym, ◌∙◌, arith}
use Rattle.std.proofs.lemmas.Bool.{false≢true}
use Rattle.std.proofs.lemmas.Option.{slice_get_read}
use Rattle.dbtg_unit.specs.declared.moves.Stepped.TheVariants.{Moved, NoMemory}
use Rattle.dbtg_step.specs.Machine.SequentialDatabase.{unit_at}
use Rattle.dbtg_step.specs.Inside.Events.{IsStepped}
use Rattle.dbtg_step.proofs.TheCore.EventsShown.{no_unit}
use Rattle.dbtg_step.proofs.TheCore.QuitShown.{stepped_well}
use Rattle.dbtg_step.proofs.MadeWhole.TurnsTaken.{arrives, at_its_end, goes_on, not_there, sets_out, stays}
use Rattle.dbtg_step.proofs.TheCore.Work.{not_blocked, not_idle, parts_less}
use Rattle.dbtg_step.proofs.taking_turns.take_one_turn.Goals as goal
use Rattle.dbtg_step.proofs.taking_turns.take_one_turn.Goals.{then-unit-eq0-via-then-unit-eq0, then-unit-eq0-via-else-unit-eq0+then-len-unit}

pub returns-then-unit-eq0-clause-turned : goal.returns-then-unit-eq0-clause-turned
returns-then-unit-eq0-clause-turned c =
    let items = c.args.parts.now.runners.items in
    let none : unit_at items c.args.unit ≡ None = no_unit items c.args.unit (elim c.then-unit-eq0.branch [ then-unit-eq0-via-then-unit-eq0 w ↦ inl (omega arith) | then-unit-eq0-via-else-unit-eq0+then-len-unit w ↦ inr (omega (arith, w.if-len-unit.true, w.len.ensures)) ]) in
    stays c.args.schema.now c.args.capacity c.args.unit 0 c.args.parts.now c.args.noted.now c.requires.between (not_there c.args.schema.now c.args.capacity c.args.unit 0 c.args.parts.now none)

pub returns-then-left-eq0-clause-turned : goal.returns-then-left-eq0-clause-turned
returns-then-left-eq0-clause-turned c =
    let runner = c.index.result.now in
    let items = c.args.parts.now.runners.items in
    let at : slice_get items (c.args.unit - 1) ≡ Some runner = slice_get_read items (length items) (c.args.unit - 1) runner refl (omega arith) c.index.ensures in
    let none : length (drop runner.next runner.script) ≡ 0 = omega (arith, c.statements_left-left.ensures) in
    stays c.args.schema.now c.args.capacity c.args.unit 0 c.args.parts.now c.args.noted.now c.requires.between
    (at_its_end c.args.schema.now c.args.capacity c.args.unit 0 c.args.parts.now runner c.requires.well (omega arith) at none)

pub loop-alloc-init : goal.loop-alloc-init
loop-alloc-init c =
    let runner = c.index.result.now in
    let items = c.args.parts.now.runners.items in
    let at : slice_get items (c.args.unit - 1) ≡ Some runner = slice_get_read items (length items) (c.args.unit - 1) runner refl (omega arith) c.index.ensures in
    let left : length (drop runner.next runner.script) ≡ suc (c.statements_left-left.result - 1) = omega (arith, c.statements_left-left.ensures) in
    sets_out c.args.schema.now c.args.capacity c.args.unit (c.statements_left-left.result - 1) c.args.parts.now c.args.noted.now runner c.requires.well c.requires.between (omega arith) at left

pub loop-alloc-smaller : goal.loop-alloc-smaller
loop-alloc-smaller c =
    let left = c.statements_left-left.result - 1 in
    let way = c.loop-alloc.invariant in
    let runner = c.index-in-loop-alloc.result.now in
    let items = c.loop-alloc.parts.runners.items in
    let at : slice_get items (c.args.unit - 1) ≡ Some runner = slice_get_read items (length items) (c.args.unit - 1) runner refl (omega (arith, way.count)) c.index-in-loop-alloc.ensures in
    parts_less c.args.schema.now c.args.capacity left c.args.unit c.loop-alloc.parts way.well way.alone runner (omega arith) at
    (λ h. false≢true (sym c.loop-alloc-test.true ∙ (c.is_done.ensures c.args.schema.now c.args.capacity).1 h)) c.step.new.parts (rw c.in-Moved.is at c.step.ensures)

pub loop-alloc-preserved : goal.loop-alloc-preserved
loop-alloc-preserved c =
    let left = c.statements_left-left.result - 1 in
    let way = c.loop-alloc.invariant in
    let runner = c.index-in-loop-alloc.result.now in
    let items = c.loop-alloc.parts.runners.items in
    let at : slice_get items (c.args.unit - 1) ≡ Some runner = slice_get_read items (length items) (c.args.unit - 1) runner refl (omega (arith, way.count)) c.index-in-loop-alloc.ensures in
    let stepped : IsStepped c.args.schema.now c.args.capacity c.args.unit Moved c.loop-alloc.parts c.step.new.parts = rw c.in-Moved.is at c.step.ensures in
    goes_on c.args.schema.now c.args.capacity c.args.unit left c.args.parts.now c.loop-alloc.parts c.args.noted.now c.loop-alloc.noted way runner (omega arith) at
    (λ h. false≢true (sym c.loop-alloc-test.true ∙ (c.is_done.ensures c.args.schema.now c.args.capacity).1 h)) c.step.new.parts stepped c.note.new.self c.in_ok-note-in-Moved.ensures

pub returns-in_err-note-in-Moved-clause-well : goal.returns-in_err-note-in-Moved-clause-well
returns-in_err-note-in-Moved-clause-well c =
    stepped_well c.args.schema.now c.args.capacity c.args.unit c.loop-alloc.parts c.step.new.parts c.loop-alloc.invariant.well Moved (rw c.in-Moved.is at c.step.ensures)

pub returns-in-NoMemory-clause-well : goal.returns-in-NoMemory-clause-well
returns-in-NoMemory-clause-well c =
    stepped_well c.args.schema.now c.args.capacity c.args.unit c.loop-alloc.parts c.step.new.parts c.loop-alloc.invariant.well NoMemory (rw c.in-NoMemory.is at c.step.ensures)

pub unreachable-requires : goal.unreachable-requires
unreachable-requires c =
    let left = c.statements_left-left.result - 1 in
    let way = c.loop-alloc.invariant in
    let runner = c.index-in-loop-alloc.result.now in
    let items = c.loop-alloc.parts.runners.items in
    let at : slice_get items (c.args.unit - 1) ≡ Some runner = slice_get_read items (length items) (c.args.unit - 1) runner refl (omega (arith, way.count)) c.index-in-loop-alloc.ensures in
    not_blocked c.args.schema.now c.args.capacity left c.args.unit c.loop-alloc.parts way.well way.alone runner (omega arith) at
    (λ h. false≢true (sym c.loop-alloc-test.true ∙ (c.is_done.ensures c.args.schema.now c.args.capacity).1 h)) c.step.new.parts (rw c.in-Blocked.is at c.step.ensures)

pub unreachable-requires-in-Idle : goal.unreachable-requires-in-Idle
unreachable-requires-in-Idle c =
    let left = c.statements_left-left.result - 1 in
    let way = c.loop-alloc.invariant in
    let runner = c.index-in-loop-alloc.result.now in
    let items = c.loop-alloc.parts.runners.items in
    let at : slice_get items (c.args.unit - 1) ≡ Some runner = slice_get_read items (length items) (c.args.unit - 1) runner refl (omega (arith, way.count)) c.index-in-loop-alloc.ensures in
    not_idle c.args.schema.now c.args.capacity left c.args.unit c.loop-alloc.parts way.well way.alone runner (omega arith) at
    (λ h. false≢true (sym c.loop-alloc-test.true ∙ (c.is_done.ensures c.args.schema.now c.args.capacity).1 h)) c.step.new.parts (rw c.in-Idle.is at c.step.ensures)

pub returns-clause-turned : goal.returns-clause-turned
returns-clause-turned c =
    let left = c.statements_left-left.result - 1 in
    let way = c.loop-alloc.invariant in
    let runner = c.index-in-loop-alloc.result.now in
    let items = c.loop-alloc.parts.runners.items in
    let at : slice_get items (c.args.unit - 1) ≡ Some runner = slice_get_read items (length items) (c.args.unit - 1) runner refl (omega (arith, way.count)) c.index-in-loop-alloc.ensures in
    arrives c.args.schema.now c.args.capacity c.args.unit left c.args.parts.now c.loop-alloc.parts c.args.noted.now c.loop-alloc.noted way runner (omega arith) at
    ((c.is_done.ensures c.args.schema.now c.args.capacity).0 c.loop-alloc-test.false)
