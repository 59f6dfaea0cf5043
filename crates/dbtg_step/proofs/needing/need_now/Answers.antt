use Rattle.std.proofs.Common.{◌≡◌, Some, slice_get, slice_set, length, refl, ap, ◌-◌, arith}
use Rattle.std.proofs.lemmas.Option.{slice_get_read}
use Rattle.std.specs.Vec.{with_item}
use Rattle.dbtg_step.specs.declared.parts.Parts.{Parts}
use Rattle.dbtg_step.proofs.TheCore.CourseAlone.{course_alone, onward_areas, onward_needs, onward_stands, onward_well}
use Rattle.dbtg_step.proofs.TheCore.NeedsRefused.{err_also}
use Rattle.dbtg_step.proofs.TheCore.NeedsShown.{ok_also, statement_fits, unit_in}
use Rattle.dbtg_step.proofs.needing.need_now.Goals as goal

pub need_of-requires-clause-kept : goal.need_of-requires-clause-kept
need_of-requires-clause-kept c =
    let runner = c.index_mut.result.now in
    let items = c.args.parts.now.runners.items in
    let at : slice_get items (c.args.unit - 1) ≡ Some runner = slice_get_read items (length items) (c.args.unit - 1) runner refl (omega (arith, c.requires.within, c.requires.numbered)) c.index_mut.ensures.value in
    let before = (c.requires.stands runner at).before in
    (c.requires.well.runners (c.args.unit - 1) runner at).course c.args.progress before.progress before.ticket

pub need_of-requires-clause-fits : goal.need_of-requires-clause-fits
need_of-requires-clause-fits c =
    let runner = c.index_mut.result.now in
    let items = c.args.parts.now.runners.items in
    let at : slice_get items (c.args.unit - 1) ≡ Some runner = slice_get_read items (length items) (c.args.unit - 1) runner refl (omega (arith, c.requires.within, c.requires.numbered)) c.index_mut.ensures.value in
    statement_fits c.args.schema.now c.args.capacity c.args.unit c.args.parts.now runner c.requires.well c.requires.numbered at

pub need_of-requires-clause-of_schema : goal.need_of-requires-clause-of_schema
need_of-requires-clause-of_schema c =
    let runner = c.index_mut.result.now in
    let items = c.args.parts.now.runners.items in
    let at : slice_get items (c.args.unit - 1) ≡ Some runner = slice_get_read items (length items) (c.args.unit - 1) runner refl (omega (arith, c.requires.within, c.requires.numbered)) c.index_mut.ensures.value in
    (unit_in c.args.schema.now c.args.capacity c.args.unit c.args.parts.now runner c.requires.well c.requires.numbered at).of_schema

pub need_of-requires-clause-within : goal.need_of-requires-clause-within
need_of-requires-clause-within c =
    let runner = c.index_mut.result.now in
    let items = c.args.parts.now.runners.items in
    let at : slice_get items (c.args.unit - 1) ≡ Some runner = slice_get_read items (length items) (c.args.unit - 1) runner refl (omega (arith, c.requires.within, c.requires.numbered)) c.index_mut.ensures.value in
    (unit_in c.args.schema.now c.args.capacity c.args.unit c.args.parts.now runner c.requires.well c.requires.numbered at).within

pub returns-clause-alone : goal.returns-clause-alone
returns-clause-alone c =
    let runner = c.index_mut.result.now in
    let items = c.args.parts.now.runners.items in
    let at : slice_get items (c.args.unit - 1) ≡ Some runner = slice_get_read items (length items) (c.args.unit - 1) runner refl (omega (arith, c.requires.within, c.requires.numbered)) c.index_mut.ensures.value in
    course_alone c.args.unit c.args.parts.now _ runner c.need_of.new.runner at refl refl refl c.need_of.ensures.rest

pub returns-clause-well : goal.returns-clause-well
returns-clause-well c =
    let runner = c.index_mut.result.now in
    let items = c.args.parts.now.runners.items in
    let at : slice_get items (c.args.unit - 1) ≡ Some runner = slice_get_read items (length items) (c.args.unit - 1) runner refl (omega (arith, c.requires.within, c.requires.numbered)) c.index_mut.ensures.value in
    onward_well c.args.schema.now c.args.capacity c.args.unit c.args.parts.now _ runner c.requires.numbered at c.need_of.new.runner.course refl refl (ap (slice_set items (c.args.unit - 1)) c.need_of.ensures.rest) c.requires.well c.need_of.ensures.kept

pub returns-clause-stands : goal.returns-clause-stands
returns-clause-stands c =
    let runner = c.index_mut.result.now in
    let items = c.args.parts.now.runners.items in
    let at : slice_get items (c.args.unit - 1) ≡ Some runner = slice_get_read items (length items) (c.args.unit - 1) runner refl (omega (arith, c.requires.within, c.requires.numbered)) c.index_mut.ensures.value in
    let after : Parts = record c.args.parts.now { runners = with_item c.args.parts.now.runners (c.args.unit - 1) c.need_of.new.runner } in
    onward_stands c.args.schema.now c.args.capacity c.args.unit c.args.parts.now after runner c.requires.numbered at c.need_of.new.runner.course refl refl (ap (slice_set items (c.args.unit - 1)) c.need_of.ensures.rest) c.args.progress (c.requires.stands runner at)

pub returns-clause-need : goal.returns-clause-need
returns-clause-need c =
    let runner = c.index_mut.result.now in
    let items = c.args.parts.now.runners.items in
    let at : slice_get items (c.args.unit - 1) ≡ Some runner = slice_get_read items (length items) (c.args.unit - 1) runner refl (omega (arith, c.requires.within, c.requires.numbered)) c.index_mut.ensures.value in
    let well = onward_well c.args.schema.now c.args.capacity c.args.unit c.args.parts.now _ runner c.requires.numbered at c.need_of.new.runner.course refl refl (ap (slice_set items (c.args.unit - 1)) c.need_of.ensures.rest) c.requires.well c.need_of.ensures.kept in
    ok_also c.need_of.result _ _ (onward_needs c.args.schema.now c.args.capacity c.args.unit c.args.parts.now _ runner c.requires.numbered at c.need_of.new.runner.course refl refl (ap (slice_set items (c.args.unit - 1)) c.need_of.ensures.rest) well c.args.progress (c.requires.stands runner at)) c.need_of.ensures.need

pub returns-clause-refused : goal.returns-clause-refused
returns-clause-refused c =
    let runner = c.index_mut.result.now in
    let items = c.args.parts.now.runners.items in
    let at : slice_get items (c.args.unit - 1) ≡ Some runner = slice_get_read items (length items) (c.args.unit - 1) runner refl (omega (arith, c.requires.within, c.requires.numbered)) c.index_mut.ensures.value in
    let after : Parts = record c.args.parts.now { runners = with_item c.args.parts.now.runners (c.args.unit - 1) c.need_of.new.runner } in
    err_also c.need_of.result _ _ (onward_areas c.args.schema.now c.args.capacity c.args.unit c.args.parts.now after runner c.requires.numbered at c.need_of.new.runner.course refl refl (ap (slice_set items (c.args.unit - 1)) c.need_of.ensures.rest)) c.need_of.ensures.refused
