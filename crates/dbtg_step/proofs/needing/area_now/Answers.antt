use Rattle.std.proofs.Common.{◌≡◌, Some, slice_get, slice_set, length, refl, ap, ◌-◌, arith}
use Rattle.std.proofs.lemmas.Option.{slice_get_read}
use Rattle.std.specs.Vec.{with_item}
use Rattle.dbtg_unit.specs.declared.held.Need.TheVariants.{Area}
use Rattle.dbtg_step.proofs.TheCore.CourseAlone.{course_alone, onward_needs, onward_stands, onward_well, some_also}
use Rattle.dbtg_step.proofs.needing.area_now.Goals as goal

pub area_of-requires-clause-kept : goal.area_of-requires-clause-kept
area_of-requires-clause-kept c =
    let runner = c.index_mut.result.now in
    let items = c.args.parts.now.runners.items in
    let at : slice_get items (c.args.unit - 1) ≡ Some runner = slice_get_read items (length items) (c.args.unit - 1) runner refl (omega (arith, c.requires.within, c.requires.numbered)) c.index_mut.ensures.value in
    (c.requires.well.runners (c.args.unit - 1) runner at).course c.args.progress (c.requires.stands runner at).before.progress (c.requires.stands runner at).before.ticket

pub returns-clause-alone : goal.returns-clause-alone
returns-clause-alone c =
    let runner = c.index_mut.result.now in
    let items = c.args.parts.now.runners.items in
    let at : slice_get items (c.args.unit - 1) ≡ Some runner = slice_get_read items (length items) (c.args.unit - 1) runner refl (omega (arith, c.requires.within, c.requires.numbered)) c.index_mut.ensures.value in
    course_alone c.args.unit c.args.parts.now _ runner c.area_of.new.runner at refl refl refl c.area_of.ensures.rest

pub returns-clause-well : goal.returns-clause-well
returns-clause-well c =
    let runner = c.index_mut.result.now in
    let items = c.args.parts.now.runners.items in
    let at : slice_get items (c.args.unit - 1) ≡ Some runner = slice_get_read items (length items) (c.args.unit - 1) runner refl (omega (arith, c.requires.within, c.requires.numbered)) c.index_mut.ensures.value in
    onward_well c.args.schema.now c.args.capacity c.args.unit c.args.parts.now _ runner c.requires.numbered at c.area_of.new.runner.course refl refl (ap (slice_set items (c.args.unit - 1)) c.area_of.ensures.rest) c.requires.well c.area_of.ensures.kept

pub returns-clause-stands : goal.returns-clause-stands
returns-clause-stands c =
    let runner = c.index_mut.result.now in
    let items = c.args.parts.now.runners.items in
    let at : slice_get items (c.args.unit - 1) ≡ Some runner = slice_get_read items (length items) (c.args.unit - 1) runner refl (omega (arith, c.requires.within, c.requires.numbered)) c.index_mut.ensures.value in
    onward_stands c.args.schema.now c.args.capacity c.args.unit c.args.parts.now (record c.args.parts.now { runners = with_item c.args.parts.now.runners (c.args.unit - 1) c.area_of.new.runner }) runner c.requires.numbered at c.area_of.new.runner.course refl refl (ap (slice_set items (c.args.unit - 1)) c.area_of.ensures.rest) c.args.progress (c.requires.stands runner at)

pub returns-clause-need : goal.returns-clause-need
returns-clause-need c =
    let runner = c.index_mut.result.now in
    let items = c.args.parts.now.runners.items in
    let at : slice_get items (c.args.unit - 1) ≡ Some runner = slice_get_read items (length items) (c.args.unit - 1) runner refl (omega (arith, c.requires.within, c.requires.numbered)) c.index_mut.ensures.value in
    let well = onward_well c.args.schema.now c.args.capacity c.args.unit c.args.parts.now _ runner c.requires.numbered at c.area_of.new.runner.course refl refl (ap (slice_set items (c.args.unit - 1)) c.area_of.ensures.rest) c.requires.well c.area_of.ensures.kept in
    some_also c.area_of.result _ _ (λ a. onward_needs c.args.schema.now c.args.capacity c.args.unit c.args.parts.now _ runner c.requires.numbered at c.area_of.new.runner.course refl refl (ap (slice_set items (c.args.unit - 1)) c.area_of.ensures.rest) well c.args.progress (c.requires.stands runner at) (Area a)) c.area_of.ensures.need
