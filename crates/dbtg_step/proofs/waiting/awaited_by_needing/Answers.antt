use Rattle.std.proofs.Common.{◌≡◌, ◌∙◌, Some, slice_get, length, refl, subst, sym, ◌-◌, arith}
use Rattle.std.proofs.lemmas.Option.{same_Some, slice_get_read}
use Rattle.dbtg_unit.specs.declared.statement.Statement.{Statement}
use Rattle.dbtg_step.specs.Machine.NeedOrder.{HasItsAreas}
use Rattle.dbtg_step.proofs.TheCore.NeedsShown.{needs_next, statement_fits, unit_in}
use Rattle.dbtg_step.proofs.TheCore.WaitingShown.{delete_goes_on}
use Rattle.dbtg_step.proofs.waiting.awaited_by_needing.Goals as goal

pub statement_of-statement-requires : goal.statement_of-statement-requires
statement_of-statement-requires c =
    let items = c.args.parts.now.runners.items in
    let at : slice_get items (c.args.unit - 1) ≡ Some c.index-runner.result.now = slice_get_read items (length items) (c.args.unit - 1) c.index-runner.result.now refl (omega (arith, c.requires.within, c.requires.numbered)) c.index-runner.ensures in
    (c.requires.stands c.index-runner.result.now at).before.left

pub need_unless_delete-requires-clause-fits : goal.need_unless_delete-requires-clause-fits
need_unless_delete-requires-clause-fits c =
    let items = c.args.parts.now.runners.items in
    let at : slice_get items (c.args.unit - 1) ≡ Some c.index-runner.result.now = slice_get_read items (length items) (c.args.unit - 1) c.index-runner.result.now refl (omega (arith, c.requires.within, c.requires.numbered)) c.index-runner.ensures in
    statement_fits c.args.schema.now c.args.capacity c.args.unit c.args.parts.now c.index-runner.result.now c.requires.well c.requires.numbered at c.statement_of-statement.result.now c.statement_of-statement.ensures

pub need_unless_delete-requires-clause-of_schema : goal.need_unless_delete-requires-clause-of_schema
need_unless_delete-requires-clause-of_schema c =
    let items = c.args.parts.now.runners.items in
    let at : slice_get items (c.args.unit - 1) ≡ Some c.index-runner.result.now = slice_get_read items (length items) (c.args.unit - 1) c.index-runner.result.now refl (omega (arith, c.requires.within, c.requires.numbered)) c.index-runner.ensures in
    (unit_in c.args.schema.now c.args.capacity c.args.unit c.args.parts.now c.index-runner.result.now c.requires.well c.requires.numbered at).of_schema

pub need_unless_delete-requires-clause-within : goal.need_unless_delete-requires-clause-within
need_unless_delete-requires-clause-within c =
    let items = c.args.parts.now.runners.items in
    let at : slice_get items (c.args.unit - 1) ≡ Some c.index-runner.result.now = slice_get_read items (length items) (c.args.unit - 1) c.index-runner.result.now refl (omega (arith, c.requires.within, c.requires.numbered)) c.index-runner.ensures in
    (unit_in c.args.schema.now c.args.capacity c.args.unit c.args.parts.now c.index-runner.result.now c.requires.well c.requires.numbered at).within

pub awaited_by_need-requires-clause-needs : goal.awaited_by_need-requires-clause-needs
awaited_by_need-requires-clause-needs c =
    let items = c.args.parts.now.runners.items in
    let at : slice_get items (c.args.unit - 1) ≡ Some c.index-runner.result.now = slice_get_read items (length items) (c.args.unit - 1) c.index-runner.result.now refl (omega (arith, c.requires.within, c.requires.numbered)) c.index-runner.ensures in
    let x = c.statement_of-statement in
    let is = rw c.in-Some.is at c.need_unless_delete.ensures in
    needs_next c.args.schema.now c.args.capacity c.args.unit c.args.parts.now c.index-runner.result.now c.requires.well c.requires.numbered at c.args.progress x.result.now c.in-Some.need x.ensures is

pub returns-in-None : goal.returns-in-None
returns-in-None c =
    let items = c.args.parts.now.runners.items in
    let at : slice_get items (c.args.unit - 1) ≡ Some c.index-runner.result.now = slice_get_read items (length items) (c.args.unit - 1) c.index-runner.result.now refl (omega (arith, c.requires.within, c.requires.numbered)) c.index-runner.ensures in
    delete_goes_on c.args.schema.now c.args.capacity c.args.unit c.args.parts.now c.requires.well c.index-runner.result.now c.requires.numbered at c.args.progress (c.requires.stands c.index-runner.result.now at) (λ x e.
    subst (λ (y : Statement). HasItsAreas c.args.schema.now c.index-runner.result.now.unit c.index-runner.result.now.held y) (same_Some _ x (sym c.statement_of-statement.ensures ∙ e)) (rw c.in-None.is at c.need_unless_delete.ensures))
