use Rattle.std.proofs.Common.{◌≡◌, Some, slice_get, length, refl, sym, ◌-◌, arith}
use Rattle.std.proofs.lemmas.Option.{slice_get_read}
use Rattle.dbtg_step.proofs.TheCore.FollowsShown.{owners_noted, statement}
use Rattle.dbtg_step.proofs.TheCore.NeedsShown.{agrees_now, database_now, statement_fits}
use Rattle.dbtg_step.proofs.needing.note_owners_event.Goals as goal

pub noted_guesses-guesses-requires-clause-fits : goal.noted_guesses-guesses-requires-clause-fits
noted_guesses-guesses-requires-clause-fits c =
    let runner = c.index_mut-runner.result.now in
    let items = c.args.parts.now.runners.items in
    let at : slice_get items (c.args.unit - 1) ≡ Some runner = slice_get_read items (length items) (c.args.unit - 1) runner refl (omega (arith, c.requires.within, c.requires.numbered)) c.index_mut-runner.ensures.value in
    statement_fits c.args.schema.now c.args.capacity c.args.unit c.args.parts.now runner c.requires.well c.requires.numbered at

pub noted_guesses-guesses-requires-clause-count : goal.noted_guesses-guesses-requires-clause-count
noted_guesses-guesses-requires-clause-count c =
    let runner = c.index_mut-runner.result.now in
    let items = c.args.parts.now.runners.items in
    let at : slice_get items (c.args.unit - 1) ≡ Some runner = slice_get_read items (length items) (c.args.unit - 1) runner refl (omega (arith, c.requires.within, c.requires.numbered)) c.index_mut-runner.ensures.value in
    (c.requires.well.runners (c.args.unit - 1) runner at).guesses

pub returns : goal.returns
returns c =
    let schema = c.args.schema.now in
    let capacity = c.args.capacity in
    let parts = c.args.parts.now in
    let runner = c.index_mut-runner.result.now in
    let items = parts.runners.items in
    let at : slice_get items (c.args.unit - 1) ≡ Some runner = slice_get_read items (length items) (c.args.unit - 1) runner refl (omega (arith, c.requires.within, c.requires.numbered)) c.index_mut-runner.ensures.value in
    let stands = c.requires.stands runner at in
    let x = statement schema capacity c.args.unit parts runner c.requires.well c.requires.numbered at c.args.progress stands in
    let db = database_now schema capacity c.args.unit parts runner c.requires.well c.requires.numbered at in
    let agrees = agrees_now schema capacity c.args.unit parts runner c.requires.well c.requires.numbered at in
    let noted = c.noted_guesses-guesses.ensures x.0 capacity db x.1 agrees (sym ((c.requires.needs runner x.0 at x.1).everywhere db agrees)) in
    owners_noted schema capacity c.args.unit parts runner c.requires.well c.requires.numbered at c.args.progress stands c.requires.needs c.noted_guesses-guesses.result noted _ c.turn_back.new.runner refl refl refl (rw (c.set_guesses.ensures) at c.turn_back.ensures)
