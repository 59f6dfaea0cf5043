use Rattle.std.proofs.Common.{◌≡◌, ◌∙◌, true, ap, sym, subst, arith}
use Rattle.std.specs.Prelude.{IfOk, IfSome, option_map}
use Rattle.std.proofs.lemmas.Option.{IfSome_then}
use Rattle.std.proofs.lemmas.Result.{IfOk-weaker}
use Rattle.dbtg_schema.specs.Sound.{IsSound}
use Rattle.dbtg_unit.specs.Database.Statements.Fits.{fits}
use Rattle.dbtg_step.specs.Core.Whole.{Making, state_now}
use Rattle.dbtg_states.specs.Looked.{AreLookedAt}
use Rattle.dbtg_explore.proofs.Placed.{awaits}
use Rattle.dbtg_explore.proofs.meeting.Meeting.cells_at.Goals as goal

pub needed_cells-requires-clause-sound : goal.needed_cells-requires-clause-sound
needed_cells-requires-clause-sound c = subst (λ (d : Making). IsSound d.schema) (sym (c.database-database.ensures ∙ c.requires.stands.is_place.database_is)) c.requires.meeting.sound

pub needed_cells-requires-clause-schema : goal.needed_cells-requires-clause-schema
needed_cells-requires-clause-schema c = ap (λ (d : Making). d.schema) (c.database-database.ensures ∙ c.requires.stands.is_place.database_is) ∙ sym c.places.ensures.schema

pub needed_cells-requires-clause-capacity : goal.needed_cells-requires-clause-capacity
needed_cells-requires-clause-capacity c = ap (λ (d : Making). d.capacity) (c.database-database.ensures ∙ c.requires.stands.is_place.database_is) ∙ sym c.places.ensures.capacity

pub needed_cells-requires-clause-fitting : goal.needed_cells-requires-clause-fitting
needed_cells-requires-clause-fitting c =
    let w = c.requires.stands.is_place in
    let a = awaits c.args.self.now c.args.walk.now.database.making c.args.walk.now.goings.items w c.args.unit c.in-Some.statement.now (sym c.due.ensures ∙ ap (option_map (λ s. s.now)) c.in-Some.is) in
    subst (λ (d : Making). fits d.schema c.in-Some.statement.now ≡ true) (sym (c.database-database.ensures ∙ w.database_is)) a.fit

pub needed_cells-requires-clause-numbered : goal.needed_cells-requires-clause-numbered
needed_cells-requires-clause-numbered c =
    (awaits c.args.self.now c.args.walk.now.database.making c.args.walk.now.goings.items c.requires.stands.is_place c.args.unit c.in-Some.statement.now (sym c.due.ensures ∙ ap (option_map (λ s. s.now)) c.in-Some.is)).numbered

pub needed_cells-requires-clause-within : goal.needed_cells-requires-clause-within
needed_cells-requires-clause-within c =
    let w = c.requires.stands.is_place in
    let a = awaits c.args.self.now c.args.walk.now.database.making c.args.walk.now.goings.items w c.args.unit c.in-Some.statement.now (sym c.due.ensures ∙ ap (option_map (λ s. s.now)) c.in-Some.is) in
    omega (arith, a.within, w.are_going.count, ap (λ (d : Making). d.units) (c.database-database.ensures ∙ w.database_is))

pub returns-in-Some : goal.returns-in-Some
returns-in-Some c =
    let r = c.needed_cells.result in
    let x = c.in-Some.statement.now in
    IfOk-weaker r _ _
    (λ found are. IfSome_then found are (λ names looks_at. record { statement = x; due = sym c.due.ensures ∙ ap (option_map (λ s. s.now)) c.in-Some.is; looks_at = looks_at }))
    (subst (λ (d : Making). IfOk r (λ found. IfSome found (λ names. AreLookedAt d.schema d.capacity (state_now d) c.args.unit x names.items))) (c.database-database.ensures ∙ c.requires.stands.is_place.database_is) c.needed_cells.ensures)
