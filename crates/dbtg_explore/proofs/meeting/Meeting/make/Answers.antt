use Rattle.std.proofs.Common.{◌≡◌, ◌-◌, ◌++◌, [], ◌∷◌, Some, length, slice_index_or, sym, ap, ◌∙◌, subst, arith}
use Rattle.dbtg_unit.specs.Database.Laws.Replay.{entries_of}
use Rattle.dbtg_program.specs.declared.going.Due.TheVariants as due
use Rattle.dbtg_step.specs.Core.Whole.{Making}
use Rattle.dbtg_going.specs.Goings.{IsGoing}
use Rattle.dbtg_going.proofs.Turning.{index_at, last_is, written}
use Rattle.dbtg_explore.specs.Orders.{Meeting}
use Rattle.dbtg_explore.specs.Inside.Walks.{HasTurned}
use Rattle.dbtg_explore.proofs.Placed.{awaits, entry, has_turned, history_is}
use Rattle.dbtg_explore.proofs.meeting.Meeting.make.Goals as goal

pub overflow_sub-place : goal.overflow_sub-place
overflow_sub-place c =
    let a = awaits c.args.self.now c.args.database.now.making c.args.goings.now c.requires.standing c.args.unit c.args.statement c.requires.due in
    omega (arith, a.numbered)

pub make-requires-clause-numbered : goal.make-requires-clause-numbered
make-requires-clause-numbered c =
    let a = awaits c.args.self.now c.args.database.now.making c.args.goings.now c.requires.standing c.args.unit c.args.statement c.requires.due in
    a.numbered

pub make-requires-clause-within : goal.make-requires-clause-within
make-requires-clause-within c =
    let a = awaits c.args.self.now c.args.database.now.making c.args.goings.now c.requires.standing c.args.unit c.args.statement c.requires.due in
    let units = ap (λ (d : Making). d.units) c.requires.standing.database_is in
    omega (arith, a.within, units, c.requires.standing.are_going.count)

pub bounds-goings-place : goal.bounds-goings-place
bounds-goings-place c =
    let a = awaits c.args.self.now c.args.database.now.making c.args.goings.now c.requires.standing c.args.unit c.args.statement c.requires.due in
    omega (arith, a.numbered, a.within)

pub bounds-goings-place-2 : goal.bounds-goings-place-2
bounds-goings-place-2 c =
    let a = awaits c.args.self.now c.args.database.now.making c.args.goings.now c.requires.standing c.args.unit c.args.statement c.requires.due in
    omega (arith, a.numbered, a.within)

pub bounds-self-inside-place : goal.bounds-self-inside-place
bounds-self-inside-place c =
    let a = awaits c.args.self.now c.args.database.now.making c.args.goings.now c.requires.standing c.args.unit c.args.statement c.requires.due in
    let programs = ap (λ (m : Meeting). length m.programs) c.self.view_is in
    omega (arith, a.numbered, a.within, programs, c.requires.standing.are_going.count)

pub told-requires-clause-due : goal.told-requires-clause-due
told-requires-clause-due c =
    let m = c.args.self.now in
    let database = c.args.database.now.making in
    let u = c.args.unit in
    let a = awaits m database c.args.goings.now c.requires.standing u c.args.statement c.requires.due in
    let made = c.in_ok-make.ensures.made in
    let going_is = index_at c.args.goings.now u a.going c.index-goings-place-2.result a.going_found in
    let e = entry m database c.args.goings.now c.requires.standing u c.args.statement c.make.new.self.making made in
    let entry_is : c.index-history-before.result ≡ e =
    last_is c.history.result.now database.history e c.index-history-before.result _ (c.history.ensures.history ∙ ap (λ (d : Making). d.history) c.database-2.ensures ∙ history_is m database c.args.goings.now c.requires.standing u c.args.statement c.make.new.self.making made)
    (ap length (c.history-before.ensures.history ∙ ap (λ (d : Making). d.history) c.database.ensures)) c.index-history-before.is in
    ap (λ g. g.due) going_is ∙ (a.due_is ∙ ap (λ x. due.Statement x.statement) (sym entry_is))

pub told-requires-clause-going : goal.told-requires-clause-going
told-requires-clause-going c =
    let m = c.args.self.now in
    let database = c.args.database.now.making in
    let u = c.args.unit in
    let a = awaits m database c.args.goings.now c.requires.standing u c.args.statement c.requires.due in
    let going_is = index_at c.args.goings.now u a.going c.index-goings-place-2.result a.going_found in
    let program_is = index_at m.programs u a.program c.index-self-place.result a.program_found in
    let es = entries_of u database.history in
    let p = slice_index_or m.programs (u - 1) c.index-self-place.result in
    let g = slice_index_or c.args.goings.now (u - 1) c.index-goings-place-2.result in
    let here : IsGoing m.schema p es g = subst (λ q. IsGoing m.schema q es g) (sym program_is) (subst (λ x. IsGoing m.schema a.program es x) (sym going_is) a.at) in
    (es, subst (λ (n : Meeting). IsGoing n.schema (slice_index_or n.programs (u - 1) c.index-self-place.result) es g) (sym c.self.view_is) here)

pub returns-clause-turned : goal.returns-clause-turned
returns-clause-turned c =
    let m = c.args.self.now in
    let database = c.args.database.now.making in
    let u = c.args.unit in
    let a = awaits m database c.args.goings.now c.requires.standing u c.args.statement c.requires.due in
    let made = c.in_ok-make.ensures.made in
    let going_is = index_at c.args.goings.now u a.going c.index-goings-place-2.result a.going_found in
    let program_is = index_at m.programs u a.program c.index-self-place.result a.program_found in
    let e = entry m database c.args.goings.now c.requires.standing u c.args.statement c.make.new.self.making made in
    let entry_is : c.index-history-before.result ≡ e =
    last_is c.history.result.now database.history e c.index-history-before.result _ (c.history.ensures.history ∙ ap (λ (d : Making). d.history) c.database-2.ensures ∙ history_is m database c.args.goings.now c.requires.standing u c.args.statement c.make.new.self.making made)
    (ap length (c.history-before.ensures.history ∙ ap (λ (d : Making). d.history) c.database.ensures)) c.index-history-before.is in
    let es = entries_of u database.history in
    let p = slice_index_or m.programs (u - 1) c.index-self-place.result in
    let g = slice_index_or c.args.goings.now (u - 1) c.index-goings-place-2.result in
    let here : IsGoing m.schema p es g = subst (λ q. IsGoing m.schema q es g) (sym program_is) (subst (λ x. IsGoing m.schema a.program es x) (sym going_is) a.at) in
    let before = subst (λ (n : Meeting). IsGoing n.schema (slice_index_or n.programs (u - 1) c.index-self-place.result) es g) (sym c.self.view_is) here in
    let there : IsGoing m.schema p (es ++ c.index-history-before.result ∷ []) c.told.new.self = subst (λ (n : Meeting). IsGoing n.schema (slice_index_or n.programs (u - 1) c.index-self-place.result) (es ++ c.index-history-before.result ∷ []) c.told.new.self) c.self.view_is (c.in_ok-told.ensures es before) in
    let on : IsGoing m.schema a.program (es ++ e ∷ []) c.told.new.self = subst (λ q. IsGoing m.schema q (es ++ e ∷ []) c.told.new.self) program_is (subst (λ x. IsGoing m.schema p (es ++ x ∷ []) c.told.new.self) entry_is there) in
    subst (λ gs. HasTurned m u database c.make.new.self.making gs) (sym (written c.args.goings.now u c.told.new.self a.numbered))
    (has_turned m database c.args.goings.now c.requires.standing u c.args.statement c.make.new.self.making made c.requires.due a c.told.new.self on)

pub returns-clause-before : goal.returns-clause-before
returns-clause-before c =
    let m = c.args.self.now in
    let database = c.args.database.now.making in
    let u = c.args.unit in
    let a = awaits m database c.args.goings.now c.requires.standing u c.args.statement c.requires.due in
    let going_is = index_at c.args.goings.now u a.going c.index-goings-place.result a.going_found in
    a.going_found ∙ ap Some (sym (c.in_ok-going.ensures ∙ going_is))
