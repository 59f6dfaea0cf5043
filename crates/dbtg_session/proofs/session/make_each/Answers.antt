use Rattle.std.proofs.Common.{◌≡◌, ◌∙◌, ◌+◌, ◌++◌, ◌∷◌, [], List, ap, arith, length, refl, subst, sym, take}
use Rattle.std.proofs.lemmas.List.{take_more}
use Rattle.std.proofs.lemmas.Option.{slice_get_read}
use Rattle.dbtg_unit.specs.declared.statement.Statement.{Statement}
use Rattle.dbtg_unit.specs.declared.unit.Entry.{Entry}
use Rattle.dbtg_step.specs.Core.Whole.{HasMade, Making}
use Rattle.dbtg_session.proofs.TakingBack.{makes_again, stands_in}
use Rattle.dbtg_session.proofs.session.make_each.Goals as goal

pub make-requires-clause-numbered : goal.make-requires-clause-numbered
make-requires-clause-numbered c =
    let m = c.args.database.now in
    let at = slice_get_read c.args.history.now (length c.args.history.now) c.loop-entry.entry-index c.entry-item.result refl (omega (arith, c.loop-entry-test.true)) c.entry-item.is in
    (stands_in m.schema m.capacity m.units c.args.history.now c.loop-entry.entry-index c.entry-item.result at c.requires.history).low

pub make-requires-clause-within : goal.make-requires-clause-within
make-requires-clause-within c =
    let m = c.args.database.now in
    let at = slice_get_read c.args.history.now (length c.args.history.now) c.loop-entry.entry-index c.entry-item.result refl (omega (arith, c.loop-entry-test.true)) c.entry-item.is in
    let stands = stands_in m.schema m.capacity m.units c.args.history.now c.loop-entry.entry-index c.entry-item.result at c.requires.history in
    let units : c.loop-entry.database.units ≡ m.units = ap (λ (x : Making). x.units) c.loop-entry.invariant in
    omega (arith, stands.high, units)

pub loop-entry-preserved : goal.loop-entry-preserved
loop-entry-preserved c =
    let m = c.args.database.now in
    let history = c.args.history.now in
    let i = c.loop-entry.entry-index in
    let e = c.entry-item.result in
    let at = slice_get_read history (length history) i e refl (omega (arith, c.loop-entry-test.true)) c.entry-item.is in
    let stands = stands_in m.schema m.capacity m.units history i e at c.requires.history in
    let front : take (i + 1) history ≡ take i history ++ e ∷ [] = take_more history i e (omega (arith, c.loop-entry-test.true)) ∙ ap (λ (x : Entry). take i history ++ x ∷ []) (sym c.entry-item.is) in
    let made = subst (λ (x : Statement). HasMade c.loop-entry.database e.unit x c.make.new.self) c.in_ok-copy.ensures c.in_ok-make.ensures.made in
    makes_again m.schema m.capacity m.units (take i history) e c.loop-entry.database c.make.new.self c.loop-entry.invariant stands made
    ∙ ap (λ (es : List Entry). record { schema = m.schema; capacity = m.capacity; units = m.units; history = es }) (sym front)
