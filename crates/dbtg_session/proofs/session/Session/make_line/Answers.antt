use Rattle.std.proofs.Common.{◌≡◌, ◌-◌, ◌≤◌, Some, ap, arith, length, refl, slice_get, slice_set, subst}
use Rattle.std.specs.Prelude.{IfErr, IfOk, OnErr}
use Rattle.std.proofs.lemmas.Option.{slice_get_read}
use Rattle.std.proofs.lemmas.Result.{IfErr-weaker, IfOk-weaker}
use Rattle.dbtg_session.proofs.SessionSteps.{session_then, typed, typed_refused, typed_then, typed_unchanged}
use Rattle.dbtg_session.specs.Sessions.{RefusesLine, Takes, Typed}
use Rattle.dbtg_session.proofs.session.Session.make_line.Goals as goal

pub invariant_of-self : goal.invariant_of-self
invariant_of-self c =
    let scripts = c.self.inside.scripts.items in
    let one = c.index_mut-script.result.now in
    let units : c.self.inside.database.units ≡ c.args.self.now.making.units = ap (λ (t : Typed). t.making.units) c.self.view_is in
    let within : c.args.unit ≤ length scripts = omega (arith, c.requires.within, units, c.self.invariant.many) in
    let at : slice_get scripts (c.args.unit - 1) ≡ Some one = slice_get_read scripts (length scripts) (c.args.unit - 1) one refl (omega (arith, within, c.requires.numbered)) c.index_mut-script.ensures.value in
    session_then c.self.inside.schema.now c.self.inside.capacity c.self.inside.database c.take_line.new.database scripts c.self.invariant c.args.unit c.requires.numbered one c.take_line.new.script at c.args.line.now c.take_line.result c.take_line.ensures.taken c.take_line.ensures.database
    c.take_line.ensures.script

pub returns : goal.returns
returns c =
    let schema = c.self.inside.schema.now in
    let capacity = c.self.inside.capacity in
    let old = c.self.inside.database in
    let new = c.take_line.new.database in
    let scripts = c.self.inside.scripts.items in
    let u = c.args.unit in
    let low = c.requires.numbered in
    let one = c.index_mut-script.result.now in
    let next = c.take_line.new.script in
    let line = c.args.line.now in
    let result = c.take_line.result in
    let units : old.units ≡ c.args.self.now.making.units = ap (λ (t : Typed). t.making.units) c.self.view_is in
    let within : u ≤ length scripts = omega (arith, c.requires.within, units, c.self.invariant.many) in
    let at : slice_get scripts (u - 1) ≡ Some one = slice_get_read scripts (length scripts) (u - 1) one refl (omega (arith, within, low)) c.index_mut-script.ensures.value in
    let after = typed new (slice_set scripts (u - 1) next) in
    record {
      taken = subst (λ (t : Typed). IfOk result (λ made. Takes t u line made after)) c.self.view_is
          (IfOk-weaker result _ _ (typed_then schema capacity old new scripts c.self.invariant u low one next at line) c.take_line.ensures.taken);
      unchanged = subst (λ (t : Typed). OnErr result (after ≡ t)) c.self.view_is
          (typed_unchanged schema capacity old new scripts c.self.invariant u low one next at line result c.take_line.ensures.database c.take_line.ensures.script);
      refused = subst (λ (t : Typed). IfErr result (λ refusal. RefusesLine refusal t u line)) c.self.view_is
          (IfErr-weaker result _ _ (typed_refused schema capacity old new scripts c.self.invariant u low one next at line) c.take_line.ensures.refused);
    }
