use Rattle.std.proofs.Common.{◌≡◌, ◌∙◌, ℕ, ◌-◌, ◌≤◌, ◌++◌, ◌∷◌, [], Some, ap, arith, length, refl, slice_get, slice_set, subst, sym}
use Rattle.std.proofs.lemmas.List.{append_assoc}
use Rattle.std.proofs.lemmas.Option.{slice_get_read}
use Rattle.dbtg_step.specs.Core.Whole.{Making}
use Rattle.dbtg_session.specs.Inside.Sessions.{IsSession}
use Rattle.dbtg_session.specs.Sessions.{HasTyped, Typed}
use Rattle.dbtg_session.proofs.SessionSteps.{typed}
use Rattle.dbtg_session.proofs.TakingBack.{session_left, stands_at, taken, typed_again, whole_history}
use Rattle.dbtg_session.proofs.session.Session.undo.Goals as goal

pub overflow_sub-unit : goal.overflow_sub-unit
overflow_sub-unit c =
    let old = c.self.inside.database in
    let schema = c.self.inside.schema.now in
    let capacity = c.self.inside.capacity in
    let scripts = c.self.inside.scripts.items in
    let last = c.in-Some.last.now in
    let earlier = c.in-Some.earlier.now in
    let is : old.history ≡ earlier ++ last ∷ [] = sym c.history.ensures.history ∙ c.in-Some.ensures.cases.0 in
    let of = whole_history schema capacity old earlier last c.self.invariant.schema_is c.self.invariant.capacity_is is c.history.ensures.of in
    let stands = stands_at schema capacity old.units earlier [] last of in
    omega (arith, stands.low)

pub index_mut-requires : goal.index_mut-requires
index_mut-requires c =
    let old = c.self.inside.database in
    let schema = c.self.inside.schema.now in
    let capacity = c.self.inside.capacity in
    let scripts = c.self.inside.scripts.items in
    let last = c.in-Some.last.now in
    let earlier = c.in-Some.earlier.now in
    let is : old.history ≡ earlier ++ last ∷ [] = sym c.history.ensures.history ∙ c.in-Some.ensures.cases.0 in
    let of = whole_history schema capacity old earlier last c.self.invariant.schema_is c.self.invariant.capacity_is is c.history.ensures.of in
    let stands = stands_at schema capacity old.units earlier [] last of in
    omega (arith, stands.low, stands.high, c.self.invariant.many, c.self.inside.scripts.ok.0)

pub invariant_of-self : goal.invariant_of-self
invariant_of-self c =
    let old = c.self.inside.database in
    let schema = c.self.inside.schema.now in
    let capacity = c.self.inside.capacity in
    let scripts = c.self.inside.scripts.items in
    let last = c.in-Some.last.now in
    let earlier = c.in-Some.earlier.now in
    let is : old.history ≡ earlier ++ last ∷ [] = sym c.history.ensures.history ∙ c.in-Some.ensures.cases.0 in
    let of = whole_history schema capacity old earlier last c.self.invariant.schema_is c.self.invariant.capacity_is is c.history.ensures.of in
    let stands = stands_at schema capacity old.units earlier [] last of in
    let one = c.index_mut.result.now in
    let next = c.drop_line.new.self in
    let within : last.unit ≤ length scripts = omega (arith, stands.high, c.self.invariant.many) in
    let at : slice_get scripts (last.unit - 1) ≡ Some one = slice_get_read scripts (length scripts) (last.unit - 1) one refl (omega (arith, within, stands.low)) c.index_mut.ensures.value in
    let back = taken schema capacity old scripts c.self.invariant earlier last is one next stands.low at in
    let left = c.drop_line.ensures back.0 (back.1 ++ 10 ∷ []) back.2 (back.3.text_is ∙ append_assoc back.0 back.1 (10 ∷ [])) back.3.begins_are in
    let units : c.in_ok-before.before.units ≡ old.units = ap (λ (m : Making). m.units) c.in_ok-before.ensures ∙ omega (arith, c.len-units.ensures, c.self.invariant.many, c.self.inside.scripts.ok.0) in
    let before : c.in_ok-before.before ≡ record { schema = schema; capacity = capacity; units = old.units; history = earlier } =
    c.in_ok-before.ensures ∙ ap (λ (n : ℕ). record { schema = schema; capacity = capacity; units = n; history = earlier }) (sym (ap (λ (m : Making). m.units) c.in_ok-before.ensures) ∙ units) in
    subst (λ (m : Making). IsSession schema capacity m (slice_set scripts (last.unit - 1) next)) (sym before)
    (session_left schema capacity old scripts c.self.invariant earlier last is one next stands.low at left.0 left.1)

pub returns-clause-undone : goal.returns-clause-undone
returns-clause-undone c =
    let old = c.self.inside.database in
    let schema = c.self.inside.schema.now in
    let capacity = c.self.inside.capacity in
    let scripts = c.self.inside.scripts.items in
    let last = c.in-Some.last.now in
    let earlier = c.in-Some.earlier.now in
    let is : old.history ≡ earlier ++ last ∷ [] = sym c.history.ensures.history ∙ c.in-Some.ensures.cases.0 in
    let of = whole_history schema capacity old earlier last c.self.invariant.schema_is c.self.invariant.capacity_is is c.history.ensures.of in
    let stands = stands_at schema capacity old.units earlier [] last of in
    let one = c.index_mut.result.now in
    let next = c.drop_line.new.self in
    let within : last.unit ≤ length scripts = omega (arith, stands.high, c.self.invariant.many) in
    let at : slice_get scripts (last.unit - 1) ≡ Some one = slice_get_read scripts (length scripts) (last.unit - 1) one refl (omega (arith, within, stands.low)) c.index_mut.ensures.value in
    let back = taken schema capacity old scripts c.self.invariant earlier last is one next stands.low at in
    let left = c.drop_line.ensures back.0 (back.1 ++ 10 ∷ []) back.2 (back.3.text_is ∙ append_assoc back.0 back.1 (10 ∷ [])) back.3.begins_are in
    let units : c.in_ok-before.before.units ≡ old.units = ap (λ (m : Making). m.units) c.in_ok-before.ensures ∙ omega (arith, c.len-units.ensures, c.self.invariant.many, c.self.inside.scripts.ok.0) in
    let before : c.in_ok-before.before ≡ record { schema = schema; capacity = capacity; units = old.units; history = earlier } =
    c.in_ok-before.ensures ∙ ap (λ (n : ℕ). record { schema = schema; capacity = capacity; units = n; history = earlier }) (sym (ap (λ (m : Making). m.units) c.in_ok-before.ensures) ∙ units) in
    let again = typed_again schema capacity old scripts c.self.invariant earlier last is one next stands.low at left.0 left.1 of in (
      last.unit,
      back.1,
      subst (λ (t : Typed). HasTyped (typed c.in_ok-before.before (slice_set scripts (last.unit - 1) next)) last.unit back.1 t) c.self.view_is
          (subst (λ (m : Making). HasTyped (typed m (slice_set scripts (last.unit - 1) next)) last.unit back.1 (typed old scripts)) (sym before) again),
    )
