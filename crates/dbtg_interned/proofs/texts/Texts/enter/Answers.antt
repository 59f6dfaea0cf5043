use Rattle.std.proofs.Common.{◌≡◌, refl, subst, ℕ, List, Some, slice_get, map}
use Rattle.dbtg_interned.specs.Kept.{AddsOnly}
use Rattle.dbtg_interned.proofs.Entering.{adds_key, at_number, once, stored_at}
use Rattle.dbtg_interned.proofs.texts.Texts.enter.Goals as goal

pub invariant_of-self-2 : goal.invariant_of-self-2
invariant_of-self-2 c = once (λ k. k.items) c.insert_full.new.self.keys c.in_ok-at.ensures.unique

pub returns-clause-once : goal.returns-clause-once
returns-clause-once c = once (λ k. k.items) c.insert_full.new.self.keys c.in_ok-at.ensures.unique

pub returns-clause-adds : goal.returns-clause-adds
returns-clause-adds c =
    let old = c.self.inside.texts.keys in
    let new = c.insert_full.new.self.keys in
    subst (λ (l : List (List ℕ)). AddsOnly l c.args.text.items (map (λ k. k.items) new)) c.self.view_is
    (adds_key (λ k. k.items) old c.args.text new c.in_ok-at.ensures.keys)

pub returns-clause-number : goal.returns-clause-number
returns-clause-number c =
    let new = c.insert_full.new.self.keys in
    at_number c.number.result c.in_ok-at.at (λ n. slice_get (map (λ k. k.items) new) n ≡ Some c.args.text.items) c.number.ensures
    (stored_at (λ k. k.items) new c.args.text c.in_ok-at.at c.args.text.items refl c.in_ok-at.ensures.stored)
