use Rattle.std.proofs.Common.{◌≡◌, ◌∙◌, ◌++◌, ap, sym, subst, ℕ, List, Some, slice_get, map}
use Rattle.dbtg_interned.specs.Kept.{AddsOnly}
use Rattle.dbtg_interned.proofs.Entering.{adds_key, at_number, found_at, more_are_contents, stored_at}
use Rattle.dbtg_interned.proofs.contents.Contents.enter.Goals as goal

pub returns-in-Some-clause-number : goal.returns-in-Some-clause-number
returns-in-Some-clause-number c =
    at_number c.number.result c.in-Some.at (λ n. slice_get c.args.self.now n ≡ Some c.args.list.now) c.number.ensures
    (subst (λ (l : List (List ℕ)). slice_get l c.in-Some.at ≡ Some c.args.list.now) c.self.view_is
    (found_at (λ k. k.items) c.self.inside.lists.keys c.args.list.now c.in-Some.at (sym c.in-Some.ensures.index)))

pub invariant_of-self-2 : goal.invariant_of-self-2
invariant_of-self-2 c =
    more_are_contents (λ k. k.items) c.self.inside.lists.keys c.extend_from_slice.new.self c.insert_full.new.self.keys c.in_ok-at.ensures.keys c.self.invariant c.in_ok-at.ensures.unique

pub returns-clause-sound : goal.returns-clause-sound
returns-clause-sound c =
    more_are_contents (λ k. k.items) c.self.inside.lists.keys c.extend_from_slice.new.self c.insert_full.new.self.keys c.in_ok-at.ensures.keys c.self.invariant c.in_ok-at.ensures.unique

pub returns-clause-adds : goal.returns-clause-adds
returns-clause-adds c =
    let old = c.self.inside.lists.keys in
    let new = c.insert_full.new.self.keys in
    let copy = c.extend_from_slice.new.self in
    let same : copy.items ≡ c.args.list.now = c.in_ok-extend_from_slice.ensures.items ∙ ap (λ (l : List ℕ). l ++ c.args.list.now) c.in_ok-copy.ensures.items in
    subst (λ (l : List (List ℕ)). AddsOnly l c.args.list.now (map (λ k. k.items) new)) c.self.view_is
    (subst (λ (l : List ℕ). AddsOnly (map (λ k. k.items) old) l (map (λ k. k.items) new)) same
    (adds_key (λ k. k.items) old copy new c.in_ok-at.ensures.keys))

pub returns-clause-number : goal.returns-clause-number
returns-clause-number c =
    let new = c.insert_full.new.self.keys in
    let copy = c.extend_from_slice.new.self in
    let same : copy.items ≡ c.args.list.now = c.in_ok-extend_from_slice.ensures.items ∙ ap (λ (l : List ℕ). l ++ c.args.list.now) c.in_ok-copy.ensures.items in
    at_number c.number-2.result c.in_ok-at.at (λ n. slice_get (map (λ k. k.items) new) n ≡ Some c.args.list.now) c.number-2.ensures
    (stored_at (λ k. k.items) new copy c.in_ok-at.at c.args.list.now same c.in_ok-at.ensures.stored)
