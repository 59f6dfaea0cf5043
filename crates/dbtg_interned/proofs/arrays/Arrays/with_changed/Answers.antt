use Rattle.std.proofs.Common.{◌≡◌, ◌∙◌, ap, sym, subst, set}
use Rattle.dbtg_interned.specs.Arrays.{AreArrays, KeptArrays, elements_under}
use Rattle.dbtg_interned.proofs.Places.{place_at, put_root, put_under, read_place, zero_put}
use Rattle.dbtg_interned.proofs.arrays.Arrays.with_changed.Goals as goal

pub returns-then-element-eq0-clause-elements : goal.returns-then-element-eq0-clause-elements
returns-then-element-eq0-clause-elements c =
    let none : place_at c.args.self.now c.args.at ≡ 0
    = ap (λ (s : KeptArrays). place_at s c.args.at) (sym c.self.view_is) ∙ sym (read_place (record { nodes = c.self.inside.nodes; places = c.self.inside.places.items; used = c.self.inside.used }) c.args.self.now c.self.view_is c.args.at c.index.result.now c.requires.within c.index.ensures) ∙ c.if-index-eq0.true in
    zero_put c.args.self.now c.args.root c.args.at none ∙ ap (set (elements_under c.args.self.now c.args.root) c.args.at) (sym c.if-element-eq0.true)

pub returns-clause-root : goal.returns-clause-root
returns-clause-root c =
    let here : KeptArrays = record { nodes = c.self-2.inside.nodes; places = c.self-2.inside.places.items; used = c.self-2.inside.used } in
    put_root c.args.self.now c.place_of.new.self here c.with_changed_below.new.nodes c.args.root c.args.at c.in_ok-place.place c.args.element c.self-2.view_is
    (subst (λ (s : KeptArrays). AreArrays s) c.self.view_is c.self.invariant) c.in_ok-place.ensures.sound c.in_ok-place.ensures.grows c.requires.root c.requires.within c.in_ok-place.ensures.place
    c.with_changed_below.result c.with_changed_below.ensures.node c.with_changed_below.ensures.elements

pub returns-clause-elements : goal.returns-clause-elements
returns-clause-elements c =
    let here : KeptArrays = record { nodes = c.self-2.inside.nodes; places = c.self-2.inside.places.items; used = c.self-2.inside.used } in
    put_under c.args.self.now c.place_of.new.self here c.with_changed_below.new.nodes c.args.root c.args.at c.in_ok-place.place c.args.element c.self-2.view_is
    (subst (λ (s : KeptArrays). AreArrays s) c.self.view_is c.self.invariant) c.in_ok-place.ensures.sound c.in_ok-place.ensures.grows c.requires.root c.requires.within c.in_ok-place.ensures.place
    c.with_changed_below.result c.with_changed_below.ensures.node c.with_changed_below.ensures.elements
