use Rattle.std.proofs.Common.{◌≡◌, ◌∙◌, ap, arith, length, List, ℕ, set}
use Rattle.dbtg_interned.specs.Arrays.{KeptArrays, elements, elements_under}
use Rattle.dbtg_interned.proofs.Places.{if_ok, read_root, read_under}
use Rattle.dbtg_interned.proofs.arrays.Arrays.with_element.Goals as goal

pub with_changed-requires-clause-root : goal.with_changed-requires-clause-root
with_changed-requires-clause-root c =
    let here : KeptArrays = record { nodes = c.self.inside.nodes; places = c.self.inside.places.items; used = c.self.inside.used } in
    read_root c.args.self.now here c.self.view_is c.args.array c.numbers-root.result c.self.invariant c.requires.array c.numbers-root.ensures.numbers

pub returns-clause-elements : goal.returns-clause-elements
returns-clause-elements c =
    let here : KeptArrays = record { nodes = c.self.inside.nodes; places = c.self.inside.places.items; used = c.self.inside.used } in
    if_ok c.enter_root.result (λ n. elements c.enter_root.new.self n ≡ elements_under c.with_changed.new.self c.in_ok-root.root)
    (λ n. elements c.enter_root.new.self n ≡ set (elements c.args.self.now c.args.array) c.args.at c.args.element) c.enter_root.ensures.elements
    (λ n h. h ∙ c.in_ok-root.ensures.elements
    ∙ ap (λ (l : List ℕ). set l c.args.at c.args.element) (read_under c.args.self.now here c.self.view_is c.args.array c.numbers-root.result c.self.invariant c.requires.array c.numbers-root.ensures.numbers))

pub numbers-root-requires : goal.numbers-root-requires
numbers-root-requires c = omega (arith, (c.requires.array.known 1).0, ap (λ (s : KeptArrays). length s.nodes) c.self.view_is)
