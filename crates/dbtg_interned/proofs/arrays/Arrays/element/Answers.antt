use Rattle.std.proofs.Common.{◌≡◌, ◌+◌, ◌-◌, ap, arith, length}
use Rattle.dbtg_interned.specs.Arrays.{KeptArrays}
use Rattle.dbtg_interned.proofs.Places.{place_at, read_element, read_place}
use Rattle.dbtg_interned.proofs.arrays.Arrays.element.Goals as goal

pub element_below-requires-clause-node : goal.element_below-requires-clause-node
element_below-requires-clause-node c = omega (arith, (c.requires.array.known 1).0, ap (λ (s : KeptArrays). length s.nodes) c.self.view_is)

pub returns : goal.returns
returns c =
    let here : KeptArrays = record { nodes = c.self.inside.nodes; places = c.self.inside.places.items; used = c.self.inside.used } in
    let placed : place_at here c.args.at ≡ c.index.result.now - 1 + 1 = omega (arith, read_place here c.args.self.now c.self.view_is c.args.at c.index.result.now c.requires.within c.index.ensures, c.if-place-eq0.false) in
    read_element c.args.self.now here c.self.view_is c.args.array c.args.at (c.index.result.now - 1) c.element_below.result c.requires.within placed c.element_below.ensures
