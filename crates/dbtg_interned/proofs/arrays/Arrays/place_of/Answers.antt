use Rattle.std.proofs.Common.{◌<◌, arith, subst, sym}
use Rattle.dbtg_interned.specs.Arrays.{KeptArrays, size}
use Rattle.dbtg_interned.proofs.Places.{given_as, read_place}
use Rattle.dbtg_interned.proofs.arrays.Arrays.place_of.Goals as goal

pub invariant_of-self : goal.invariant_of-self
invariant_of-self c =
    let here : KeptArrays = record { nodes = c.self.inside.nodes; places = c.self.inside.places.items; used = c.self.inside.used } in
    given_as here c.args.at c.self.invariant (subst (λ (s : KeptArrays). c.args.at < size s) (sym c.self.view_is) c.requires.within)
    (omega (arith, read_place here c.args.self.now c.self.view_is c.args.at c.index.result.now c.requires.within c.index.ensures, c.if-known-gt0.false)) c.in_ok-next.next c.in_ok-next.ensures

pub returns-clause-sound : goal.returns-clause-sound
returns-clause-sound c =
    let here : KeptArrays = record { nodes = c.self.inside.nodes; places = c.self.inside.places.items; used = c.self.inside.used } in
    given_as here c.args.at c.self.invariant (subst (λ (s : KeptArrays). c.args.at < size s) (sym c.self.view_is) c.requires.within)
    (omega (arith, read_place here c.args.self.now c.self.view_is c.args.at c.index.result.now c.requires.within c.index.ensures, c.if-known-gt0.false)) c.in_ok-next.next c.in_ok-next.ensures
