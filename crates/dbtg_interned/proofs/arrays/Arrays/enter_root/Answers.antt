use Rattle.dbtg_interned.specs.Arrays.{KeptArrays}
use Rattle.dbtg_interned.proofs.Places.{entered_array, entered_elements}
use Rattle.dbtg_interned.proofs.arrays.Arrays.enter_root.Goals as goal

pub returns-clause-array : goal.returns-clause-array
returns-clause-array c =
    let here : KeptArrays = record { nodes = c.self.inside.nodes; places = c.self.inside.places.items; used = c.self.inside.used } in
    entered_array c.args.self.now here c.enter.new.self c.self.view_is c.args.root c.self.invariant c.enter.ensures.sound c.enter.ensures.keeps c.requires c.enter.result c.enter.ensures.number

pub returns-clause-elements : goal.returns-clause-elements
returns-clause-elements c =
    let here : KeptArrays = record { nodes = c.self.inside.nodes; places = c.self.inside.places.items; used = c.self.inside.used } in
    entered_elements c.args.self.now here c.enter.new.self c.self.view_is c.args.root c.self.invariant c.enter.ensures.sound c.enter.ensures.keeps c.requires c.enter.result c.enter.ensures.number
