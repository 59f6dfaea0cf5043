use Rattle.std.proofs.Common.{take}
use Rattle.dbtg_states.specs.Transitions.{AreLooks}
use Rattle.dbtg_states.proofs.looks.Places.looks_at.Given as goal

abbrev pub invariant-loop-name : goal.invariant-loop-name
invariant-loop-name l = AreLooks l.self.schema.now l.self.capacity l.self.units l.numbers l.passage (take l.name-index l.names) l.looks
