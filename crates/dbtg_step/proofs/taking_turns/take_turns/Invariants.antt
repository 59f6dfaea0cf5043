use Rattle.std.proofs.Common.{take}
use Rattle.dbtg_step.specs.Inside.Events.{IsWell}
use Rattle.dbtg_step.specs.Inside.Parts.{core_of}
use Rattle.dbtg_step.specs.Inside.Turns.{HaveTurned}
use Rattle.dbtg_step.proofs.taking_turns.take_turns.Given as goal

abbrev pub invariant-loop-unit : goal.invariant-loop-unit
invariant-loop-unit l = record {
  well : IsWell l.schema l.capacity l.parts;
  turned : HaveTurned (core_of l.schema l.capacity l.initial.parts) (take l.unit-index l.turns) (core_of l.schema l.capacity l.parts) l.initial.noted l.noted;
}
