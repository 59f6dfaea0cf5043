use Rattle.std.proofs.Common.{[], take}
use Rattle.dbtg_going.specs.Inside.Members.{AreAt}
use Rattle.dbtg_going.proofs.going.Programs.beginning.Given as goal

abbrev pub invariant-loop-program : goal.invariant-loop-program
invariant-loop-program l = AreAt l.self.schema.now (take l.program-index l.self.list.now) [] l.members.items
