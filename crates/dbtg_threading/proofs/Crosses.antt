-- Programs may cross threads, and so may where they are; the library of units on threads says that a unit and its database may.
use denote.Param.Send.{IsSend, IsSync, sendable}
use Rattle.std.proofs.Crossing.{crosses}
use Rattle.dbtg_program.specs.contracts.program.Line as Line
use Rattle.dbtg_program.specs.contracts.program.Program as Program
use Rattle.dbtg_program.specs.contracts.state.State as State
use Rattle.dbtg_going.specs.contracts.member.Member as Member

line_sync : IsSync Line.the_row
line_sync = search (sendable, crosses) depth 60 fits 20000

pub program_sync : IsSync Program.the_row
program_sync = search (sendable, crosses, line_sync) depth 60 fits 20000

state_send : IsSend State.the_row
state_send = search (sendable, crosses) depth 60 fits 20000

pub member_send : IsSend Member.the_row
member_send = search (sendable, crosses, state_send) depth 60 fits 20000
