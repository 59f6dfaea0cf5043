-- The law of threads and orders: every run on threads in which all programs come to their ends is one of the results.
-- u is a unit; asked is what an exploration is asked for.
use Rattle.std.specs.Prelude.{ℕ, ◌≡◌, List, [], Some}
use Rattle.dbtg_schema.specs.Lists.{Lists}
use Rattle.dbtg_program.specs.declared.program.Program.{Program}
use Rattle.dbtg_step.specs.Machine.SequentialDatabase.{unit_at}
use Rattle.dbtg_going.specs.declared.going.ProgramRun.{ProgramRun}
use Rattle.dbtg_going.specs.declared.member.Reached.{Reached}
use Rattle.dbtg_going.specs.declared.member.Standing.TheVariants.{Spent}
use Rattle.dbtg_threading.specs.Threading.{IsRunOnThreads}
use Rattle.dbtg_explore.specs.Laws.{ComesOut}
use Rattle.dbtg_exploring.specs.declared.setting.Exploring.{Exploring}
use Rattle.dbtg_exploring.specs.Exploring.{Begins, meeting_of}

-- no program could go on although its unit has made all statements that a unit can make
abbrev pub NoneIsSpent : ProgramRun → Type 0
NoneIsSpent given = (u : ℕ) (r : Reached) → unit_at given.programs u ≡ Some r → r.standing ≡ Spent → ⊥

-- whatever the threads do: such a run is a result of the meeting that is explored if no turns are given
abbrev pub EveryRunOnThreadsComesOut : Lists → List Program → Exploring → Type 0
EveryRunOnThreadsComesOut schema programs asked =
    (begun turns : List ℕ) (given : ProgramRun) → Begins schema programs [] asked begun → IsRunOnThreads schema asked.capacity programs asked.around turns given → NoneIsSpent given
    → ComesOut (meeting_of schema programs asked begun) given.run
