-- A run on threads is a run by turns; if no unit is spent at its end, no program can go on.
-- u is a unit, n is how many statements it has made, d is what is due in its program.
use Rattle.std.proofs.Common.{◌≡◌, refl, sym, ap, ◌∙◌, ℕ, Bool, true, false, List, [], length, Option, Some, None}
use Rattle.std.specs.Prelude.{if◌then◌else◌, is_some, nat_lt, option_and_then}
use Rattle.dbtg_schema.specs.Lists.{Lists}
use Rattle.dbtg_unit.specs.declared.statement.Statement.{Statement}
use Rattle.dbtg_unit.specs.declared.limits.TheConstants.{MOST_STATEMENTS}
use Rattle.dbtg_unit.specs.Database.Laws.Replay.{entries_of}
use Rattle.dbtg_program.specs.declared.program.Program.{Program}
use Rattle.dbtg_program.specs.Going.{Due, due, ended}
use Rattle.dbtg_step.specs.Machine.SequentialDatabase.{unit_at}
use Rattle.dbtg_going.specs.declared.going.ProgramRun.{ProgramRun}
use Rattle.dbtg_going.specs.declared.member.Standing.{Standing}
use Rattle.dbtg_going.specs.declared.member.Standing.TheVariants.{GoesOn, Spent}
use Rattle.dbtg_going.specs.Turns.{comes, due_after, reached, standing, statement_due}
use Rattle.dbtg_threading.specs.Threading.{IsRunOnThreads}
use Rattle.dbtg_explore.specs.Orders.{can_go_on}
use Rattle.dbtg_explore.proofs.ByTurns.{every_run_by_turns}
use Rattle.dbtg_exploring.specs.declared.setting.Exploring.{Exploring}
use Rattle.dbtg_exploring.specs.Exploring.{Begins, meeting_of}
use Rattle.dbtg_exploring.specs.Laws.{EveryRunOnThreadsComesOut, NoneIsSpent}

none_then : (few : Bool) (o : Option Statement) → (if few then o else None) ≡ None → ((if few then GoesOn else Spent) ≡ Spent → ⊥) → o ≡ None
none_then true o e unspent = e
none_then false o e unspent = absurd (unspent refl)

none_due : (schema : Lists) (n : ℕ) (d : Due) → due_after schema n d ≡ None → (standing n d ≡ Spent → ⊥) → statement_due schema d ≡ None
none_due schema n (ended at how) e unspent = refl
none_due schema n (due at s) e unspent = none_then (nat_lt n MOST_STATEMENTS) (statement_due schema (due at s)) e unspent

module _ (schema : Lists) (programs : List Program) (asked : Exploring) (begun turns : List ℕ) (given : ProgramRun) (is : IsRunOnThreads schema asked.capacity programs asked.around turns given) (unspent : NoneIsSpent given) where
  none_goes_on : (u : ℕ) → can_go_on (meeting_of schema programs asked begun) given.run.history u ≡ false
  none_goes_on u = by (unit_at programs u) refl where
    by : (o : Option Program) → unit_at programs u ≡ o → is_some (option_and_then (λ (p : Program). statement_due schema (comes schema p u given.run.history)) (unit_at programs u)) ≡ false
    by None e = ap (λ (o : Option Program). is_some (option_and_then (λ (p : Program). statement_due schema (comes schema p u given.run.history)) o)) e
    by (Some p) e =
        let n : ℕ = length (entries_of u given.run.history) in
        let d : Due = comes schema p u given.run.history in
        let made : due_after schema n d ≡ None
        = sym (ap (option_and_then (λ (p : Program). due_after schema (length (entries_of u given.run.history)) (comes schema p u given.run.history))) e) ∙ is.at_end u in
        let none : statement_due schema d ≡ None = none_due schema n d made (unspent u (reached schema p u given.run.history) (is.is_run.reached_are u p e)) in
        ap (λ (o : Option Program). is_some (option_and_then (λ (p : Program). statement_due schema (comes schema p u given.run.history)) o)) e ∙ ap (λ (o : Option Statement). is_some o) none

pub every_run_on_threads : (schema : Lists) (programs : List Program) (asked : Exploring) → EveryRunOnThreadsComesOut schema programs asked
every_run_on_threads schema programs asked begun turns given begins is unspent =
    every_run_by_turns (meeting_of schema programs asked begun) asked.around [] turns given (record { is_run = is.is_run; begins = begins; last_is = refl; at_end = none_goes_on schema programs asked begun turns given is unspent })
