-- What was read, and what then holds of the programs that meet.
use Rattle.std.proofs.Common.{◌≡◌, ℕ, List, [], length, map, Option, Some, inr, refl, subst, true}
use Rattle.std.specs.Prelude.{unwrap_or}
use Rattle.dbtg_schema.specs.Lists.{Lists}
use Rattle.dbtg_program.specs.declared.program.Program.{Program}
use Rattle.dbtg_program.specs.Reading.{program}
use Rattle.dbtg_going.specs.Turns.{turns_before}
use Rattle.dbtg_command.specs.declared.fault.Fault.{Fault}
use Rattle.dbtg_command.specs.declared.fault.Fault.TheVariants.{Memory}
use Rattle.dbtg_command.specs.declared.order.OrderKind.{OrderKind}
use Rattle.dbtg_command.specs.declared.place.TextPlace.{TextPlace}
use Rattle.dbtg_command.specs.Refusals.{is_count}
use Rattle.dbtg_command.specs.Sources.{ReadSchema}
use Rattle.dbtg_running.specs.Reading.{ReadPrograms}
use Rattle.dbtg_running.specs.Running.{ReadsTurns}
use Rattle.dbtg_exploring.specs.declared.command.Said.{Said}
use Rattle.dbtg_exploring.specs.declared.setting.Exploring.{Exploring}
use Rattle.dbtg_exploring.specs.Exploring.{ExploresHeld, GivesUp, IsSaid, IsTooLarge, ReadMeeting, ToldOfExploring, programs_in, told_in}

-- want of memory can always be reported
pub without_memory : (schema : Lists) (programs : List Program) (told : List ℕ) (asked : Exploring) → IsTooLarge schema programs told asked Memory
without_memory schema programs told asked = (turns_before asked.around (length programs) (Some told), refl, tt)

module _ (holds : TextPlace → List ℕ → Type 0) (count : ℕ) (which : OrderKind) (lists : Lists) (programs : List Program) (turns : Option (List ℕ)) (told : List ℕ)
    (right : is_count count ≡ true) (schema : ReadSchema holds lists) (read : ReadPrograms holds lists count) (are : programs ≡ map (program lists) read.texts)
    (turns_read : ReadsTurns holds which turns) (told_are : told ≡ unwrap_or turns []) where
  abbrev pub all_read : ReadMeeting holds count which
  all_read = record { counted = right; schema = lists; schema_read = schema; programs_read = read; turns = turns; turns_read = turns_read }

  of_all_read : (Of : Lists → List Program → List ℕ → Type 0) → Of lists programs told → Of lists (programs_in all_read) (told_in all_read)
  of_all_read Of of = subst (λ ps. Of lists ps (unwrap_or turns [])) are (subst (λ ts. Of lists programs ts) told_are of)

  pub explores : (asked : Exploring) (texts : List (List ℕ)) (said : Said) → texts ≡ read.texts → IsSaid asked.wish lists programs texts told asked said → ExploresHeld holds count which asked said
  explores asked texts said same is = (all_read, of_all_read (λ schema programs told. IsSaid asked.wish schema programs read.texts told asked said) (subst (λ ts. IsSaid asked.wish lists programs ts told asked said) same is))

  pub gives_up : (fails : TextPlace → Fault → Type 0) (asked : Exploring) (fault : Fault) → GivesUp lists programs told asked fault → ToldOfExploring holds fails fault count which asked
  gives_up fails asked fault over = inr (all_read, of_all_read (λ schema programs told. GivesUp schema programs told asked fault) over)
