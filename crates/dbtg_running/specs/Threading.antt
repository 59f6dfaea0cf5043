-- What `run` prints of programs on threads.
-- texts are bytes, lists is the schema that a text says; programs stand in the places of scripts.
use Rattle.std.specs.Prelude.{ℕ, ◌≡◌, ◌++◌, true, List, [], ◌∷◌, Some, None, codes, map}
use Rattle.dbtg_schema.specs.Lists.{Lists}
use Rattle.dbtg_script.specs.Printing.WordTexts.{turns_text}
use Rattle.dbtg_script.specs.Turns.{turns_refusal}
use Rattle.dbtg_program.specs.Reading.{program}
use Rattle.dbtg_going.specs.declared.going.ProgramRun.{ProgramRun}
use Rattle.dbtg_going.specs.Turns.{IsRunOf, turns_of}
use Rattle.dbtg_threading.specs.Threading.{IsRunOnThreads}
use Rattle.dbtg_command.specs.declared.place.TextPlace.{TextPlace}
use Rattle.dbtg_command.specs.Refusals.{is_count, turns_in}
use Rattle.dbtg_command.specs.Sources.{ReadSchema}
use Rattle.dbtg_running.specs.declared.command.RunOptions.{RunOptions}
use Rattle.dbtg_running.specs.declared.threads.PrintedOnThreads.{PrintedOnThreads}
use Rattle.dbtg_running.specs.Reading.{ReadPrograms}
use Rattle.dbtg_running.specs.Running.{PrintsRun, run_text}

-- the line that says that the audit of the history gives the same image and units
abbrev pub audit_line : List ℕ
audit_line = codes "AUDIT EQUAL" ++ 10 ∷ []

-- the text of a run of the programs of these texts, followed by the line of the audit, is printed; and the text of the turns
pub record IsPrintedOf (lists : Lists) (options : RunOptions) (texts : List (List ℕ)) (turns : List ℕ) (given : ProgramRun) (said : PrintedOnThreads) : Type 0 where
  pub is_printed : PrintsRun lists options texts given (run_text lists options.form texts given ++ audit_line) said.printed
  pub turns_are : said.turns.items ≡ turns_text turns

-- 1 to 8 programs, nothing is refused, and what is printed is that of a run of them on threads, with its turns. The turns are accepted, and
-- what `run` prints by them is the same except for the last line
pub record RunsOnThreads (holds : TextPlace → List ℕ → Type 0) (count : ℕ) (options : RunOptions) (said : PrintedOnThreads) : Type 0 where
  pub counted : is_count count ≡ true
  pub lists : Lists
  pub schema : ReadSchema holds lists
  pub programs : ReadPrograms holds lists count
  pub turns : List ℕ
  pub given : ProgramRun
  pub is_run : IsRunOnThreads lists options.capacity (map (program lists) programs.texts) options.around turns given
  pub printed : IsPrintedOf lists options programs.texts turns given said
  pub turns_too : turns_refusal said.turns.items ≡ None
  pub again : (by : ProgramRun) → IsRunOf lists options.capacity (map (program lists) programs.texts) (turns_of lists options.capacity (map (program lists) programs.texts) options.around (Some (turns_in said.turns.items))) by
      → PrintsRun lists options programs.texts by (run_text lists options.form programs.texts by ++ audit_line) said.printed
