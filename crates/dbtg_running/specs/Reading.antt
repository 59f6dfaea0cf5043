-- Programs that a source gives, in the places of scripts, and the fault that is reported for them.
-- texts are bytes, lists the schema that a text says.
use Rattle.std.specs.Prelude.{ℕ, ◌≡◌, ◌+◌, ◌<◌, List, [], ◌∷◌, None, length}
use Rattle.dbtg_schema.specs.Lists.{Lists}
use Rattle.dbtg_program.specs.Faults.{refusal as program_refusal}
use Rattle.dbtg_command.specs.declared.fault.Fault.{Fault}
use Rattle.dbtg_command.specs.declared.place.TextPlace.{TextPlace}
use Rattle.dbtg_command.specs.declared.place.TextPlace.TheVariants.{Script}
use Rattle.dbtg_command.specs.Refusals.{RefusesProgramText}
use Rattle.dbtg_command.specs.Sources.{HoldsScripts, ToldIn}

-- every program is accepted
abbrev pub AllAccepted : Lists → List (List ℕ) → Type 0
AllAccepted lists [] = Unit {0}
AllAccepted lists (text ∷ texts) = (program_refusal lists text ≡ None) × AllAccepted lists texts

-- the texts of the first programs, count of them, which are held and accepted
pub record ReadPrograms (holds : TextPlace → List ℕ → Type 0) (lists : Lists) (count : ℕ) : Type 0 where
  pub texts : List (List ℕ)
  pub many : length texts ≡ count
  pub held : HoldsScripts holds 1 texts
  pub accepted : AllAccepted lists texts

-- the fault is reported for one of the first programs, count of them, and all before it are held and accepted
pub record ToldOfPrograms (holds : TextPlace → List ℕ → Type 0) (fails : TextPlace → Fault → Type 0) (fault : Fault) (lists : Lists) (count : ℕ) : Type 0 where
  pub before : ℕ
  pub read : ReadPrograms holds lists before
  pub within : before < count
  pub told : ToldIn holds fails fault (Script (before + 1)) (RefusesProgramText fault (before + 1) lists)
