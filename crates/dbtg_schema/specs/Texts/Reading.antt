-- The refusal, as the reader reaches it from left to right.
use Rattle.std.specs.Prelude.{◌≡◌, ℕ, List, [], ◌∷◌, Option, Some}
use Rattle.dbtg_schema.specs.declared.fault.Fault.{Fault}
use Rattle.dbtg_schema.specs.declared.fault.SchemaFault.{SchemaFault}
use Rattle.dbtg_schema.specs.declared.fault.SchemaFault.TheVariants.{Refused, Memory}
use Rattle.dbtg_schema.specs.declared.role.Role.TheVariants as role
use Rattle.dbtg_schema.specs.Lookups.{first}
use Rattle.dbtg_schema.specs.Texts.Words.{Word, text_words}
use Rattle.dbtg_schema.specs.Texts.Forms.{by_start, labelled, start_with, starts}
use Rattle.dbtg_schema.specs.Texts.SchemaGrammar.{Form, Labelled, fits, schema}
use Rattle.dbtg_schema.specs.Texts.SchemaFaults.{at_other, at_word}

-- the text is refused with this fault, unless memory ran out
abbrev pub Refuses : SchemaFault → Option Fault → Type 0
Refuses Memory v = Unit {0}
Refuses (Refused line cause) v = v ≡ Some (record { line = line; cause = cause })

-- the faults at the next word
abbrev pub faults_at : List Labelled → Form → Word → List Fault
faults_at ws wanted w = by_start (start_with fits w (starts wanted)) (λ s. at_word ws (labelled s.role w)) (at_other ws (starts wanted) w)

-- a text whose first word is at fault is refused for that, even without memory
abbrev pub RefusedAtOnce : List ℕ → Type 0 → Type 0
RefusedAtOnce text Told = (w : Word) (ws : List Word) (fault : Fault) → text_words text ≡ w ∷ ws → first (faults_at [] schema w) ≡ Some fault → Told
