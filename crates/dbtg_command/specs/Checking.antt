-- What `check` prints, and which faults it reports when it has to report those of each text.
use Rattle.std.specs.Prelude.{ℕ, zero, suc, ◌≡◌, ◌+◌, Bool, true, false, List, [], ◌∷◌, ◌++◌, None, ◌⊎◌, length}
use Rattle.dbtg_schema.specs.Lists.{Lists}
use Rattle.dbtg_program.specs.Faults.{refusal as program_refusal}
use Rattle.dbtg_script.specs.StatementFaults.{refusal as script_refusal}
use Rattle.dbtg_script.specs.Statements.{script}
use Rattle.dbtg_script.specs.Printing.Texts.{schema_line, script_line}
use Rattle.dbtg_command.specs.declared.order.OrderKind.TheVariants as kind
use Rattle.dbtg_command.specs.declared.fault.Fault.{Fault}
use Rattle.dbtg_command.specs.declared.fault.Fault.TheVariants.{Memory}
use Rattle.dbtg_command.specs.declared.place.TextPlace.{TextPlace}
use Rattle.dbtg_command.specs.declared.place.TextPlace.TheVariants.{Script}
use Rattle.dbtg_command.specs.Refusals.{schema_in, AcceptsTexts, RefusesProgramText, RefusesScriptText}
use Rattle.dbtg_command.specs.Sources.{ReadSchema, Texts, ToldIn, ToldOfSchema}

-- a line for each script, from number n on
abbrev pub script_lines : Lists → ℕ → List (List ℕ) → List ℕ
script_lines schema n [] = []
script_lines schema n (text ∷ texts) = script_line n (length (script schema text)) ++ script_lines schema (n + 1) texts

-- how large a schema and scripts are
abbrev pub check_text : Lists → List (List ℕ) → List ℕ
check_text schema scripts = schema_line schema ++ script_lines schema 1 scripts

-- nothing is refused, and the text says how large the schema and the scripts of these texts are
pub record IsCheck (text : List ℕ) (scripts : List (List ℕ)) (out : List ℕ) : Type 0 where
  pub texts : AcceptsTexts text scripts
  pub is_text : out ≡ check_text (schema_in text) scripts

-- what `check` prints of texts that are held
abbrev pub ChecksHeld : (TextPlace → List ℕ → Type 0) → ℕ → List ℕ → Type 0
ChecksHeld holds count out = (texts : Texts holds count kind.Serial) × IsCheck texts.schema texts.scripts out

-- the text is accepted as a script, or as a program
abbrev pub IsAccepted : Bool → Lists → List ℕ → Type 0
IsAccepted false lists text = script_refusal lists text ≡ None
IsAccepted true lists text = program_refusal lists text ≡ None

-- the fault is its refusal, with the number n
abbrev pub Refuses : Bool → Fault → ℕ → Lists → List ℕ → Type 0
Refuses false fault n lists text = RefusesScriptText fault n lists text
Refuses true fault n lists text = RefusesProgramText fault n lists text

-- what is said of script n, or of program n: nothing if its text is held and accepted, otherwise its fault, unless memory was refused
abbrev pub TellsOfScript : (TextPlace → List ℕ → Type 0) → (TextPlace → Fault → Type 0) → Bool → Lists → ℕ → List Fault → Type 0
TellsOfScript holds fails programs lists n [] = (text : List ℕ) × holds (Script n) text × IsAccepted programs lists text
TellsOfScript holds fails programs lists n (fault ∷ []) = ToldIn holds fails fault (Script n) (Refuses programs fault n lists) × (fault ≡ Memory → ⊥)
TellsOfScript holds fails programs lists n (fault ∷ other ∷ more) = ⊥

-- what is said of the first of them, this many, one after another
abbrev pub TellsOfEachScript : (TextPlace → List ℕ → Type 0) → (TextPlace → Fault → Type 0) → Bool → Lists → ℕ → List Fault → Type 0
TellsOfEachScript holds fails programs lists zero faults = faults ≡ []
TellsOfEachScript holds fails programs lists (suc n) faults =
    (before : List Fault) × (here : List Fault) × TellsOfEachScript holds fails programs lists n before × TellsOfScript holds fails programs lists (n + 1) here × (faults ≡ before ++ here)

-- what is said of each text: only of the schema if it is not accepted, otherwise of each script, or of each program
abbrev pub TellsEach : (TextPlace → List ℕ → Type 0) → (TextPlace → Fault → Type 0) → Bool → ℕ → List Fault → Type 0
TellsEach holds fails programs count faults =
    ((fault : Fault) × ToldOfSchema holds fails fault × (fault ≡ Memory → ⊥) × (faults ≡ fault ∷ []))
    ⊎ ((lists : Lists) × ReadSchema holds lists × TellsOfEachScript holds fails programs lists count faults)
