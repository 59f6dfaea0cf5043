-- What `audit` prints of a schema and a trace that a source gives, and which fault it reports.
-- lists is the schema that a text says; statuses says that only these are compared. A second text beside the schema is a script that is
-- made first; count is how many texts there are beside the schema.
use Rattle.std.specs.Prelude.{ℕ, ◌≡◌, ◌⊎◌, Bool, true, false, List, [], ◌∷◌, ◌++◌, Option, Some, None, codes, nat_le, if◌then◌else◌}
use Rattle.dbtg_schema.specs.Lists.{Lists}
use Rattle.dbtg_unit.specs.declared.statement.Statement.{Statement}
use Rattle.dbtg_unit.specs.Database.Statements.Codes.{status_code}
use Rattle.dbtg_script.specs.Printing.Texts.{image_text, units_text}
use Rattle.dbtg_script.specs.StatementFaults.{refusal as script_refusal}
use Rattle.dbtg_script.specs.Statements.{script}
use Rattle.dbtg_step.specs.declared.results.Run.{Run}
use Rattle.dbtg_trace.specs.declared.traced.Traced.{Traced}
use Rattle.dbtg_command.specs.declared.fault.Fault.{Fault}
use Rattle.dbtg_command.specs.declared.place.TextPlace.{TextPlace}
use Rattle.dbtg_command.specs.declared.place.TextPlace.TheVariants.{Script}
use Rattle.dbtg_command.specs.Refusals.{RefusesScriptText}
use Rattle.dbtg_command.specs.Sources.{ReadSchema, ReadTrace, ToldIn, ToldOfSchema, ToldOfTrace}
use Rattle.dbtg_audit.specs.declared.auditing.Difference.{Difference}
use Rattle.dbtg_audit.specs.declared.auditing.Recorded.{Recorded}
use Rattle.dbtg_audit.specs.declared.report.AuditOptions.{AuditOptions}
use Rattle.dbtg_audit.specs.declared.report.Verdict.{Verdict}
use Rattle.dbtg_audit.specs.declared.report.Verdict.TheVariants as verdict
use Rattle.dbtg_audit.specs.Auditing.{AreDifferences, IsEqual, IsFirstDifference, IsUnequal}
use Rattle.dbtg_audit.specs.Telling.{difference_text}

-- the image and the units, and a line that says that the audit is equal
abbrev pub equal_text : Lists → Run → List ℕ
equal_text lists given =
    (image_text lists given.image.records given.image.lists given.image.next given.image.usage ++ units_text lists given.units) ++ codes "AUDIT EQUAL" ++ 10 ∷ []

-- the script that is made first, if there is one: it is held and accepted, and says these statements
abbrev pub IsLoad : (TextPlace → List ℕ → Type 0) → Lists → Bool → Option (List Statement) → Type 0
IsLoad holds lists false load = load ≡ None
IsLoad holds lists true load = (text : List ℕ) × holds (Script 2) text × (script_refusal lists text ≡ None) × (load ≡ Some (script lists text))

-- how many units beside those of the trace: one, for the script that is made first, if there is one
abbrev pub loading_units : ℕ → ℕ
loading_units count = if nat_le 2 count then 1 else 0

-- a schema, a trace of these units, and a script if there is one, which are held and accepted
pub record TextsOfAudit (holds : TextPlace → List ℕ → Type 0) (count units : ℕ) : Type 0 where
  pub lists : Lists
  pub schema : ReadSchema holds lists
  pub recorded : Recorded
  pub units_are : recorded.units ≡ units
  pub trace : ReadTrace holds lists units recorded.traced
  pub load : IsLoad holds lists (nat_le 2 count) recorded.load

-- all that the trace says holds, and this is what it leads to, as it is printed
pub record IsEqualText (statuses : Bool) (lists : Lists) (capacity : ℕ) (recorded : Recorded) (out : List ℕ) : Type 0 where
  pub given : Run
  pub equal : IsEqual statuses lists capacity recorded given
  pub is_text : out ≡ equal_text lists given

-- something that it says does not hold, and the first difference is reported, with the status of the answer
pub record IsDifferenceText (statuses : Bool) (lists : Lists) (capacity : ℕ) (recorded : Recorded) (out : List ℕ) (status : ℕ) : Type 0 where
  pub found : Difference
  pub first : IsFirstDifference statuses lists capacity recorded found
  pub unequal : IsUnequal statuses lists capacity recorded
  pub is_text : out ≡ difference_text lists found.line found.said first.entry
  pub status_is : status ≡ status_code first.entry.statement first.entry.answer.status

-- what is printed of a trace whose first difference is wanted
abbrev pub IsFirstVerdict : Bool → Lists → ℕ → Recorded → Verdict → Type 0
IsFirstVerdict statuses lists capacity recorded (verdict.Equal out) = IsEqualText statuses lists capacity recorded out.items
IsFirstVerdict statuses lists capacity recorded (verdict.Differs told status) = IsDifferenceText statuses lists capacity recorded told.items status
IsFirstVerdict statuses lists capacity recorded (verdict.Listed told) = ⊥

-- what is printed of a trace of which every difference is wanted
abbrev pub IsListedVerdict : Bool → Lists → ℕ → Recorded → Verdict → Type 0
IsListedVerdict statuses lists capacity recorded (verdict.Equal out) = IsEqualText statuses lists capacity recorded out.items
IsListedVerdict statuses lists capacity recorded (verdict.Differs told status) = ⊥
IsListedVerdict statuses lists capacity recorded (verdict.Listed told) = AreDifferences statuses lists capacity recorded told.items

abbrev pub verdict_by : Bool → Bool → Lists → ℕ → Recorded → Verdict → Type 0
verdict_by false = IsFirstVerdict
verdict_by true = IsListedVerdict

-- what is printed by these options
abbrev pub IsVerdict : AuditOptions → Lists → Recorded → Verdict → Type 0
IsVerdict options lists recorded said = verdict_by options.all options.statuses lists options.capacity recorded said

-- what `audit` prints of texts that are held
abbrev pub AuditHeld : (TextPlace → List ℕ → Type 0) → ℕ → AuditOptions → Verdict → Type 0
AuditHeld holds count options said = (texts : TextsOfAudit holds count options.units) × IsVerdict options texts.lists texts.recorded said

-- the fault is reported for the script that is made first
abbrev pub ToldOfLoad : (TextPlace → List ℕ → Type 0) → (TextPlace → Fault → Type 0) → Fault → Lists → ℕ → Type 0
ToldOfLoad holds fails fault lists count = (nat_le 2 count ≡ true) × ToldIn holds fails fault (Script 2) (RefusesScriptText fault 2 lists)

-- the fault is reported for the trace, or the trace is held and accepted and it is reported for the script that is made first
abbrev pub ToldOfRecorded : (TextPlace → List ℕ → Type 0) → (TextPlace → Fault → Type 0) → Fault → Lists → ℕ → ℕ → Type 0
ToldOfRecorded holds fails fault lists units count =
    ToldOfTrace holds fails fault lists units ⊎ ((traced : List Traced) × ReadTrace holds lists units traced × ToldOfLoad holds fails fault lists count)

-- the fault is reported for the schema, or the schema is held and accepted and it is reported for what was recorded
abbrev pub ToldOfAudit : (TextPlace → List ℕ → Type 0) → (TextPlace → Fault → Type 0) → Fault → ℕ → ℕ → Type 0
ToldOfAudit holds fails fault units count = ToldOfSchema holds fails fault ⊎ ((lists : Lists) × ReadSchema holds lists × ToldOfRecorded holds fails fault lists units count)
