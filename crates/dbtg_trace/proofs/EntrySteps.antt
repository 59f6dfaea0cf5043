-- A line that holds a statement, part by part.
use Rattle.std.proofs.Common.{◌≡◌, ℕ, Bool, true, false, not, List, [], ◌∷◌, ◌++◌, map, Option, Some, None, refl, sym, ap, subst, ◌∙◌}
use Rattle.std.specs.Prelude.{is_none, option_map, if◌then◌else◌}
use Rattle.dbtg_schema.specs.Lists.{Lists}
use Rattle.dbtg_schema.specs.Lookups.{first}
use Rattle.dbtg_script.specs.declared.fault.Cause.{Cause}
use Rattle.dbtg_script.specs.declared.fault.Cause.TheVariants as cause
use Rattle.dbtg_script.specs.declared.fault.LineFault.{LineFault}
use Rattle.dbtg_script.specs.declared.fault.LineFault.TheVariants as line
use Rattle.dbtg_script.specs.Lines.{is_statement, trimmed}
use Rattle.dbtg_script.specs.Reading as script
use Rattle.dbtg_script.specs.StatementFaults as script_faults
use Rattle.dbtg_trace.specs.declared.fault.EntryFault.{EntryFault}
use Rattle.dbtg_trace.specs.declared.fault.EntryFault.TheVariants as entry
use Rattle.dbtg_trace.specs.declared.fault.TraceCause.{TraceCause}
use Rattle.dbtg_trace.specs.declared.fault.TraceCause.TheVariants.{AsInScript, NoUnit, NoArrow, NoAnswer}
use Rattle.dbtg_trace.specs.declared.traced.Said.{Said}
use Rattle.dbtg_trace.specs.Answers.{answer_in}
use Rattle.dbtg_trace.specs.Faults.{part_faults, when}
use Rattle.dbtg_trace.specs.Inside.Reading.{Refuses, entry_verdict, in_entry, part_verdict}
use Rattle.dbtg_trace.specs.Parts.{halves, unit_named}
use Rattle.dbtg_trace.specs.Reading.{part_faults_at_once}
use Rattle.dbtg_trace.proofs.Firsts.{first_else, first_of_map, first_then}

-- THE STATEMENT

pub no_statement : (schema : Lists) (part : List ℕ) → is_statement (trimmed part) ≡ false → part_verdict schema part ≡ Some (AsInScript cause.NoStatementWord)
unfolding part_verdict
no_statement schema part h = rw h refl

pub of_line : (schema : Lists) (part : List ℕ) → is_statement (trimmed part) ≡ true → part_verdict schema part ≡ option_map AsInScript (first (script_faults.line_faults schema 0 (trimmed part)))
unfolding part_verdict
of_line schema part h =
    let cs = script_faults.line_faults schema 0 (trimmed part) in
    ap (λ (b : Bool). first (when (not b) (AsInScript cause.NoStatementWord) ++ map AsInScript cs)) h ∙ first_of_map AsInScript cs

as_in_script : (o : Option Cause) (c : TraceCause) → option_map AsInScript o ≡ Some c → (k : Cause) × (o ≡ Some k) × (AsInScript k ≡ c)
as_in_script None c h = absurd cc
as_in_script (Some k) c h = (k, refl, cc)

pub at_once_of_line : (schema : Lists) (part : List ℕ) (c : TraceCause) → is_statement (trimmed part) ≡ true → first (part_faults_at_once schema part) ≡ Some c
    → (k : Cause) × (first (script.faults_at_once schema 0 (trimmed part)) ≡ Some k) × (AsInScript k ≡ c)
at_once_of_line schema part c h wrong =
    let cs = script.faults_at_once schema 0 (trimmed part) in
    let e : first (map AsInScript cs) ≡ Some c = subst (λ (b : Bool). first (when (not b) (AsInScript cause.NoStatementWord) ++ map AsInScript cs) ≡ Some c) h wrong in
    as_in_script (first cs) c (sym (first_of_map AsInScript cs) ∙ e)

-- the part is refused with the fault that it has as a line of a script
pub part_refused : (schema : Lists) (part : List ℕ) (e : LineFault) → is_statement (trimmed part) ≡ true → script.Refuses e (first (script_faults.line_faults schema 0 (trimmed part))) → Refuses (in_entry e) (part_verdict schema part)
part_refused schema part line.Memory one h = tt
part_refused schema part (line.Refused c) one h = of_line schema part one ∙ ap (option_map AsInScript) h

pub part_told : (schema : Lists) (part : List ℕ) (e : LineFault) (c : TraceCause) → is_statement (trimmed part) ≡ true
    → ((k : Cause) → first (script.faults_at_once schema 0 (trimmed part)) ≡ Some k → e ≡ line.Refused k) → first (part_faults_at_once schema part) ≡ Some c → in_entry e ≡ entry.Refused c
part_told schema part e c one told wrong =
    let k = at_once_of_line schema part c one wrong in
    ap in_entry (told k.0 k.1) ∙ ap (λ (x : TraceCause). entry.Refused x) k.2

-- THE LINE

pub no_unit : (schema : Lists) (units : ℕ) (line : List ℕ) → unit_named units line ≡ None → entry_verdict schema units line ≡ Some NoUnit
unfolding entry_verdict
no_unit schema units line h = rw h refl

pub no_arrow : (schema : Lists) (units u : ℕ) (line : List ℕ) → unit_named units line ≡ Some u → halves line ≡ None → entry_verdict schema units line ≡ Some NoArrow
unfolding entry_verdict
no_arrow schema units u line h g = rw (h, g) refl

-- the line has a unit and both halves
abbrev pub HasHalves : ℕ → List ℕ → ℕ → List ℕ × List ℕ → Type 0
HasHalves units line u p = (unit_named units line ≡ Some u) × (halves line ≡ Some p)

behind_unit : (schema : Lists) (units u : ℕ) (line : List ℕ) (p : List ℕ × List ℕ) → HasHalves units line u p
    → entry_verdict schema units line ≡ first (part_faults schema p.0 ++ when (is_none (answer_in schema p.1)) NoAnswer)
unfolding entry_verdict
behind_unit schema units u line p h = rw (h.0, h.1) refl

pub part_stops : (schema : Lists) (units u : ℕ) (line : List ℕ) (p : List ℕ × List ℕ) (c : TraceCause) → HasHalves units line u p → part_verdict schema p.0 ≡ Some c → entry_verdict schema units line ≡ Some c
unfolding part_verdict
part_stops schema units u line p c h g = behind_unit schema units u line p h ∙ first_then (part_faults schema p.0) _ c g

pub entry_refused : (schema : Lists) (units u : ℕ) (line : List ℕ) (p : List ℕ × List ℕ) (e : EntryFault) → HasHalves units line u p → Refuses e (part_verdict schema p.0) → Refuses e (entry_verdict schema units line)
entry_refused schema units u line p entry.Memory h g = tt
entry_refused schema units u line p (entry.Refused c) h g = part_stops schema units u line p c h g

pub no_answer : (schema : Lists) (units u : ℕ) (line : List ℕ) (p : List ℕ × List ℕ) → HasHalves units line u p → part_verdict schema p.0 ≡ None → answer_in schema p.1 ≡ None → entry_verdict schema units line ≡ Some NoAnswer
unfolding part_verdict
no_answer schema units u line p h g a = behind_unit schema units u line p h ∙ first_else (part_faults schema p.0) _ g ∙ rw a refl

pub all_said : (schema : Lists) (units u : ℕ) (line : List ℕ) (p : List ℕ × List ℕ) (said : Said) → HasHalves units line u p → part_verdict schema p.0 ≡ None → answer_in schema p.1 ≡ Some said → entry_verdict schema units line ≡ None
unfolding part_verdict
all_said schema units u line p said h g a = behind_unit schema units u line p h ∙ first_else (part_faults schema p.0) _ g ∙ rw a refl
