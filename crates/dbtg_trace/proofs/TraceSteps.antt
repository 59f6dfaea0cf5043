-- One more line.
use Rattle.std.proofs.Common.{◌≡◌, ℕ, ◌+◌, ◌<◌, ◌≤◌, Bool, true, false, List, [], ◌∷◌, ◌++◌, length, map, Option, Some, None, refl, sym, ap, subst, ◌∙◌, arith}
use Rattle.std.specs.Prelude.{nat_lt, if◌then◌else◌}
use Rattle.std.proofs.lemmas.Bool.Decides.{nat_tests}
use Rattle.std.specs.List.{list_all}
use Rattle.std.proofs.lemmas.List.{append-nil}
use Rattle.std.proofs.lemmas.List.Folds.{list_all-append}
use Rattle.dbtg_schema.specs.Lists.{Lists}
use Rattle.dbtg_schema.specs.Lookups.{first}
use Rattle.dbtg_script.specs.declared.fault.Cause.TheVariants as cause
use Rattle.dbtg_script.specs.Lines.{is_statement, lines, trimmed}
use Rattle.dbtg_script.specs.StatementFaults.{count_after}
use Rattle.dbtg_trace.specs.declared.fault.EntryFault.{EntryFault}
use Rattle.dbtg_trace.specs.declared.fault.EntryFault.TheVariants as entry
use Rattle.dbtg_trace.specs.declared.fault.Fault.{Fault}
use Rattle.dbtg_trace.specs.declared.fault.TraceCause.{TraceCause}
use Rattle.dbtg_trace.specs.declared.fault.TraceCause.TheVariants.{AsInScript}
use Rattle.dbtg_trace.specs.declared.fault.TraceFault.TheVariants as trace
use Rattle.dbtg_trace.specs.declared.traced.Traced.{Traced}
use Rattle.dbtg_trace.specs.Faults.{entry_faults, line_faults, refusal, whole_faults}
use Rattle.dbtg_trace.specs.Inside.Reading.{Refuses, at_line, entry_verdict, line_verdict, lines_verdict}
use Rattle.dbtg_trace.specs.Reading.{RefusesTrace, entry_faults_at_once, faults_at_once, line_faults_at_once, lines_faults_at_once}
use Rattle.dbtg_trace.specs.Traces.{entry_of, line_entry}
use Rattle.dbtg_trace.proofs.Firsts.{first_else, first_then}

-- A LINE

pub whole_stops : (schema : Lists) (units count : ℕ) (line : List ℕ) (c : TraceCause) → first (whole_faults count line) ≡ Some c → line_verdict schema units count line ≡ Some c
unfolding line_verdict
whole_stops schema units count line c h = first_then (whole_faults count line) _ c h

pub note_passes : (schema : Lists) (units count : ℕ) (line : List ℕ) → first (whole_faults count line) ≡ None → is_statement line ≡ false → line_verdict schema units count line ≡ None
unfolding line_verdict
note_passes schema units count line h note = first_else (whole_faults count line) _ h ∙ ap (λ (b : Bool). first (if b then entry_faults schema units line else [])) note

pub entry_decides : (schema : Lists) (units count : ℕ) (line : List ℕ) → first (whole_faults count line) ≡ None → is_statement line ≡ true → line_verdict schema units count line ≡ entry_verdict schema units line
unfolding line_verdict entry_verdict
entry_decides schema units count line h one = first_else (whole_faults count line) _ h ∙ ap (λ (b : Bool). first (if b then entry_faults schema units line else [])) one

same : {X : Type 0} (o : Option X) (x y : X) → o ≡ Some x → o ≡ Some y → x ≡ y
same None x y h g = absurd cc
same (Some z) x y h g = cc

-- what is found before a word is kept
pub whole_at_once : (schema : Lists) (units count : ℕ) (line : List ℕ) (c d : TraceCause) → first (whole_faults count line) ≡ Some c → first (line_faults_at_once schema units count line) ≡ Some d → c ≡ d
whole_at_once schema units count line c d h wrong = same (first (line_faults_at_once schema units count line)) c d (first_then (whole_faults count line) _ c h) wrong

pub entry_at_once : (schema : Lists) (units count : ℕ) (line : List ℕ) (c : TraceCause) → first (whole_faults count line) ≡ None → is_statement line ≡ true → first (line_faults_at_once schema units count line) ≡ Some c
    → first (entry_faults_at_once schema units line) ≡ Some c
entry_at_once schema units count line c h one wrong =
    sym (first_else (whole_faults count line) _ h ∙ ap (λ (b : Bool). first (if b then entry_faults_at_once schema units line else [])) one) ∙ wrong

-- what it says
pub nothing_said : (schema : Lists) (units number : ℕ) (line : List ℕ) (es : List Traced) → is_statement line ≡ false → es ≡ es ++ line_entry schema units number line
nothing_said schema units number line es h = rw h (sym (append-nil es))

pub one_said : (schema : Lists) (units number : ℕ) (line : List ℕ) (t : Traced) → is_statement line ≡ true → entry_of schema units number line ≡ Some t → line_entry schema units number line ≡ t ∷ []
one_said schema units number line t h e = rw (h, e) refl

pub both_pass : (p : Traced → Bool) (xs ys : List Traced) → list_all p xs ≡ true → list_all p ys ≡ true → list_all p (xs ++ ys) ≡ true
both_pass p xs ys h g = list_all-append p xs ys ∙ rw (h, g) refl

-- LINES

none_of_map : (number : ℕ) (cs : List TraceCause) → first cs ≡ None → first {X = Fault} (map (λ c. record { line = number; cause = c }) cs) ≡ None
none_of_map number [] h = refl
none_of_map number (c ∷ cs) h = absurd cc

some_of_map : (number : ℕ) (cs : List TraceCause) (c : TraceCause) → first cs ≡ Some c → first {X = Fault} (map (λ c. record { line = number; cause = c }) cs) ≡ Some (record { line = number; cause = c })
some_of_map number [] c h = absurd cc
some_of_map number (d ∷ cs) c h = let e : d ≡ c = cc in ap (λ (x : TraceCause). let f : Fault = record { line = number; cause = x } in Some f) e

pub line_passes : (schema : Lists) (units count number : ℕ) (l : List ℕ) (ls : List (List ℕ)) → line_verdict schema units count (trimmed l) ≡ None
    → lines_verdict schema units count number (l ∷ ls) ≡ lines_verdict schema units (count_after count (trimmed l)) (number + 1) ls
unfolding lines_verdict line_verdict
line_passes schema units count number l ls h =
    let cs = line_faults schema units count (trimmed l) in
    first_else (map (λ c. record { line = number; cause = c }) cs) _ (none_of_map number cs h)

line_stops : (schema : Lists) (units count number : ℕ) (l : List ℕ) (ls : List (List ℕ)) (c : TraceCause) → line_verdict schema units count (trimmed l) ≡ Some c
    → lines_verdict schema units count number (l ∷ ls) ≡ Some (record { line = number; cause = c })
unfolding lines_verdict line_verdict
line_stops schema units count number l ls c h =
    let cs = line_faults schema units count (trimmed l) in
    first_then (map (λ c. record { line = number; cause = c }) cs) _ _ (some_of_map number cs c h)

pub line_refused : (schema : Lists) (units count number : ℕ) (l : List ℕ) (ls : List (List ℕ)) (e : EntryFault) → Refuses e (line_verdict schema units count (trimmed l))
    → RefusesTrace (at_line number e) (lines_verdict schema units count number (l ∷ ls))
line_refused schema units count number l ls entry.Memory h = tt
line_refused schema units count number l ls (entry.Refused c) h = line_stops schema units count number l ls c h

pub short_trace : (schema : Lists) (units : ℕ) (text : List ℕ) → length text ≤ 67108864 → refusal schema units text ≡ lines_verdict schema units 0 1 (lines text)
unfolding lines_verdict
short_trace schema units text h = let e : nat_lt 67108864 (length text) ≡ false = grind (arith, nat_tests) in rw e refl

pub no_lines : (schema : Lists) (units count number : ℕ) (ls : List (List ℕ)) → ls ≡ [] → lines_verdict schema units count number ls ≡ None
unfolding lines_verdict
no_lines schema units count number ls h = rw h refl

-- WHAT IS FOUND AT ONCE

pub none_told : {X : Type 0} (o : Option X) → ((x : X) → o ≡ Some x → ⊥) → o ≡ None
none_told None h = refl
none_told (Some x) h = absurd (h x refl)

behind : (b : Bool) (fs : List Fault) (f : Fault) → first (if b then [] else fs) ≡ Some f → (b ≡ false) × (first fs ≡ Some f)
behind true fs f h = absurd cc
behind false fs f h = (refl, h)

-- a line without a fault of its own holds no statement, if a fault is still found at once
pub behind_line : (schema : Lists) (units number : ℕ) (l : List ℕ) (ls : List (List ℕ)) (f : Fault) → first (line_faults_at_once schema units 0 (trimmed l)) ≡ None → first (lines_faults_at_once schema units number (l ∷ ls)) ≡ Some f
    → (is_statement (trimmed l) ≡ false) × (first (lines_faults_at_once schema units (number + 1) ls) ≡ Some f)
behind_line schema units number l ls f none h =
    let cs = line_faults_at_once schema units 0 (trimmed l) in
    behind (is_statement (trimmed l)) (lines_faults_at_once schema units (number + 1) ls) f
    (sym (first_else (map (λ c. record { line = number; cause = c }) cs) _ (none_of_map number cs none)) ∙ h)

pub none_kept : (schema : Lists) (units number : ℕ) (line : List ℕ) (es : List Traced) → is_statement line ≡ false → es ≡ [] → es ++ line_entry schema units number line ≡ []
none_kept schema units number line es h e = rw (e, h) refl

-- all faults of a note are found at once
of_note : (schema : Lists) (units count : ℕ) (line : List ℕ) → is_statement line ≡ false → line_verdict schema units count line ≡ first (line_faults_at_once schema units count line)
unfolding line_verdict
of_note schema units count line h = rw h refl

note_taken : (e : EntryFault) → Refuses e None → (e ≡ entry.Memory → ⊥) → ⊥
note_taken entry.Memory h n = n refl
note_taken (entry.Refused c) h n = cc

first_numbered : (number : ℕ) (c : TraceCause) (cs : List TraceCause) (fs : List Fault) (f : Fault) → first {X = Fault} (map (λ c. record { line = number; cause = c }) (c ∷ cs) ++ fs) ≡ Some f
    → trace.Refused number c ≡ trace.Refused f.line f.cause
first_numbered number c cs fs f h = let g : Fault = record { line = number; cause = c } in let e : g ≡ f = cc in ap (λ (x : Fault). trace.Refused x.line x.cause) e

-- the fault found at once in a line or in those after it is reported, where the line is refused
pub line_told : (schema : Lists) (units number : ℕ) (l : List ℕ) (ls : List (List ℕ)) (e : EntryFault) (f : Fault)
    → ((c : TraceCause) → first (line_faults_at_once schema units 0 (trimmed l)) ≡ Some c → e ≡ entry.Refused c)
    → (is_statement (trimmed l) ≡ false → e ≡ entry.Memory → ⊥)
    → Refuses e (line_verdict schema units 0 (trimmed l))
    → first (lines_faults_at_once schema units number (l ∷ ls)) ≡ Some f
    → at_line number e ≡ trace.Refused f.line f.cause
line_told schema units number l ls e f told note refused h = by_case (line_faults_at_once schema units 0 (trimmed l)) refl
  where
    by_case : (cs : List TraceCause) → line_faults_at_once schema units 0 (trimmed l) ≡ cs → at_line number e ≡ trace.Refused f.line f.cause
    by_case [] is =
        let b = behind_line schema units number l ls f (ap first is) h in
        absurd (note_taken e (subst (Refuses e) (of_note schema units 0 (trimmed l) b.0 ∙ ap first is) refused) (note b.0))
    by_case (c ∷ cs) is =
        ap (at_line number) (told c (ap first is))
        ∙ first_numbered number c cs (if is_statement (trimmed l) then [] else lines_faults_at_once schema units (number + 1) ls) f
        (subst (λ (xs : List TraceCause). first {X = Fault} (map (λ c. record { line = number; cause = c }) xs ++ (if is_statement (trimmed l) then [] else lines_faults_at_once schema units (number + 1) ls)) ≡ Some f) is h)

-- THE WHOLE

pub long_told : (schema : Lists) (units : ℕ) (text : List ℕ) (f : Fault) → 67108864 < length text → first (faults_at_once schema units text) ≡ Some f → trace.Refused 1 (AsInScript cause.TooMuch) ≡ trace.Refused f.line f.cause
long_told schema units text f long h =
    let e : nat_lt 67108864 (length text) ≡ true = grind (arith, nat_tests) in
    first_numbered 1 (AsInScript cause.TooMuch) [] (lines_faults_at_once schema units 1 (lines text)) f (subst (λ (b : Bool). first ((if b then record { line = 1; cause = AsInScript cause.TooMuch } ∷ [] else []) ++ lines_faults_at_once schema units 1 (lines text)) ≡ Some f) e h)

pub short_told : (schema : Lists) (units : ℕ) (text : List ℕ) → length text ≤ 67108864 → faults_at_once schema units text ≡ lines_faults_at_once schema units 1 (lines text)
short_told schema units text h = let e : nat_lt 67108864 (length text) ≡ false = grind (arith, nat_tests) in rw e refl

pub over : (schema : Lists) (units number : ℕ) (ls : List (List ℕ)) (f : Fault) → ls ≡ [] → first (lines_faults_at_once schema units number ls) ≡ Some f → ⊥
over schema units number ls f e h = let none = subst (λ (z : List (List ℕ)). first (lines_faults_at_once schema units number z) ≡ Some f) e h in cc
