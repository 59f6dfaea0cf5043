-- Faults that are found before anything is kept are reported, and not a refusal of memory.
use Rattle.std.proofs.Common.{◌≡◌, ℕ, ◌+◌, ◌<◌, ◌≤◌, Bool, true, false, not, ◌&&◌, List, [], ◌∷◌, ◌++◌, length, map, Option, Some, None, refl, sym, ap, subst, ◌∙◌, arith}
use Rattle.std.specs.Prelude.{nat_le, nat_lt, is_err, OnErr, Result, Ok, Err, if◌then◌else◌}
use Rattle.std.proofs.lemmas.Bool.Decides.{nat_tests}
use Rattle.dbtg_schema.specs.Lists.{Lists}
use Rattle.dbtg_schema.specs.Lookups.{first}
use Rattle.dbtg_schema.specs.Texts.Forms.{by_start, labelled, labels, start_with, starts}
use Rattle.dbtg_unit.specs.declared.limits.TheConstants.{MOST_STATEMENTS}
use Rattle.dbtg_unit.specs.declared.statement.Statement.{Statement}
use Rattle.dbtg_script.specs.declared.limits.TheConstants.{SCRIPT_BYTES}
use Rattle.dbtg_script.specs.declared.fault.Cause.{Cause}
use Rattle.dbtg_script.specs.declared.fault.Cause.TheVariants as cause
use Rattle.dbtg_script.specs.declared.fault.Fault.{Fault}
use Rattle.dbtg_script.specs.declared.fault.LineFault.{LineFault}
use Rattle.dbtg_script.specs.declared.fault.LineFault.TheVariants as line
use Rattle.dbtg_script.specs.declared.fault.ScriptFault.TheVariants as script
use Rattle.dbtg_script.specs.Lines.{ends_in_text, is_allowed, is_statement, lines, trimmed}
use Rattle.dbtg_script.specs.Tokens.{Token, tokens}
use Rattle.dbtg_script.specs.StatementGrammar.{fits, statement}
use Rattle.dbtg_script.specs.Inside.StatementGrammar.{Start}
use Rattle.dbtg_script.specs.StatementFaults.{at_other, faults_from, line_faults, said, when}
use Rattle.dbtg_script.specs.Statements.{line_statement, prepend, statement_of}
use Rattle.dbtg_script.specs.Reading.{Refuses, faults_at_once, first_word_faults, lines_faults_at_once, script_faults_at_once}
use Rattle.dbtg_script.specs.LineCache.{IsRead}
use Rattle.dbtg_script.specs.Inside.Reading.{MayTakeMemory, at_line}
use Rattle.dbtg_script.proofs.Reading.Firsts.{first_else}
use Rattle.dbtg_script.proofs.Reading.ScriptSteps.{none_of_map}

-- A LINE WITHOUT FAULTS

none_front : {X : Type 0} (xs ys : List X) → first (xs ++ ys) ≡ None → first xs ≡ None
none_front [] ys h = refl
none_front (x ∷ xs) ys h = absurd cc

-- a list that begins as another does, as far as it goes
both_begin : {X : Type 0} (xs ys zs : List X) → (first ys ≡ None → first zs ≡ None) → first (xs ++ ys) ≡ None → first (xs ++ zs) ≡ None
both_begin [] ys zs f h = f h
both_begin (x ∷ xs) ys zs f h = absurd cc

where_one : (b : Bool) (xs ys : List Cause) → (first xs ≡ None → first ys ≡ None) → first (if b then xs else []) ≡ None → first (if b then ys else []) ≡ None
where_one true xs ys f h = f h
where_one false xs ys f h = refl

at_start : (schema : Lists) (t : Token) (left : List Token) (o : Option Start)
    → first (by_start o (λ s. said schema [] t s.role ++ faults_from schema (labelled s.role t ∷ []) s.rest left) (at_other [] ∷ [])) ≡ None
    → first (by_start o (λ s. said schema [] t s.role) (at_other [] ∷ [])) ≡ None
at_start schema t left None h = absurd cc
at_start schema t left (Some s) h = none_front (said schema [] t s.role) (faults_from schema (labelled s.role t ∷ []) s.rest left) h

at_first_word : (schema : Lists) (ts : List Token) → first (faults_from schema [] statement ts) ≡ None → first (first_word_faults schema ts) ≡ None
at_first_word schema [] h = refl
at_first_word schema (t ∷ ts) h = at_start schema t ts (start_with fits t (starts statement)) h

pub none_at_once : (schema : Lists) (count : ℕ) (line : List ℕ) → first (line_faults schema count line) ≡ None → first (faults_at_once schema count line) ≡ None
none_at_once schema count line =
    let words = faults_from schema [] statement (tokens false line) in
    let word = first_word_faults schema (tokens false line) in
    let open_text = when (ends_in_text false line) cause.UnexpectedWord in
    let one = is_statement line in
    both_begin (when (one && nat_le MOST_STATEMENTS count) cause.TooMuch ++ when (not (is_allowed line)) cause.LineNotAllowed) _ _
    (where_one one (open_text ++ words) (open_text ++ word) (both_begin open_text words word (at_first_word schema (tokens false line))))

pub not_at_once : (schema : Lists) (count : ℕ) (line : List ℕ) (c : Cause) → first (line_faults schema count line) ≡ None → first (faults_at_once schema count line) ≡ Some c → ⊥
not_at_once schema count line c h wrong = let none = none_at_once schema count line h in cc

-- WHERE MEMORY MAY BE TAKEN

-- a line that was read before
pub known_may : (schema : Lists) (ss : List Statement) (line : List ℕ) (at : ℕ) → IsRead schema ss line at → length ss < MOST_STATEMENTS → MayTakeMemory schema (length ss) line
known_may schema ss line at h few = record { holds_one = h.holds_one; goes_on = none_at_once schema (length ss) line (h.faultless (length ss) few) }

-- a line whose first word begins a statement
pub begun_may : (schema : Lists) (line : List ℕ) → is_statement line ≡ true → is_allowed line ≡ true → ends_in_text false line ≡ false → first_word_faults schema (tokens false line) ≡ []
    → (count : ℕ) → count < MOST_STATEMENTS → MayTakeMemory schema count line
begun_may schema line one allowed closed wanted count few =
    let room : nat_le MOST_STATEMENTS count ≡ false = grind (arith, nat_tests) in
    record { holds_one = one; goes_on = rw (one, room, allowed, closed, wanted) refl }

pub begun_where : {A E : Type 0} (r : Result A E) (schema : Lists) (line : List ℕ) → is_statement line ≡ true → is_allowed line ≡ true → ends_in_text false line ≡ false
    → (is_err r ≡ true → first_word_faults schema (tokens false line) ≡ []) → OnErr r ((count : ℕ) → count < MOST_STATEMENTS → MayTakeMemory schema count line)
begun_where (Ok x) schema line one allowed closed wanted = tt
begun_where (Err e) schema line one allowed closed wanted = begun_may schema line one allowed closed (wanted refl)

pub roomy_where : {A E : Type 0} (r : Result A E) (schema : Lists) (line : List ℕ) (n : ℕ) → n < MOST_STATEMENTS → OnErr r ((count : ℕ) → count < MOST_STATEMENTS → MayTakeMemory schema count line) → OnErr r (MayTakeMemory schema n line)
roomy_where (Ok x) schema line n few h = tt
roomy_where (Err e) schema line n few h = h n few

pub on_err : {A E : Type 0} (r : Result A E) (P : Type 0) → P → OnErr r P
on_err (Ok x) P p = tt
on_err (Err e) P p = p

-- where memory may be taken there is no fault at once
pub not_where_taken : (schema : Lists) (count : ℕ) (line : List ℕ) (c : Cause) → MayTakeMemory schema count line → first (faults_at_once schema count line) ≡ Some c → ⊥
not_where_taken schema count line c h wrong = let none = h.goes_on in cc

-- a line that says a statement is no note
is_one : (b : Bool) (x s : Statement) → (if b then Some x else None) ≡ Some s → b ≡ false → ⊥
is_one true x s h e = cc
is_one false x s h e = cc

pub not_a_note : (schema : Lists) (line : List ℕ) (s : Statement) → line_statement schema line ≡ Some s → is_statement line ≡ false → ⊥
not_a_note schema line s h e = is_one (is_statement line) (statement_of schema (labels fits statement (tokens false line))) s h e

-- THE LINES OF A SCRIPT

behind : (b : Bool) (fs : List Fault) (f : Fault) → first (if b then [] else fs) ≡ Some f → (b ≡ false) × (first fs ≡ Some f)
behind true fs f h = absurd cc
behind false fs f h = (refl, h)

-- a line that was taken without a fault holds no statement, if there is still a fault at once
pub behind_line : (schema : Lists) (number : ℕ) (l : List ℕ) (ls : List (List ℕ)) (f : Fault) → first (faults_at_once schema 0 (trimmed l)) ≡ None → first (lines_faults_at_once schema number (l ∷ ls)) ≡ Some f
    → (is_statement (trimmed l) ≡ false) × (first (lines_faults_at_once schema (number + 1) ls) ≡ Some f)
behind_line schema number l ls f none h =
    let cs = faults_at_once schema 0 (trimmed l) in
    behind (is_statement (trimmed l)) (lines_faults_at_once schema (number + 1) ls) f
    (sym (first_else (map (λ c. record { line = number; cause = c }) cs) _ (none_of_map (λ c. record { line = number; cause = c }) cs none)) ∙ h)

nothing_more : (b : Bool) (s : Statement) (ss : List Statement) → b ≡ false → ss ≡ [] → ss ++ prepend (if b then Some s else None) [] ≡ []
nothing_more true s ss e h = absurd cc
nothing_more false s ss e h = rw h refl

pub none_kept : (schema : Lists) (line : List ℕ) (ss : List Statement) → is_statement line ≡ false → ss ≡ [] → ss ++ prepend (line_statement schema line) [] ≡ []
none_kept schema line ss e h = nothing_more (is_statement line) (statement_of schema (labels fits statement (tokens false line))) ss e h

-- all faults of a note are found at once
of_note : (schema : Lists) (count : ℕ) (line : List ℕ) → is_statement line ≡ false → line_faults schema count line ≡ faults_at_once schema count line
of_note schema count line h = rw h refl

-- a note without a fault is taken
note_taken : (e : LineFault) → Refuses e None → (e ≡ line.Memory → ⊥) → ⊥
note_taken line.Memory h n = n refl
note_taken (line.Refused c) h n = cc

first_numbered : (number : ℕ) (c : Cause) (cs : List Cause) (fs : List Fault) (f : Fault) → first (map (λ c. record { line = number; cause = c }) (c ∷ cs) ++ fs) ≡ Some f
    → script.Refused number c ≡ script.Refused f.line f.cause
first_numbered number c cs fs f h = let e : record { line = number; cause = c } ≡ f = cc in ap (λ (x : Fault). script.Refused x.line x.cause) e

-- the fault at once of a line, or of the lines after it, is reported if the line is refused
pub line_told : (schema : Lists) (number : ℕ) (l : List ℕ) (ls : List (List ℕ)) (e : LineFault) (f : Fault)
    → ((c : Cause) → first (faults_at_once schema 0 (trimmed l)) ≡ Some c → e ≡ line.Refused c)
    → (is_statement (trimmed l) ≡ false → e ≡ line.Memory → ⊥)
    → Refuses e (first (line_faults schema 0 (trimmed l)))
    → first (lines_faults_at_once schema number (l ∷ ls)) ≡ Some f
    → at_line number e ≡ script.Refused f.line f.cause
line_told schema number l ls e f told note refused h = by_case (faults_at_once schema 0 (trimmed l)) refl
  where
    by_case : (cs : List Cause) → faults_at_once schema 0 (trimmed l) ≡ cs → at_line number e ≡ script.Refused f.line f.cause
    by_case [] is =
        let b = behind_line schema number l ls f (ap first is) h in
        absurd (note_taken e (subst (Refuses e) (ap first (of_note schema 0 (trimmed l) b.0 ∙ is)) refused) (note b.0))
    by_case (c ∷ cs) is =
        ap (at_line number) (told c (ap first is))
        ∙ first_numbered number c cs (if is_statement (trimmed l) then [] else lines_faults_at_once schema (number + 1) ls) f
        (subst (λ (xs : List Cause). first (map (λ c. record { line = number; cause = c }) xs ++ (if is_statement (trimmed l) then [] else lines_faults_at_once schema (number + 1) ls)) ≡ Some f) is h)

-- THE WHOLE

pub long_told : (schema : Lists) (text : List ℕ) (f : Fault) → SCRIPT_BYTES < length text → first (script_faults_at_once schema text) ≡ Some f → script.Refused 1 cause.TooMuch ≡ script.Refused f.line f.cause
long_told schema text f long h =
    let e : nat_lt SCRIPT_BYTES (length text) ≡ true = grind (arith, nat_tests) in
    first_numbered 1 cause.TooMuch [] (lines_faults_at_once schema 1 (lines text)) f (subst (λ (b : Bool). first ((if b then record { line = 1; cause = cause.TooMuch } ∷ [] else []) ++ lines_faults_at_once schema 1 (lines text)) ≡ Some f) e h)

pub short_told : (schema : Lists) (text : List ℕ) → length text ≤ SCRIPT_BYTES → script_faults_at_once schema text ≡ lines_faults_at_once schema 1 (lines text)
short_told schema text h = let e : nat_lt SCRIPT_BYTES (length text) ≡ false = grind (arith, nat_tests) in rw e refl

pub over : (schema : Lists) (number : ℕ) (ls : List (List ℕ)) (f : Fault) → ls ≡ [] → first (lines_faults_at_once schema number ls) ≡ Some f → ⊥
over schema number ls f e h = let none = subst (λ (z : List (List ℕ)). first (lines_faults_at_once schema number z) ≡ Some f) e h in cc
