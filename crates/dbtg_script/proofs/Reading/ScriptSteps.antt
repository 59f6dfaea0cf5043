-- One line further.
use Rattle.std.proofs.Common.{◌≡◌, ℕ, ◌+◌, ◌≤◌, Bool, true, false, List, [], ◌∷◌, ◌++◌, length, map, Option, Some, None, refl, ap, arith, append_assoc, length-append}
use Rattle.std.specs.Prelude.{nat_lt, if◌then◌else◌}
use Rattle.std.proofs.lemmas.Bool.Decides.{nat_tests}
use Rattle.std.proofs.lemmas.List.{append-nil}
use Rattle.dbtg_schema.specs.Texts.Forms.{labels}
use Rattle.dbtg_schema.specs.Lists.{Lists}
use Rattle.dbtg_schema.specs.Lookups.{first}
use Rattle.dbtg_unit.specs.declared.statement.Statement.{Statement}
use Rattle.dbtg_script.specs.declared.limits.TheConstants.{SCRIPT_BYTES}
use Rattle.dbtg_script.specs.declared.fault.Cause.{Cause}
use Rattle.dbtg_script.specs.declared.fault.LineFault.{LineFault}
use Rattle.dbtg_script.specs.declared.fault.LineFault.TheVariants.{Refused, Memory}
use Rattle.dbtg_script.specs.Lines.{lines, trimmed, is_statement, ends_in_text}
use Rattle.dbtg_script.specs.Tokens.{tokens}
use Rattle.dbtg_script.specs.StatementGrammar.{fits, statement}
use Rattle.dbtg_script.specs.StatementFaults.{count_after, line_faults, refusal, statement_faults}
use Rattle.dbtg_script.specs.Statements.{line_statement, prepend, statement_of}
use Rattle.dbtg_script.specs.Reading.{verdict, Refuses, RefusesScript}
use Rattle.dbtg_script.specs.Inside.Reading.{lines_verdict, at_line}
use Rattle.dbtg_script.proofs.Reading.Firsts.{first_then, first_else}

-- a line whose quotes are closed
pub closed_line : (schema : Lists) (line : List ℕ) → ends_in_text false line ≡ false → first (statement_faults schema line) ≡ verdict schema [] statement (tokens false line)
unfolding verdict
closed_line schema line h = rw h refl

first_of_map : {X Y : Type 0} (g : X → Y) (xs : List X) (x : X) → first xs ≡ Some x → first (map g xs) ≡ Some (g x)
first_of_map g [] x h = absurd cc
first_of_map {X} {Y} g (y ∷ ys) x h = let e : y ≡ x = cc in ap (λ (z : X). Some (g z)) e

pub none_of_map : {X Y : Type 0} (g : X → Y) (xs : List X) → first xs ≡ None → first (map g xs) ≡ None
none_of_map g [] h = refl
none_of_map g (y ∷ ys) h = absurd cc

-- a line with no fault
pub line_passes : (schema : Lists) (count number : ℕ) (l : List ℕ) (ls : List (List ℕ)) → first (line_faults schema count (trimmed l)) ≡ None
    → lines_verdict schema count number (l ∷ ls) ≡ lines_verdict schema (count_after count (trimmed l)) (number + 1) ls
unfolding lines_verdict
line_passes schema count number l ls h = first_else (map (λ c. record { line = number; cause = c }) (line_faults schema count (trimmed l))) _ (none_of_map (λ c. record { line = number; cause = c }) (line_faults schema count (trimmed l)) h)

-- a line with a fault
line_stops : (schema : Lists) (count number : ℕ) (l : List ℕ) (ls : List (List ℕ)) (c : Cause) → first (line_faults schema count (trimmed l)) ≡ Some c
    → lines_verdict schema count number (l ∷ ls) ≡ Some (record { line = number; cause = c })
unfolding lines_verdict
line_stops schema count number l ls c h = first_then (map (λ c. record { line = number; cause = c }) (line_faults schema count (trimmed l))) _ _ (first_of_map (λ c. record { line = number; cause = c }) (line_faults schema count (trimmed l)) c h)

pub line_refused : (schema : Lists) (count number : ℕ) (l : List ℕ) (ls : List (List ℕ)) (e : LineFault) → Refuses e (first (line_faults schema count (trimmed l)))
    → RefusesScript (at_line number e) (lines_verdict schema count number (l ∷ ls))
line_refused schema count number l ls Memory h = tt
line_refused schema count number l ls (Refused c) h = line_stops schema count number l ls c h

count_cases : (b : Bool) (s : Statement) (ss : List Statement) → length (ss ++ prepend (if b then Some s else None) []) ≡ (if b then length ss + 1 else length ss)
count_cases true s ss = length-append ss (s ∷ [])
count_cases false s ss = ap length (append-nil ss)

-- the statements, and how many there are
pub counted : (schema : Lists) (ss : List Statement) (line : List ℕ) → length (ss ++ prepend (line_statement schema line) []) ≡ count_after (length ss) line
counted schema ss line = count_cases (is_statement line) (statement_of schema (labels fits statement (tokens false line))) ss

pub one_more : (o : Option Statement) (ss rest : List Statement) → (ss ++ prepend o []) ++ rest ≡ ss ++ prepend o rest
one_more None ss rest = ap (λ (xs : List Statement). xs ++ rest) (append-nil ss)
one_more (Some s) ss rest = append_assoc ss (s ∷ []) rest

-- a text that is not too long
pub short_script : (schema : Lists) (text : List ℕ) → length text ≤ SCRIPT_BYTES → refusal schema text ≡ lines_verdict schema 0 1 (lines text)
unfolding lines_verdict
short_script schema text h = let e : nat_lt SCRIPT_BYTES (length text) ≡ false = grind (arith, nat_tests) in rw e refl

pub no_lines : (schema : Lists) (count number : ℕ) (ls : List (List ℕ)) → ls ≡ [] → lines_verdict schema count number ls ≡ None
unfolding lines_verdict
no_lines schema count number ls h = rw h refl
