-- An accepted script has at most 65,535 statements.
use Rattle.std.proofs.Common.{◌≡◌, ℕ, ◌+◌, ◌<◌, ◌≤◌, ◌&&◌, Bool, true, false, cond, not, List, [], ◌∷◌, ◌++◌, length, map, Some, None, refl, arith, nat_le}
use Rattle.std.proofs.lemmas.Bool.{leb-false}
use Rattle.dbtg_schema.specs.Lists.{Lists}
use Rattle.dbtg_schema.specs.Lookups.{first}
use Rattle.dbtg_unit.specs.declared.limits.TheConstants.{MOST_STATEMENTS}
use Rattle.dbtg_unit.specs.declared.statement.Statement.{Statement}
use Rattle.dbtg_script.specs.declared.fault.Fault.{Fault}
use Rattle.dbtg_script.specs.declared.fault.Cause.{Cause}
use Rattle.dbtg_script.specs.declared.fault.Cause.TheVariants as cause
use Rattle.dbtg_script.specs.Lines.{is_allowed, is_statement, lines, trimmed}
use Rattle.dbtg_script.specs.StatementGrammar.{fits, statement}
use Rattle.dbtg_script.specs.Tokens.{tokens}
use Rattle.dbtg_schema.specs.Texts.Forms.{labels}
use Rattle.dbtg_schema.proofs.Public.{none_at_all}
use Rattle.dbtg_script.specs.Statements.{line_statement, prepend, script, statement_of, statements_of}
use Rattle.dbtg_script.specs.StatementFaults.{count_after, faults, line_faults, lines_faults, refusal, statement_faults, too_long, when}
use Rattle.dbtg_script.proofs.Public.{not_when}

none_in_front : {X : Type 0} (xs ys : List X) → xs ++ ys ≡ [] → xs ≡ []
none_in_front [] ys e = refl
none_in_front (x ∷ xs) ys e = absurd (cc (e))

none_behind : {X : Type 0} (xs ys : List X) → xs ++ ys ≡ [] → ys ≡ []
none_behind [] ys e = e
none_behind (x ∷ xs) ys e = absurd (cc (e))

none_mapped : {X Y : Type 0} (f : X → Y) (xs : List X) → map f xs ≡ [] → xs ≡ []
none_mapped f [] e = refl
none_mapped f (x ∷ xs) e = absurd (cc (e))

-- a line without a fault leaves room for its statement
room : (b : Bool) (count : ℕ) (s : Statement) (ss : List Statement) → count ≤ MOST_STATEMENTS → when (b && nat_le MOST_STATEMENTS count) cause.TooMuch ≡ []
    → (cond b (count + 1) count ≤ MOST_STATEMENTS → cond b (count + 1) count + length ss ≤ MOST_STATEMENTS) → count + length (prepend (cond b (Some s) None) ss) ≤ MOST_STATEMENTS
room true count s ss few none then =
    let below : count < MOST_STATEMENTS = leb-false MOST_STATEMENTS count (not_when (nat_le MOST_STATEMENTS count) cause.TooMuch none) in
    let all = then (omega (arith, below)) in omega (arith, all)
room false count s ss few none then = then few

few_in_lines : (schema : Lists) (count number : ℕ) (ls : List (List ℕ)) → count ≤ MOST_STATEMENTS → lines_faults schema count number ls ≡ [] → count + length (statements_of schema ls) ≤ MOST_STATEMENTS
few_in_lines schema count number [] few none = omega (arith, few)
few_in_lines schema count number (l ∷ ls) few none =
    let line = trimmed l in
    let said : Cause → Fault = λ c. record { line = number; cause = c } in
    let others = lines_faults schema (count_after count line) (number + 1) ls in
    let here : line_faults schema count line ≡ [] = none_mapped said (line_faults schema count line) (none_in_front (map said (line_faults schema count line)) others none) in
    let behind : others ≡ [] = none_behind (map said (line_faults schema count line)) others none in
    let ample : when (is_statement line && nat_le MOST_STATEMENTS count) cause.TooMuch ≡ [] = none_in_front _ (when (not (is_allowed line)) cause.LineNotAllowed) (none_in_front _ (cond (is_statement line) (statement_faults schema line) []) here) in
    room (is_statement line) count (statement_of schema (labels fits statement (tokens false line))) (statements_of schema ls) few ample
    (λ most. few_in_lines schema (count_after count line) (number + 1) ls most behind)

pub few_statements : (schema : Lists) (text : List ℕ) → refusal schema text ≡ None → length (script schema text) ≤ MOST_STATEMENTS
few_statements schema text accepted =
    let none = none_behind (too_long text) _ (none_at_all (faults schema text) accepted) in
    let few = few_in_lines schema 0 1 (lines text) (omega arith) none in
    omega (arith, few)

-- if a line without a fault holds a statement, there is room for it after those that are there
room_if : (b : Bool) (count : ℕ) (x s : Statement) → cond b (Some x) None ≡ Some s → when (b && nat_le MOST_STATEMENTS count) cause.TooMuch ≡ [] → count < MOST_STATEMENTS
room_if true count x s said none = leb-false MOST_STATEMENTS count (not_when (nat_le MOST_STATEMENTS count) cause.TooMuch none)
room_if false count x s said none = absurd (cc (said))

pub room_for : (schema : Lists) (count : ℕ) (line : List ℕ) (s : Statement) → line_statement schema line ≡ Some s → first (line_faults schema count line) ≡ None → count < MOST_STATEMENTS
room_for schema count line s said fine =
    let none = none_at_all (line_faults schema count line) fine in
    let ample : when (is_statement line && nat_le MOST_STATEMENTS count) cause.TooMuch ≡ [] = none_in_front _ (when (not (is_allowed line)) cause.LineNotAllowed) (none_in_front _ (cond (is_statement line) (statement_faults schema line) []) none) in
    room_if (is_statement line) count (statement_of schema (labels fits statement (tokens false line))) s said ample
