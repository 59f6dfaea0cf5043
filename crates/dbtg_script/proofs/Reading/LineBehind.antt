-- A line after a script.
use Rattle.std.proofs.Common.{◌≡◌, ℕ, ◌+◌, ◌-◌, ◌<◌, ◌≤◌, Bool, true, false, not, cond, eqb, ◌&&◌, ◌||◌, List, [], ◌∷◌, ◌++◌, length, get_or, take, Option, Some, None, refl, sym, ap, ◌∙◌, arith, append_assoc, length-append}
use Rattle.std.specs.Prelude.{nat_le, nat_lt}
use Rattle.std.specs.List.{list_all}
use Rattle.std.proofs.lemmas.List.{append-nil, take_more, take_all}
use Rattle.std.proofs.lemmas.List.Folds.{list_any-append}
use Rattle.std.proofs.lemmas.Bool.{eqb-true, ne_eqb, and_parts, leb-true, ltb-true, not-false}
use Rattle.dbtg_schema.specs.Lists.{Lists}
use Rattle.dbtg_schema.specs.Lookups.{first}
use Rattle.dbtg_schema.proofs.Public.{both_nil, none_at_all}
use Rattle.dbtg_unit.specs.declared.limits.TheConstants.{MOST_STATEMENTS}
use Rattle.dbtg_unit.specs.declared.statement.Statement.{Statement}
use Rattle.dbtg_script.specs.declared.fault.Cause.{Cause}
use Rattle.dbtg_script.specs.declared.fault.Cause.TheVariants.{LineNotAllowed, TooMuch}
use Rattle.dbtg_script.specs.declared.fault.Fault.{Fault}
use Rattle.dbtg_script.specs.Laws.{LineBehindScriptIsRead}
use Rattle.dbtg_script.specs.Lines.{ends_with, is_allowed, is_statement, lines, trimmed, without_last}
use Rattle.dbtg_script.specs.Inside.Reading.{lines_verdict}
use Rattle.dbtg_script.specs.Printing.Spelling.{has_byte}
use Rattle.dbtg_script.specs.StatementFaults.{count_after, line_faults, lines_faults, refusal, statement_faults, when}
use Rattle.dbtg_script.specs.Statements.{line_statement, prepend, script, statements_of}
use Rattle.dbtg_script.proofs.Fitting.FittingNames.{not_when}
use Rattle.dbtg_script.proofs.Fitting.FittingStatements.{none_here}
use Rattle.dbtg_script.proofs.Reading.LineSteps.{feed_closes, line_behind, no_line}
use Rattle.dbtg_script.proofs.Reading.ScriptSteps.{counted, line_passes, no_lines, one_more, short_script}

-- NO LINE FEED IS IN A LINE THAT IS ALLOWED

allowed_bytes : (line : List ℕ) → list_all (λ b. nat_le 32 b && nat_le b 126) line ≡ true → has_byte 10 line ≡ false
allowed_bytes [] h = refl
allowed_bytes (b ∷ bs) h =
    let parts = and_parts (nat_le 32 b && nat_le b 126) (list_all (λ c. nat_le 32 c && nat_le c 126) bs) h in
    let low = leb-true 32 b (and_parts (nat_le 32 b) (nat_le b 126) parts.0).0 in
    let differs : b ≡ 10 → ⊥ = λ e. omega (arith, low, e) in
    rw (ne_eqb b 10 differs) (allowed_bytes bs parts.1)

-- a list without its last, and the last
split_last : (line : List ℕ) → 0 < length line → line ≡ take (length line - 1) line ++ get_or line (length line - 1) 0 ∷ []
split_last line some =
    let e : length line - 1 + 1 ≡ length line = omega arith in
    sym (take_all (length line) line (omega arith)) ∙ ap (λ n. take n line) (sym e) ∙ take_more line (length line - 1) 0 (omega arith)

without_byte : (c : ℕ) (line : List ℕ) → eqb c 10 ≡ false → has_byte 10 (without_last c line) ≡ false → has_byte 10 line ≡ false
without_byte c line other h = by (ends_with c line) refl
  where
    by : (b : Bool) → ends_with c line ≡ b → has_byte 10 line ≡ false
    by true e =
        let parts = and_parts (nat_lt 0 (length line)) (eqb (get_or line (length line - 1) 0) c) e in
        let last = eqb-true (get_or line (length line - 1) 0) c parts.1 in
        let front : has_byte 10 (take (length line - 1) line) ≡ false = ap (λ k. has_byte 10 (cond k (take (length line - 1) line) line)) (sym e) ∙ h in
        ap (has_byte 10) (split_last line (ltb-true 0 (length line) parts.0)) ∙ list_any-append (λ x. eqb x 10) (take (length line - 1) line) (get_or line (length line - 1) 0 ∷ [])
        ∙ (λ i. front i || (ap (λ x. eqb x 10 || false) last ∙ ap (λ k. k || false) other) i)
    by false e = ap (λ k. has_byte 10 (cond k (take (length line - 1) line) line)) (sym e) ∙ h

no_feed : (line : List ℕ) → is_allowed (trimmed line) ≡ true → has_byte 10 line ≡ false
no_feed line h =
    without_byte 13 line refl (without_byte 46 (without_last 13 line) refl
    (allowed_bytes (trimmed line) (and_parts (list_all (λ b. nat_le 32 b && nat_le b 126) (trimmed line)) (nat_le (length (trimmed line)) 1000) h).0))

faultless_allowed : (schema : Lists) (count : ℕ) (line : List ℕ) → line_faults schema count line ≡ [] → is_allowed line ≡ true
faultless_allowed schema count line h =
    let a = both_nil (when (is_statement line && nat_le MOST_STATEMENTS count) TooMuch ++ when (not (is_allowed line)) LineNotAllowed) (cond (is_statement line) (statement_faults schema line) []) h in
    let x = both_nil (when (is_statement line && nat_le MOST_STATEMENTS count) TooMuch) (when (not (is_allowed line)) LineNotAllowed) a.0 in
    not-false (is_allowed line) (not_when (not (is_allowed line)) LineNotAllowed x.1)

-- ONE LINE MORE

first_line : (schema : Lists) (count number : ℕ) (l : List ℕ) (ls : List (List ℕ)) → lines_verdict schema count number (l ∷ ls) ≡ None → first (line_faults schema count (trimmed l)) ≡ None
unfolding lines_verdict
first_line schema count number l ls h = ap first (none_here number (line_faults schema count (trimmed l)) (lines_faults schema (count_after count (trimmed l)) (number + 1) ls) h)

lines_then : (schema : Lists) (ls : List (List ℕ)) (ss : List Statement) (number : ℕ) (line : List ℕ) → lines_verdict schema (length ss) number ls ≡ None
    → first (line_faults schema (length (ss ++ statements_of schema ls)) (trimmed line)) ≡ None → lines_verdict schema (length ss) number (ls ++ line ∷ []) ≡ None
lines_then schema [] ss number line h last =
    let here : first (line_faults schema (length ss) (trimmed line)) ≡ None = ap (λ (xs : List Statement). first (line_faults schema (length xs) (trimmed line))) (sym (append-nil ss)) ∙ last in
    line_passes schema (length ss) number line [] here ∙ no_lines schema (count_after (length ss) (trimmed line)) (number + 1) [] refl
lines_then schema (l ∷ ls) ss number line h last =
    let said = ss ++ prepend (line_statement schema (trimmed l)) [] in
    let fine = first_line schema (length ss) number l ls h in
    let many : count_after (length ss) (trimmed l) ≡ length said = sym (counted schema ss (trimmed l)) in
    let rest : lines_verdict schema (length said) (number + 1) ls ≡ None =
    ap (λ n. lines_verdict schema n (number + 1) ls) (sym many) ∙ sym (line_passes schema (length ss) number l ls fine) ∙ h in
    let later : first (line_faults schema (length (said ++ statements_of schema ls)) (trimmed line)) ≡ None =
    ap (λ (xs : List Statement). first (line_faults schema (length xs) (trimmed line))) (one_more (line_statement schema (trimmed l)) ss (statements_of schema ls)) ∙ last in
    line_passes schema (length ss) number l (ls ++ line ∷ []) fine ∙ ap (λ n. lines_verdict schema n (number + 1) (ls ++ line ∷ [])) many ∙ lines_then schema ls said (number + 1) line rest later

prepended : (o : Option Statement) (xs ys : List Statement) → prepend o (xs ++ ys) ≡ prepend o xs ++ ys
prepended None xs ys = refl
prepended (Some s) xs ys = refl

said_then : (schema : Lists) (ls : List (List ℕ)) (line : List ℕ) → statements_of schema (ls ++ line ∷ []) ≡ statements_of schema ls ++ prepend (line_statement schema (trimmed line)) []
said_then schema [] line = refl
said_then schema (l ∷ ls) line =
    ap (prepend (line_statement schema (trimmed l))) (said_then schema ls line)
    ∙ prepended (line_statement schema (trimmed l)) (statements_of schema ls) (prepend (line_statement schema (trimmed line)) [])

pub is_read_behind : LineBehindScriptIsRead
is_read_behind schema text line whole room accepted fine =
    let faultless = none_at_all (line_faults schema (length (script schema text)) (trimmed line)) fine in
    let feedless = no_feed line (faultless_allowed schema (length (script schema text)) (trimmed line) faultless) in
    let joined = append_assoc text line (10 ∷ []) in
    let behind : lines (text ++ line ++ 10 ∷ []) ≡ lines text ++ line ∷ [] = ap lines joined ∙ line_behind true text line whole feedless in
    let many : length (text ++ line ++ 10 ∷ []) ≡ length text + length line + 1 = length-append (text ++ line) (10 ∷ []) ∙ ap (λ n. n + 1) (length-append text line) in
    let before : lines_verdict schema 0 1 (lines text) ≡ None = sym (short_script schema text (omega arith)) ∙ accepted in (
      short_script schema (text ++ line ++ 10 ∷ []) (omega (arith, many)) ∙ ap (λ ls. lines_verdict schema 0 1 ls) behind ∙ lines_then schema (lines text) [] 1 line before fine,
      ap (statements_of schema) behind ∙ said_then schema (lines text) line,
      feed_closes true (text ++ line),
    )

-- an empty script says nothing
pub nothing_read : (schema : Lists) → (refusal schema [] ≡ None) × (script schema [] ≡ [])
nothing_read schema = (
  short_script schema [] (omega arith) ∙ no_lines schema 0 1 (lines []) no_line_at_all,
  ap (statements_of schema) no_line_at_all,
)
  where
    no_line_at_all : lines [] ≡ []
    no_line_at_all = no_line [] refl
