-- The lines beside the answers of a history are lines of accepted scripts.
use Rattle.std.proofs.Common.{◌≡◌, ℕ, zero, suc, ◌+◌, ◌-◌, ◌<◌, ◌≤◌, Bool, true, false, cond, not, ◌&&◌, List, [], ◌∷◌, ◌++◌, filter, length, map, Option, Some, None, slice_get, refl, sym, ◌∙◌, arith}
use Rattle.std.specs.Prelude.{Ok, if◌then◌else◌, nat_le, nat_lt, unwrap_or}
use Rattle.std.specs.List.{AllByRecursion, list_all}
use Rattle.std.proofs.lemmas.Bool.{and_from, and_parts}
use Rattle.std.proofs.lemmas.Bool.Decides.{nat_tests}
use Rattle.dbtg_schema.specs.Lists.{Lists}
use Rattle.dbtg_schema.specs.Lookups.{first}
use Rattle.dbtg_schema.specs.Named.{IsNamed}
use Rattle.dbtg_schema.specs.Sound.{IsSound}
use Rattle.dbtg_unit.specs.declared.limits.TheConstants.{MOST_STATEMENTS}
use Rattle.dbtg_unit.specs.declared.statement.Statement.{Statement}
use Rattle.dbtg_unit.specs.declared.unit.Entry.{Entry}
use Rattle.dbtg_unit.specs.Database.Laws.Replay.{AnswersHold, opening_state}
use Rattle.dbtg_unit.specs.Database.Statements.Fits.{fits}
use Rattle.dbtg_script.specs.declared.fault.Cause.{Cause}
use Rattle.dbtg_script.specs.declared.fault.Cause.TheVariants as cause
use Rattle.dbtg_script.specs.declared.fault.Fault.{Fault}
use Rattle.dbtg_script.specs.Laws.{BeginScripts, HaveScripts}
use Rattle.dbtg_script.specs.Lines.{is_allowed, is_statement, lines, statement_lines, trimmed}
use Rattle.dbtg_script.specs.Printing.Echo.{line_beside, lines_beside}
use Rattle.dbtg_script.specs.StatementFaults.{count_after, line_faults, lines_faults, refusal, statement_faults, too_long, when}
use Rattle.dbtg_script.specs.Statements.{line_statement}
use Rattle.dbtg_script.proofs.Public.{line_read_fits, lines_say}
use Rattle.dbtg_trace.specs.Laws.{AreLinesOf, IsReadBack, IsSayable, PrintedHistoryIsReadBack}
use Rattle.dbtg_trace.specs.Parts.{is_unit}
use Rattle.dbtg_trace.specs.Printing.{trace_text}
use Rattle.dbtg_trace.proofs.ReadBack.Lines.{read_back}
use Rattle.dbtg_trace.proofs.ReadBack.Sayable.{sayable, units_there}

-- the line has no fault as the first line of a script
abbrev pub Clean : Lists → List ℕ → Type 0
Clean schema l = first (line_faults schema 0 l) ≡ None

pub none_in_front : {X : Type 0} (xs ys : List X) → first (xs ++ ys) ≡ None → first xs ≡ None
none_in_front [] ys h = refl
none_in_front (x ∷ xs) ys h = absurd cc

pub none_after : {X : Type 0} (xs ys : List X) → first (xs ++ ys) ≡ None → first ys ≡ None
none_after [] ys h = h
none_after (x ∷ xs) ys h = absurd cc

none_mapped : (number : ℕ) (cs : List Cause) → first {X = Fault} (map (λ c. record { line = number; cause = c }) cs) ≡ None → first cs ≡ None
none_mapped number [] h = refl
none_mapped number (c ∷ cs) h = absurd cc

-- if there is room for more statements, there is room for one
roomy : (one full room other : Bool) (xs : List Cause) → room ≡ false → first (when (one && full) cause.TooMuch ++ when other cause.LineNotAllowed ++ (if one then xs else [])) ≡ None
    → first (when (one && room) cause.TooMuch ++ when other cause.LineNotAllowed ++ (if one then xs else [])) ≡ None
roomy one full true other xs e h = absurd cc
roomy true true false other xs e h = absurd cc
roomy true false false other xs e h = h
roomy false full false other xs e h = h

at_first : (schema : Lists) (count : ℕ) (l : List ℕ) → first (line_faults schema count l) ≡ None → Clean schema l
at_first schema count l h =
    let room : nat_le MOST_STATEMENTS 0 ≡ false = grind (arith, nat_tests) in
    roomy (is_statement l) (nat_le MOST_STATEMENTS count) (nat_le MOST_STATEMENTS 0) (not (is_allowed l)) (statement_faults schema l) room h

each_where : {X : Type 0} (P : X → Type 0) (b : Bool) (x : X) (xs : List X) → P x → AllByRecursion P xs → AllByRecursion P (cond b (x ∷ xs) xs)
each_where P true x xs p all = (p, all)
each_where P false x xs p all = all

clean_lines : (schema : Lists) (count number : ℕ) (ls : List (List ℕ)) → first (lines_faults schema count number ls) ≡ None → AllByRecursion (Clean schema) (filter is_statement (map trimmed ls))
clean_lines schema count number [] h = tt
clean_lines schema count number (l ∷ ls) h =
    let here : List Fault = map (λ c. record { line = number; cause = c }) (line_faults schema count (trimmed l)) in
    let later = lines_faults schema (count_after count (trimmed l)) (number + 1) ls in
    each_where (Clean schema) (is_statement (trimmed l)) (trimmed l) (filter is_statement (map trimmed ls))
    (at_first schema count (trimmed l) (none_mapped number (line_faults schema count (trimmed l)) (none_in_front here later h)))
    (clean_lines schema (count_after count (trimmed l)) (number + 1) ls (none_after here later h))

-- the lines of accepted scripts have no fault either
pub clean_scripts : (schema : Lists) (texts : List (List ℕ)) → AllByRecursion (λ text. refusal schema text ≡ None) texts → AllByRecursion (AllByRecursion (Clean schema)) (map statement_lines texts)
clean_scripts schema [] h = tt
clean_scripts schema (text ∷ texts) h = (clean_lines schema 0 1 (lines text) (none_after (too_long text) (lines_faults schema 0 1 (lines text)) h.0), clean_scripts schema texts h.1)

-- what holds of all elements and of the default holds of the one at a place, or of the default
at_place : {X : Type 0} (P : X → Type 0) (xs : List X) (n : ℕ) (d : X) → AllByRecursion P xs → P d → P (unwrap_or (slice_get xs n) d)
at_place P [] n d all p = p
at_place P (x ∷ xs) zero d all p = all.0
at_place P (x ∷ xs) (suc n) d all p = at_place P xs n d all.1 p

-- if the line holds a statement, it has no fault
abbrev Beside : Lists → List ℕ → Type 0
Beside schema l = (s : Statement) → line_statement schema l ≡ Some s → Clean schema l

clean_beside : (schema : Lists) (ls : List (List ℕ)) → AllByRecursion (Clean schema) ls → AllByRecursion (Beside schema) ls
clean_beside schema [] all = tt
clean_beside schema (l ∷ ls) all = (λ s e. all.0, clean_beside schema ls all.1)

each_beside : (schema : Lists) (scripts : List (List (List ℕ))) → AllByRecursion (AllByRecursion (Clean schema)) scripts → AllByRecursion (AllByRecursion (Beside schema)) scripts
each_beside schema [] all = tt
each_beside schema (ls ∷ scripts) all = (clean_beside schema ls all.0, each_beside schema scripts all.1)

no_line : (schema : Lists) → Beside schema []
no_line schema s e = absurd cc

beside : (schema : Lists) (scripts : List (List (List ℕ))) (before : List Entry) (e : Entry) → AllByRecursion (AllByRecursion (Beside schema)) scripts → Beside schema (line_beside scripts before e)
beside schema scripts before e all = at_place (Beside schema) _ _ [] (at_place (AllByRecursion (Beside schema)) scripts _ [] all tt) (no_line schema)

first_same : {X : Type 0} (x y : X) (xs ys : List X) → x ∷ xs ≡ y ∷ ys → (x ≡ y) × (xs ≡ ys)
first_same x y xs ys h = (cc, cc)

of_unit : (units u : ℕ) → (nat_le 1 u && nat_le u units) ≡ true → is_unit units u ≡ true
of_unit units u h =
    let p = and_parts (nat_le 1 u) (nat_le u units) h in
    let some : nat_lt 0 u ≡ true = grind (arith, nat_tests, p) in
    and_from (nat_lt 0 u) (nat_le u units) some p.1

are_lines : (schema : Lists) (units : ℕ) (scripts : List (List (List ℕ))) (before es : List Entry) → AllByRecursion (AllByRecursion (Beside schema)) scripts
    → map (line_statement schema) (lines_beside scripts before es) ≡ map (λ e. Some e.statement) es → list_all (λ e. nat_le 1 e.unit && nat_le e.unit units) es ≡ true
    → AllByRecursion (λ e. IsSayable schema e.answer.key e.answer.items) es → AreLinesOf schema units (lines_beside scripts before es) es
are_lines schema units scripts before [] all says within answers = tt
are_lines schema units scripts before (e ∷ es) all says within answers =
    let p = and_parts (nat_le 1 e.unit && nat_le e.unit units) (list_all (λ f. nat_le 1 f.unit && nat_le f.unit units) es) within in
    let line = line_beside scripts before e in
    let rest = lines_beside scripts (before ++ e ∷ []) es in
    let same = first_same (line_statement schema line) (Some e.statement) (map (line_statement schema) rest) (map (λ f. Some f.statement) es) says in (
      record { unit = of_unit units e.unit p.0; accepted = beside schema scripts before e all e.statement same.0; says = same.0; answer = answers.0 },
      are_lines schema units scripts (before ++ e ∷ []) es all same.1 p.1 answers.1,
    )

-- THE HISTORY

-- a history in which each unit makes the beginning of a script whose lines have no fault
module _ (schema : Lists) (sound : IsSound schema) (capacity : ℕ) (texts : List (List ℕ)) (history : List Entry) (clean : AllByRecursion (AllByRecursion (Clean schema)) (map statement_lines texts))
    (begin : BeginScripts schema texts history) (answers : AnswersHold schema capacity (opening_state schema (length texts)) history) where
  have : HaveScripts texts history
  have = units_there schema capacity (length texts) history answers

  said : map (line_statement schema) (lines_beside (map statement_lines texts) [] history) ≡ map (λ e. Some e.statement) history
  said = lines_say schema texts history begin have

  fit_along : (before es : List Entry) → map (line_statement schema) (lines_beside (map statement_lines texts) before es) ≡ map (λ e. Some e.statement) es → list_all (λ e. fits schema e.statement) es ≡ true
  fit_along before [] says = refl
  fit_along before (e ∷ es) says =
      let line = line_beside (map statement_lines texts) before e in
      let rest = lines_beside (map statement_lines texts) (before ++ e ∷ []) es in
      let same = first_same (line_statement schema line) (Some e.statement) (map (line_statement schema) rest) (map (λ f. Some f.statement) es) says in
      let faultless = beside schema (map statement_lines texts) before e (each_beside schema (map statement_lines texts) clean) e.statement same.0 in
      and_from _ _ (line_read_fits schema sound 0 line (Ok (Some e.statement)) faultless (sym same.0)) (fit_along (before ++ e ∷ []) es same.1)

  -- its statements fit the schema
  pub statements_fit : list_all (λ e. fits schema e.statement) history ≡ true
  statements_fit = fit_along [] history said

  -- its trace is read back
  pub lines_read_back : IsNamed schema → capacity ≤ 999999 → length texts ≤ 255 → length history ≤ 524280 → length (trace_text schema texts history) ≤ 67108864 → IsReadBack schema texts history
  lines_read_back named small few room short =
      let lines_are = are_lines schema (length texts) (map statement_lines texts) [] history (each_beside schema (map statement_lines texts) clean) said have
      (sayable schema sound named capacity small (length texts) history statements_fit answers) in
      read_back schema sound named (length texts) few (lines_beside (map statement_lines texts) [] history) history lines_are room short

pub history_read_back : PrintedHistoryIsReadBack
history_read_back schema sound named capacity small texts few history of room short =
    lines_read_back schema sound capacity texts history (clean_scripts schema texts of.accepted) of.begin of.answers named small few room short
