-- The line of an entry is read back: its unit, its statement, its answer; and so are lines, one after another.
use Rattle.std.proofs.Common.{◌≡◌, ℕ, ◌+◌, ◌-◌, ◌^◌, ◌<◌, ◌≤◌, Bool, true, false, not, ◌&&◌, List, [], ◌∷◌, ◌++◌, drop, length, take, Option, Some, None, inl, inr, refl, sym, ap, subst, ◌∙◌, arith, append_assoc, true≢false}
use Rattle.std.specs.Prelude.{◌==◌, codes, decimal, if◌then◌else◌, nat_le, nat_lt, option_and_then, option_map}
use Rattle.std.specs.List.{list_all}
use Rattle.std.proofs.lemmas.Bool.{and_from, and_parts, eqb-true}
use Rattle.std.proofs.lemmas.Bool.Decides.{nat_tests}
use Rattle.std.proofs.lemmas.List.{length-append}
use Rattle.dbtg_schema.specs.Lists.{Lists}
use Rattle.dbtg_schema.specs.Lookups.{first}
use Rattle.dbtg_schema.specs.Named.{IsNamed}
use Rattle.dbtg_schema.specs.Sound.{IsSound}
use Rattle.dbtg_schema.specs.Texts.Spelling.{is_digit}
use Rattle.dbtg_unit.specs.Database.Statements.Codes.{status_code}
use Rattle.dbtg_unit.specs.declared.limits.TheConstants.{MOST_STATEMENTS}
use Rattle.dbtg_unit.specs.declared.statement.Statement.{Statement}
use Rattle.dbtg_unit.specs.declared.unit.Entry.{Entry}
use Rattle.dbtg_script.specs.declared.fault.Cause.TheVariants as cause
use Rattle.dbtg_script.specs.Lines.{ends_in_text, ends_with, is_allowed, is_printable, is_statement, lines, onto_line, trimmed, without_last}
use Rattle.dbtg_script.specs.Printing.Spelling.{behind, has_byte, in_front, is_number, number}
use Rattle.dbtg_script.specs.Printing.Texts.{answered_text}
use Rattle.dbtg_script.specs.StatementFaults as script
use Rattle.dbtg_script.specs.StatementGrammar.{statement}
use Rattle.dbtg_script.specs.Statements.{line_statement}
use Rattle.dbtg_script.specs.Tokens.{tokens}
use Rattle.dbtg_script.proofs.Public.{behind_of, front_of, number_decimal, there}
use Rattle.dbtg_trace.specs.declared.fault.TraceCause.TheVariants.{AsInScript}
use Rattle.dbtg_trace.specs.declared.traced.Said.{Said}
use Rattle.dbtg_trace.specs.declared.traced.Traced.{Traced}
use Rattle.dbtg_trace.specs.Answers.{answer_in}
use Rattle.dbtg_trace.specs.Faults.{when, whole_faults}
use Rattle.dbtg_trace.specs.Inside.Reading.{entry_verdict, line_verdict, lines_verdict, part_verdict}
use Rattle.dbtg_trace.specs.Laws.{AreLinesOf, IsLineOf, PrintedTraceIsReadBack, all_said, as_said}
use Rattle.dbtg_trace.specs.Parts.{arrow_at, halves, is_unit, sides, unit_named, without_space}
use Rattle.dbtg_trace.specs.Printing.{trace_line, trace_lines}
use Rattle.dbtg_trace.specs.Traces.{entries_of, entry_by, entry_of, line_entry}
use Rattle.dbtg_trace.proofs.EntrySteps.{all_said as entry_passes, of_line}
use Rattle.dbtg_trace.proofs.TraceSteps.{entry_decides, line_passes, no_lines, one_said, short_trace}
use Rattle.dbtg_trace.proofs.ReadBack.Spelled.{short_status}
use Rattle.dbtg_trace.proofs.ReadBack.Bytes.{arrow_behind, last_word}
use Rattle.dbtg_trace.proofs.ReadBack.Grammar.{clear, none_behind, none_front, words_clear}
use Rattle.dbtg_trace.proofs.ReadBack.Periods.{ends_at, last_of, no_period}
use Rattle.dbtg_trace.proofs.ReadBack.Said.{EndsWell, answer_back, answer_ends_well, answer_shows, digit_shows, last_passes, shows, well_behind}
use Rattle.dbtg_trace.proofs.ReadBack.Words.{all_append, all_digits, all_imply, behind_space}

-- LISTS OF BYTES

take_front : (xs ys : List ℕ) → take (length xs) (xs ++ ys) ≡ xs
take_front [] ys = refl
take_front (x ∷ xs) ys = ap (λ (zs : List ℕ). x ∷ zs) (take_front xs ys)

drop_front : (xs ys : List ℕ) → drop (length xs) (xs ++ ys) ≡ ys
drop_front [] ys = refl
drop_front (x ∷ xs) ys = drop_front xs ys

without_end : (xs : List ℕ) → without_last 32 (xs ++ 32 ∷ []) ≡ xs
without_end xs =
    let long = length-append xs (32 ∷ []) in
    let place : length (xs ++ 32 ∷ []) - 1 ≡ length xs = omega (arith, long) in
    ap (λ (b : Bool). if b then take (length (xs ++ 32 ∷ []) - 1) (xs ++ 32 ∷ []) else xs ++ 32 ∷ []) (ends_at xs 32 32) ∙ ap (λ (n : ℕ). take n (xs ++ 32 ∷ [])) place ∙ take_front xs (32 ∷ [])

pub trimmed_well : (xs : List ℕ) → EndsWell xs → trimmed xs ≡ xs
trimmed_well xs e =
    let no_return : ends_with 13 xs ≡ false = ap (ends_with 13) e.2 ∙ ends_at e.0 e.1 13 ∙ e.3 in
    let no_period : ends_with 46 xs ≡ false = ap (ends_with 46) e.2 ∙ ends_at e.0 e.1 46 ∙ e.4 in
    let one : without_last 13 xs ≡ xs = ap (λ (b : Bool). if b then take (length xs - 1) xs else xs) no_return in
    ap (without_last 46) one ∙ ap (λ (b : Bool). if b then take (length xs - 1) xs else xs) no_period

-- a printable line ends at the next line feed
cut : (xs ys : List ℕ) → list_all shows xs ≡ true → lines (xs ++ 10 ∷ ys) ≡ xs ∷ lines ys
unfolding lines
cut [] ys h = refl
cut (x ∷ xs) ys h =
    let p = and_parts (shows x) (list_all shows xs) h in
    let other : (x == 10) ≡ false = grind (arith, nat_tests, p) in
    ap (λ (b : Bool). if b then [] ∷ lines (xs ++ 10 ∷ ys) else onto_line x (lines (xs ++ 10 ∷ ys))) other ∙ ap (onto_line x) (cut xs ys p.1)

-- A LINE OF A SCRIPT WITHOUT A FAULT

-- what is known of such a line
pub record IsGood (schema : Lists) (st : List ℕ) : Type 0 where
  pub one : is_statement st ≡ true
  pub printable : list_all shows st ≡ true
  pub closed : ends_in_text false st ≡ false
  pub words : first (script.faults_from schema [] statement (tokens false st)) ≡ None
  pub well : EndsWell st

holds_one : (schema : Lists) (st : List ℕ) (s : Statement) → line_statement schema st ≡ Some s → is_statement st ≡ true
holds_one schema st s e = by _ (is_statement st) e
  where
    by : (x : Statement) (b : Bool) → (if b then Some x else None) ≡ Some s → b ≡ true
    by x true q = refl
    by x false q = absurd cc

pub not_so : {X : Type 0} (b : Bool) (x : X) → first (if not b then x ∷ [] else []) ≡ None → b ≡ true
not_so true x h = refl
not_so false x h = absurd cc

pub not_where : {X : Type 0} (b : Bool) (x : X) → first (if b then x ∷ [] else []) ≡ None → b ≡ false
not_where true x h = absurd cc
not_where false x h = refl

pub ends_well : (schema : Lists) → IsNamed schema → (st : List ℕ) → is_statement st ≡ true → list_all shows st ≡ true → ends_in_text false st ≡ false → first (script.faults_from schema [] statement (tokens false st)) ≡ None → EndsWell st
ends_well schema named st one printable closed words = elim (last_of st) [
  | inl e ↦ absurd (true≢false (sym one ∙ ap is_statement e))
  | inr e ↦ (e.0, e.1, e.2, no_return e.0 e.1 e.2 (e.1 == 13) refl, no_stop e.0 e.1 e.2 (e.1 == 46) refl)
]
  where
    no_return : (front : List ℕ) (c : ℕ) → st ≡ front ++ c ∷ [] → (b : Bool) → (c == 13) ≡ b → (c == 13) ≡ false
    no_return front c is false e = e
    no_return front c is true e =
        let shown = last_passes shows front c (ap (list_all shows) (sym is) ∙ printable) in
        absurd (true≢false (sym shown ∙ ap shows (eqb-true c 13 e)))

    no_stop : (front : List ℕ) (c : ℕ) → st ≡ front ++ c ∷ [] → (b : Bool) → (c == 46) ≡ b → (c == 46) ≡ false
    no_stop front c is false e = e
    no_stop front c is true e =
        let whole : st ≡ front ++ 46 ∷ [] = is ∙ ap (λ (x : ℕ). front ++ x ∷ []) (eqb-true c 46 e) in
        let last = last_word false front (ap (ends_in_text false) (sym whole) ∙ closed) in
        let said = ap (tokens false) whole ∙ last.2 in
        absurd (no_period schema named [] statement last.0 last.1 refl (subst (λ ts. first (script.faults_from schema [] statement ts) ≡ None) said words))

good : (schema : Lists) → IsNamed schema → (st : List ℕ) (s : Statement) → first (script.line_faults schema 0 st) ≡ None → line_statement schema st ≡ Some s → IsGood schema st
good schema named st s accepted says =
    let one = holds_one schema st s says in
    let room = script.when (is_statement st && nat_le MOST_STATEMENTS 0) cause.TooMuch in
    let bytes = script.when (not (is_allowed st)) cause.LineNotAllowed in
    let own = if is_statement st then script.statement_faults schema st else [] in
    let allowed = not_so (is_allowed st) cause.LineNotAllowed (none_behind room bytes (none_front (room ++ bytes) own accepted)) in
    let printable : list_all shows st ≡ true = (and_parts (is_printable st) (nat_le (length st) 1000) allowed).0 in
    let faultless : first (script.statement_faults schema st) ≡ None = ap (λ (b : Bool). first (if b then script.statement_faults schema st else [])) (sym one) ∙ none_behind (room ++ bytes) own accepted in
    let open_text = script.when (ends_in_text false st) cause.UnexpectedWord in
    let closed = not_where (ends_in_text false st) cause.UnexpectedWord (none_front open_text (script.faults_from schema [] statement (tokens false st)) faultless) in
    let words = none_behind open_text (script.faults_from schema [] statement (tokens false st)) faultless in
    record { one = one; printable = printable; closed = closed; words = words; well = ends_well schema named st one printable closed words }

-- THE LINE OF AN ENTRY

no_colon : (xs : List ℕ) → list_all is_digit xs ≡ true → has_byte 58 xs ≡ false
no_colon [] h = refl
no_colon (x ∷ xs) h =
    let p = and_parts (is_digit x) (list_all is_digit xs) h in
    let other : (x == 58) ≡ false = grind (arith, nat_tests, p) in
    rw other (no_colon xs p.1)

holds_statement : (xs ys : List ℕ) → nat_lt 0 (length xs) ≡ true → list_all is_digit xs ≡ true → is_statement (xs ++ ys) ≡ true
holds_statement [] ys some h = absurd cc
holds_statement (x ∷ xs) ys some h =
    let p = and_parts (is_digit x) (list_all is_digit xs) h in
    let star : (x == 42) ≡ false = grind (arith, nat_tests, p) in
    let space : (x == 32) ≡ false = grind (arith, nat_tests, p) in
    rw (star, space) refl

module _ (schema : Lists) (sound : IsSound schema) (named : IsNamed schema) (units : ℕ) (few : units ≤ 255) (st : List ℕ) (e : Entry) (is : IsLineOf schema units st e) where
  s : ℕ
  s = status_code e.statement e.answer.status

  abbrev answer : List ℕ
  answer = answered_text schema (status_code e.statement e.answer.status) e.answer.key e.answer.items

  abbrev digits_in : List ℕ
  digits_in = decimal e.unit

  -- the line without its end
  abbrev pub body : List ℕ
  body = digits_in ++ codes ": " ++ st ++ codes " => " ++ answer

  abbrev rest : List ℕ
  rest = 32 ∷ (st ++ 32 ∷ 61 ∷ 62 ∷ 32 ∷ answer)

  small : e.unit < 2 ^ 64
  small =
      let p = and_parts (nat_lt 0 e.unit) (nat_le e.unit units) is.unit in
      let below : e.unit ≤ units = grind (arith, nat_tests, p) in
      omega (arith, below, few)

  line : IsGood schema st
  line = good schema named st e.statement is.accepted is.says

  short : status_code e.statement e.answer.status < 10000
  short = short_status e.statement e.answer.status

  flat : body ≡ digits_in ++ 58 ∷ rest
  flat =
      append_assoc (digits_in ++ codes ": " ++ st) (codes " => ") answer
      ∙ append_assoc (digits_in ++ codes ": ") st (codes " => " ++ answer)
      ∙ append_assoc digits_in (codes ": ") (st ++ (codes " => " ++ answer))

  numbered : (nat_lt 0 (length digits_in) ≡ true) × (list_all is_digit digits_in ≡ true)
  numbered = and_parts (nat_lt 0 (length digits_in)) (list_all is_digit digits_in) (all_digits e.unit small)

  colon : has_byte 58 digits_in ≡ false
  colon = no_colon digits_in numbered.1

  unit_back : unit_named units body ≡ Some e.unit
  unit_back =
      let front : in_front 58 body ≡ digits_in = ap (in_front 58) flat ∙ front_of 58 digits_in rest colon in
      let has : has_byte 58 body ≡ true = ap (has_byte 58) flat ∙ there 58 digits_in rest colon in
      let spells : is_number (in_front 58 body) ≡ true = ap is_number front ∙ all_digits e.unit small in
      let value : number (in_front 58 body) ≡ e.unit = ap number front ∙ number_decimal e.unit small in
      let of_unit : is_unit units (number (in_front 58 body)) ≡ true = ap (is_unit units) value ∙ is.unit in
      ap (λ (b : Bool). if b then Some (number (in_front 58 body)) else None) (and_from _ _ (and_from _ _ has spells) of_unit) ∙ ap (λ (n : ℕ). Some n) value

  clear_words : clear false (tokens false (32 ∷ st)) ≡ true
  clear_words = ap (clear false) (behind_space st) ∙ words_clear schema [] statement (tokens false st) false refl (λ q. absurd (true≢false (sym q))) line.words

  parts : halves body ≡ Some (st, 32 ∷ answer)
  parts =
      let after : behind 58 body ≡ rest = ap (behind 58) flat ∙ behind_of 58 digits_in rest colon in
      let arrow : arrow_at false rest ≡ Some (length (32 ∷ st) + 1) = arrow_behind false (32 ∷ st) (32 ∷ answer) clear_words line.closed in
      let front = 32 ∷ (st ++ 32 ∷ []) in
      let split : rest ≡ front ++ 61 ∷ 62 ∷ 32 ∷ answer = ap (λ (xs : List ℕ). 32 ∷ xs) (sym (append_assoc st (32 ∷ []) (61 ∷ 62 ∷ 32 ∷ answer))) in
      let long = length-append st (32 ∷ []) in
      let at : length (32 ∷ st) + 1 ≡ length front = omega (arith, long) in
      let taken : take (length (32 ∷ st) + 1) rest ≡ front = (λ i. take (at i) (split i)) ∙ take_front front (61 ∷ 62 ∷ 32 ∷ answer) in
      let two = append_assoc front (61 ∷ 62 ∷ []) (32 ∷ answer) in
      let longer = length-append front (61 ∷ 62 ∷ []) in
      let past : length (32 ∷ st) + 1 + 2 ≡ length (front ++ 61 ∷ 62 ∷ []) = omega (arith, at, longer) in
      let whole : rest ≡ (front ++ 61 ∷ 62 ∷ []) ++ 32 ∷ answer = split ∙ sym two in
      let dropped : drop (length (32 ∷ st) + 1 + 2) rest ≡ 32 ∷ answer = (λ i. drop (past i) (whole i)) ∙ drop_front (front ++ 61 ∷ 62 ∷ []) (32 ∷ answer) in
      let statement_in : without_last 32 (without_space (take (length (32 ∷ st) + 1) rest)) ≡ st = ap (λ (xs : List ℕ). without_last 32 (without_space xs)) taken ∙ without_end st in
      ap sides after ∙ ap (option_map (λ n. (without_last 32 (without_space (take n rest)), drop (n + 2) rest))) arrow ∙ (λ i. Some (statement_in i, dropped i))

  trim : trimmed st ≡ st
  trim = trimmed_well st line.well

  said_back : answer_in schema (32 ∷ answer) ≡ Some (record { status = status_code e.statement e.answer.status; key = e.answer.key; items = e.answer.items })
  said_back = answer_back schema sound named (status_code e.statement e.answer.status) e.answer.key e.answer.items short is.answer

  statement_back : line_statement schema (trimmed st) ≡ Some e.statement
  statement_back = ap (line_statement schema) trim ∙ is.says

  entry_back : (n : ℕ) → entry_of schema units n body ≡ Some (as_said n e)
  entry_back n =
      ap (option_and_then (λ u. option_and_then (entry_by schema n u) (halves body))) unit_back ∙ ap (option_and_then (entry_by schema n e.unit)) parts
      ∙ ap (option_and_then (λ x. option_map {U = Traced} (λ said. record { line = n; unit = e.unit; statement = x; said = said }) (answer_in schema (32 ∷ answer)))) statement_back
      ∙ ap (option_map {U = Traced} (λ said. record { line = n; unit = e.unit; statement = e.statement; said = said })) said_back

  part_passes : part_verdict schema st ≡ None
  part_passes = of_line schema st (ap is_statement trim ∙ line.one) ∙ ap (option_map AsInScript) (ap (λ (l : List ℕ). first (script.line_faults schema 0 l)) trim ∙ is.accepted)

  verdict_of_entry : entry_verdict schema units body ≡ None
  verdict_of_entry = entry_passes schema units e.unit body (st, 32 ∷ answer) (record { status = status_code e.statement e.answer.status; key = e.answer.key; items = e.answer.items }) (unit_back, parts) part_passes said_back

  pub one : is_statement body ≡ true
  one = ap is_statement flat ∙ holds_statement digits_in (58 ∷ rest) numbered.0 numbered.1

  pub printable : list_all shows body ≡ true
  printable =
      all_append shows (digits_in ++ codes ": " ++ st ++ codes " => ") answer
      (all_append shows (digits_in ++ codes ": " ++ st) (codes " => ") (all_append shows (digits_in ++ codes ": ") st (all_append shows digits_in (codes ": ") (all_imply is_digit shows digit_shows digits_in numbered.1) refl) line.printable) refl)
      (answer_shows schema sound named (status_code e.statement e.answer.status) e.answer.key e.answer.items short is.answer)

  pub trim_body : trimmed body ≡ body
  trim_body = trimmed_well body (well_behind (digits_in ++ codes ": " ++ st ++ codes " => ") answer (answer_ends_well schema sound named (status_code e.statement e.answer.status) e.answer.key e.answer.items short is.answer))

  pub passes : (count : ℕ) → count < 524280 → line_verdict schema units count body ≡ None
  passes count room =
      let below : nat_le 524280 count ≡ false = grind (arith, nat_tests, room) in
      let whole : first (whole_faults count body) ≡ None = (λ i. first (if one i then when (below i) (AsInScript cause.TooMuch) ++ when (not (printable i)) (AsInScript cause.LineNotAllowed) else when (not (is_allowed body)) (AsInScript cause.LineNotAllowed))) in
      entry_decides schema units count body whole one ∙ verdict_of_entry

  pub says_entry : (n : ℕ) → line_entry schema units n body ≡ as_said n e ∷ []
  says_entry n = one_said schema units n body (as_said n e) one (entry_back n)

-- LINES, ONE AFTER ANOTHER

lines_back : (schema : Lists) → IsSound schema → IsNamed schema → (units : ℕ) → units ≤ 255 → (ls : List (List ℕ)) (es : List Entry) (count n : ℕ) → AreLinesOf schema units ls es → count + length es ≤ 524280
    → (lines_verdict schema units count n (lines (trace_lines schema ls es)) ≡ None) × (entries_of schema units n (lines (trace_lines schema ls es)) ≡ all_said n es)
unfolding lines
lines_back schema sound named units few [] [] count n are room = (no_lines schema units count n [] refl, refl)
lines_back schema sound named units few [] (e ∷ es) count n are room = absurd are
lines_back schema sound named units few (l ∷ ls) [] count n are room = absurd are
lines_back schema sound named units few (l ∷ ls) (e ∷ es) count n are room =
    let here = body schema sound named units few l e are.0 in
    let more = trace_lines schema ls es in
    let rest = lines_back schema sound named units few ls es (count + 1) (n + 1) are.1 (omega (arith, room)) in
    let cut_off : lines (trace_line schema l e ++ more) ≡ here ∷ lines more = ap lines (append_assoc here (10 ∷ []) more) ∙ cut here more (printable schema sound named units few l e are.0) in
    let trim = trim_body schema sound named units few l e are.0 in
    let pass : line_verdict schema units count (trimmed here) ≡ None = ap (line_verdict schema units count) trim ∙ passes schema sound named units few l e are.0 count (omega (arith, room)) in
    let counted : script.count_after count (trimmed here) ≡ count + 1 = ap (script.count_after count) trim ∙ ap (λ (b : Bool). if b then count + 1 else count) (one schema sound named units few l e are.0) in (
      ap (lines_verdict schema units count n) cut_off ∙ line_passes schema units count n here (lines more) pass ∙ ap (λ (k : ℕ). lines_verdict schema units k (n + 1) (lines more)) counted ∙ rest.0,
      ap (entries_of schema units n) cut_off ∙ ap (λ (x : List ℕ). line_entry schema units n x ++ entries_of schema units (n + 1) (lines more)) trim
          ∙ (λ i. says_entry schema sound named units few l e are.0 n i ++ rest.1 i),
    )

pub read_back : PrintedTraceIsReadBack
read_back schema sound named units few ls es are room short =
    let all : 0 + length es ≤ 524280 = omega (arith, room) in
    let back = lines_back schema sound named units few ls es 0 1 are all in
    (short_trace schema units (trace_lines schema ls es) short ∙ back.0, back.1)
