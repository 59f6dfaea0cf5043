-- A line and a script that the grammar derives have no fault of the grammar; a line without faults has a derivation.
use Rattle.std.proofs.Common.{◌≡◌, ℕ, ◌+◌, Bool, true, false, cond, not, ◌&&◌, ◌||◌, List, [], ◌∷◌, ◌++◌, map, Option, Some, None, refl, sym, ap, subst, ◌∙◌}
use Rattle.std.specs.Prelude.{◌==◌, is_none, length, nat_le, nat_lt}
use Rattle.std.specs.List.{list_any, AllByRecursion}
use Rattle.std.proofs.lemmas.List.Folds.{list_any-append}
use Rattle.dbtg_schema.specs.Lists.{Lists}
use Rattle.dbtg_schema.specs.Lookups.{first}
use Rattle.dbtg_schema.specs.Texts.Forms.{starts, labelled, start_with, by_start, labels, Derives}
use Rattle.dbtg_schema.specs.Texts.Spelling.{among}
use Rattle.dbtg_schema.specs.declared.shape.Picture.{Picture}
use Rattle.dbtg_schema.proofs.Public.{may_stop, ranked, words_of}
use Rattle.dbtg_script.specs.declared.limits.TheConstants.{SCRIPT_BYTES}
use Rattle.dbtg_script.specs.declared.role.Role.{Role}
use Rattle.dbtg_script.specs.declared.role.Role.TheVariants as role
use Rattle.dbtg_script.specs.declared.fault.Cause.{Cause}
use Rattle.dbtg_script.specs.declared.fault.Cause.TheVariants as cause
use Rattle.dbtg_script.specs.declared.fault.Fault.{Fault}
use Rattle.dbtg_script.specs.Derivations.{Derivation, TakesKeywords}
use Rattle.dbtg_script.specs.Labels.{first_word, named, text_of, texts}
use Rattle.dbtg_script.specs.Laws.{DerivedLineIsRead, DerivedScriptHasNoFaultOfGrammar, LineWithoutFaultsIsDerived, is_of_grammar}
use Rattle.dbtg_script.specs.Lines.{ends_in_text, is_allowed, is_statement, lines, trimmed}
use Rattle.dbtg_script.specs.Lookups.{area_named, item_named, item_picture, set_named, sort_picture, type_named}
use Rattle.dbtg_script.specs.Printing.Spelling.{number, key_name, key_number, generation}
use Rattle.dbtg_script.specs.StatementGrammar.{Form, Labelled, fits, statement}
use Rattle.dbtg_script.specs.Inside.StatementGrammar.{Start}
use Rattle.dbtg_script.specs.StatementFaults.{at_other, count_after, end_faults, faults_from, is_misused, is_outside, item_faults, key_faults, line_faults, lines_faults, said, set_in, sorted_faults, statement_faults, too_long, type_in, value_faults, when, without_minus}
use Rattle.dbtg_script.specs.Statements.{statement_of}
use Rattle.dbtg_script.specs.Tokens.{Token, tokens}
use Rattle.dbtg_script.specs.Values.{is_of_kind, spelled, up_to}
use Rattle.dbtg_script.proofs.Reading.Accepted.{derived_line, none_rest}
use Rattle.dbtg_script.proofs.Reading.Derived.{KeywordsFirst, found_for, read_so, takes_keywords}
use Rattle.dbtg_script.proofs.Reading.Kinds.{before, statement_is_named, statement_is_told}
use Rattle.dbtg_unit.specs.declared.limits.TheConstants.{MOST_STATEMENTS}

-- none of the causes is of the grammar
abbrev Clean : List Cause → Type 0
Clean cs = list_any is_of_grammar cs ≡ false

clean_both : (xs ys : List Cause) → Clean xs → Clean ys → Clean (xs ++ ys)
clean_both xs ys h k = list_any-append is_of_grammar xs ys ∙ (λ i. h i || k i)

clean_when : (b : Bool) (c : Cause) → is_of_grammar c ≡ false → Clean (when b c)
clean_when true c h = rw h refl
clean_when false c h = refl

-- AT A WORD

clean_value : (p : Option Picture) (t : Token) → Clean (value_faults p t)
clean_value None t = refl
clean_value (Some p) t =
    clean_both (when (not (is_of_kind p t)) cause.OtherKind) (when (is_none (spelled p t)) cause.TooGreat) (clean_when (not (is_of_kind p t)) cause.OtherKind refl) (clean_when (is_none (spelled p t)) cause.TooGreat refl)

clean_item : (schema : Lists) (ws : List Labelled) (item : List ℕ) → Clean (item_faults schema ws item)
clean_item schema ws item =
    let unknown = is_none (item_named schema (type_in schema ws) item) in
    let twice = among item (texts role.ItemName ws) in
    clean_both (when unknown cause.UnknownItem) (when twice cause.ItemTwice) (clean_when unknown cause.UnknownItem refl) (clean_when twice cause.ItemTwice refl)

clean_key : (schema : Lists) (t : List ℕ) → Clean (key_faults schema t)
clean_key schema t =
    let unknown = is_none (type_named schema (key_name t)) in
    let beyond = up_to 999999 (number (key_number t)) == 0 in
    let later = up_to 255 (generation t) == 0 in
    clean_both (when unknown cause.UnknownRecordType ++ when beyond cause.OutOfRange) (when later cause.OutOfRange)
    (clean_both (when unknown cause.UnknownRecordType) (when beyond cause.OutOfRange) (clean_when unknown cause.UnknownRecordType refl) (clean_when beyond cause.OutOfRange refl)) (clean_when later cause.OutOfRange refl)

clean_said : (schema : Lists) (ws : List Labelled) (t : Token) (r : Role) → Clean (said schema ws t r)
clean_said schema ws t role.AreaName = clean_when (is_none (area_named schema (text_of t))) cause.UnknownArea refl
clean_said schema ws t role.TypeName = clean_when (is_none (type_named schema (text_of t))) cause.UnknownRecordType refl
clean_said schema ws t role.SetName = clean_when (is_none (set_named schema (text_of t))) cause.UnknownSet refl
clean_said schema ws t role.SuppressSet = clean_when (is_none (set_named schema (text_of t))) cause.UnknownSet refl
clean_said schema ws t role.KindArea = clean_when (is_none (area_named schema (named role.Name ws))) cause.UnknownArea refl
clean_said schema ws t role.KindRecord = clean_when (is_none (type_named schema (named role.Name ws))) cause.UnknownRecordType refl
clean_said schema ws t role.KindSet = clean_when (is_none (set_named schema (named role.Name ws))) cause.UnknownSet refl
clean_said schema ws t role.RecordWord = clean_when (is_none (type_named schema (named role.RecordName ws))) cause.UnknownRecordType refl
clean_said schema ws t role.ItemName = clean_item schema ws (text_of t)
clean_said schema ws t role.Value = clean_value (item_picture schema (type_in schema ws) (named role.ItemName ws)) t
clean_said schema ws t role.Key = clean_key schema (text_of t)
clean_said schema ws t role.WhichNumber = clean_when (up_to 999999 (number (without_minus (text_of t))) == 0) cause.OutOfRange refl
clean_said schema ws t _ = refl

-- AT THE END

clean_sorted : (p : Option Picture) (o : Option Token) → Clean (sorted_faults p o)
clean_sorted p None = refl
clean_sorted p (Some t) = clean_value p t

clean_end : (schema : Lists) (ws : List Labelled) → Clean (end_faults schema ws)
clean_end schema ws =
    let outside = when (is_outside schema ws) cause.NotThere in
    let misused = when (is_misused schema ws) cause.NotThisWay in
    let sorted = sorted_faults (sort_picture schema (set_in schema ws)) (first_word role.SortedValue ws) in
    clean_both (outside ++ misused) sorted (clean_both outside misused (clean_when (is_outside schema ws) cause.NotThere refl) (clean_when (is_misused schema ws) cause.NotThisWay refl))
    (clean_sorted (sort_picture schema (set_in schema ws)) (first_word role.SortedValue ws))

-- A LINE

clean : (left : List Labelled) (schema : Lists) (ws : List Labelled) (f : Form) → KeywordsFirst f → Derives fits f left → TakesKeywords f left → Clean (faults_from schema ws f (words_of left))
clean [] schema ws f t d k = rw (may_stop fits f d) (clean_end schema ws)
clean (l ∷ left) schema ws f t d k =
    let x = found_for f l left t d k in
    rw x.found (
    clean_both (said schema ws l.word x.start.role) (faults_from schema (ws ++ labelled x.start.role l.word ∷ []) x.start.rest (words_of left)) (clean_said schema ws l.word x.start.role)
    (clean left schema (ws ++ labelled x.start.role l.word ∷ []) x.start.rest x.first x.derives x.keywords)
    )

pub statement_first : KeywordsFirst statement
statement_first = (ranked before statement statement_is_told, statement_is_named)

clean_closed : (b : Bool) → b ≡ false → Clean (when b cause.UnexpectedWord)
clean_closed true h = absurd cc
clean_closed false h = refl

clean_line : (schema : Lists) (line : List ℕ) → Derivation line → Clean (statement_faults schema line)
clean_line schema line d =
    clean_both (when (ends_in_text false line) cause.UnexpectedWord) (faults_from schema [] statement (tokens false line)) (clean_closed (ends_in_text false line) d.closed)
    (subst (λ (z : List Token). Clean (faults_from schema [] statement z)) d.are_words (clean d.words schema [] statement statement_first d.derives d.keywords))

roles_of : (line : List ℕ) (d : Derivation line) → labels fits statement (tokens false line) ≡ d.words
roles_of line d = ap (labels fits statement) (sym d.are_words) ∙ read_so d.words statement statement_first d.derives d.keywords

pub derived_read : DerivedLineIsRead
derived_read schema line d = (clean_line schema line d, λ h. rw h (ap (λ (z : List Labelled). Some (statement_of schema z)) (roles_of line d)), λ e. sym (roles_of line e) ∙ roles_of line d)

-- A SCRIPT

abbrev CleanLines : List Fault → Type 0
CleanLines fs = list_any (λ f. is_of_grammar f.cause) fs ≡ false

abbrev with_line : ℕ → Cause → Fault
with_line n c = record { line = n; cause = c }

numbered : (n : ℕ) (cs : List Cause) → list_any (λ (f : Fault). is_of_grammar f.cause) (map (with_line n) cs) ≡ list_any is_of_grammar cs
numbered n [] = refl
numbered n (c ∷ cs) = ap (λ (b : Bool). is_of_grammar c || b) (numbered n cs)

clean_where : (schema : Lists) (line : List ℕ) (b : Bool) → is_statement line ≡ b → (is_statement line ≡ true → Derivation line) → Clean (cond b (statement_faults schema line) [])
clean_where schema line true e d = clean_line schema line (d e)
clean_where schema line false e d = refl

clean_whole : (schema : Lists) (count : ℕ) (line : List ℕ) → (is_statement line ≡ true → Derivation line) → Clean (line_faults schema count line)
clean_whole schema count line d =
    let many = is_statement line && nat_le MOST_STATEMENTS count in
    let bad = not (is_allowed line) in
    let rest = cond (is_statement line) (statement_faults schema line) [] in
    clean_both (when many cause.TooMuch ++ when bad cause.LineNotAllowed) rest
    (clean_both (when many cause.TooMuch) (when bad cause.LineNotAllowed) (clean_when many cause.TooMuch refl) (clean_when bad cause.LineNotAllowed refl)) (clean_where schema line (is_statement line) refl d)

clean_lines : (ls : List (List ℕ)) (schema : Lists) (count n : ℕ) → AllByRecursion (λ l. is_statement (trimmed l) ≡ true → Derivation (trimmed l)) ls → CleanLines (lines_faults schema count n ls)
clean_lines [] schema count n all = refl
clean_lines (l ∷ ls) schema count n all =
    list_any-append (λ (f : Fault). is_of_grammar f.cause) (map (with_line n) (line_faults schema count (trimmed l))) (lines_faults schema (count_after count (trimmed l)) (n + 1) ls)
    ∙ (λ i. (numbered n (line_faults schema count (trimmed l)) ∙ clean_whole schema count (trimmed l) all.0) i || clean_lines ls schema (count_after count (trimmed l)) (n + 1) all.1 i)

clean_long : (b : Bool) → CleanLines (cond b (record { line = 1; cause = cause.TooMuch } ∷ []) [])
clean_long true = refl
clean_long false = refl

pub clean_script : DerivedScriptHasNoFaultOfGrammar
clean_script schema text all =
    list_any-append (λ (f : Fault). is_of_grammar f.cause) (too_long text) (lines_faults schema 0 1 (lines text)) ∙ (λ i. clean_long (nat_lt SCRIPT_BYTES (length text)) i || clean_lines (lines text) schema 0 1 all i)

-- A LINE WITHOUT FAULTS

behind_start : (t : Token) (left : List Token) (schema : Lists) (ws : List Labelled) (o : Option Start)
    → ((s : Start) → first (faults_from schema (ws ++ labelled s.role t ∷ []) s.rest left) ≡ None → words_of (labels fits s.rest left) ≡ left)
    → first (by_start o (λ s. said schema ws t s.role ++ faults_from schema (ws ++ labelled s.role t ∷ []) s.rest left) (at_other ws ∷ [])) ≡ None
    → words_of (by_start o (λ s. labelled s.role t ∷ labels fits s.rest left) []) ≡ t ∷ left
behind_start t left schema ws None rest h = absurd cc
behind_start t left schema ws (Some s) rest h = ap (λ (z : List Token). t ∷ z) (rest s (none_rest (said schema ws t s.role) (faults_from schema (ws ++ labelled s.role t ∷ []) s.rest left) h))

each_word : (left : List Token) (schema : Lists) (ws : List Labelled) (f : Form) → first (faults_from schema ws f left) ≡ None → words_of (labels fits f left) ≡ left
each_word [] schema ws f h = refl
each_word (t ∷ left) schema ws f h = behind_start t left schema ws (start_with fits t (starts f)) (λ s. each_word left schema (ws ++ labelled s.role t ∷ []) s.rest) h

closed_line : (b : Bool) (cs : List Cause) → first (when b cause.UnexpectedWord ++ cs) ≡ None → b ≡ false
closed_line true cs h = absurd cc
closed_line false cs h = refl

pub line_derived : LineWithoutFaultsIsDerived
line_derived schema line h =
    let left = faults_from schema [] statement (tokens false line) in
    let none = none_rest (when (ends_in_text false line) cause.UnexpectedWord) left h in (
      record {
        closed = closed_line (ends_in_text false line) left h;
        words = labels fits statement (tokens false line);
        are_words = each_word (tokens false line) schema [] statement none;
        derives = derived_line schema line h;
        keywords = takes_keywords (tokens false line) statement statement_first;
      },
      refl,
    )
