-- The words of a statement in two states differ only in values.
use Rattle.std.proofs.Common.{◌≡◌, ℕ, zero, suc, ◌+◌, ◌%◌, ◌<◌, ◌^◌, Bool, true, false, cond, ◌&&◌, List, [], ◌∷◌, ◌++◌, length, map, Some, None, refl, sym, ap, subst, ◌∙◌, inl, inr, arith}
use Rattle.std.specs.Prelude.{Option, codes, decimal, nat_lt, option_map, slice_get, unwrap_or}
use Rattle.std.specs.List.{flat_map, list_all, list_any}
use Rattle.std.proofs.lemmas.Bool.{and_parts}
use Rattle.std.proofs.lemmas.Bool.Decides.{nat_tests}
use Rattle.std.proofs.lemmas.Fmt.{decimal_by_steps, decimal_nonempty}
use Rattle.std.proofs.lemmas.List.Folds.{list_all-append}
use Rattle.std.proofs.lemmas.Slice.Eq.{bytes_eq-Decides}
use Rattle.dbtg_schema.proofs.Public.{both_nil, none_at_all}
use Rattle.dbtg_schema.specs.Lists.{Lists}
use Rattle.dbtg_schema.specs.Texts.Forms.{labelled, labels, left_behind}
use Rattle.dbtg_schema.specs.Texts.Spelling.{is_digit}
use Rattle.dbtg_schema.specs.declared.shape.Item.{Item}
use Rattle.dbtg_schema.specs.declared.shape.Picture.{Picture}
use Rattle.dbtg_schema.specs.declared.shape.Picture.TheVariants.{Number, Text as TextPicture}
use Rattle.dbtg_cells.specs.declared.key.Value.{Value}
use Rattle.dbtg_cells.specs.declared.key.Value.TheVariants.{Num, Text}
use Rattle.dbtg_script.specs.declared.role.Role.TheVariants as role
use Rattle.dbtg_script.specs.Lines.{is_statement, lines, trimmed}
use Rattle.dbtg_script.specs.Printing.Spelling.{is_number}
use Rattle.dbtg_script.specs.StatementFaults.{faults_from}
use Rattle.dbtg_script.specs.StatementGrammar.{fits, statement, value}
use Rattle.dbtg_script.specs.Statements.{statement_of}
use Rattle.dbtg_script.specs.Tokens.{Token, plain, equals, literal}
use Rattle.dbtg_program.specs.declared.fault.ProgramCause.TheVariants.{AsInScript}
use Rattle.dbtg_program.specs.declared.grammar.Keyword.{Keyword}
use Rattle.dbtg_program.specs.declared.grammar.Keyword.TheVariants as keyword
use Rattle.dbtg_program.specs.declared.program.Line.{Line}
use Rattle.dbtg_program.specs.declared.program.Sentence.TheVariants.{Filled, Statement}
use Rattle.dbtg_program.specs.declared.program.Word.{Word}
use Rattle.dbtg_program.specs.declared.program.Word.TheVariants as word
use Rattle.dbtg_program.specs.Faults.{behind_line, faults, faults_of, line_faults, lines_faults, sentence_faults, too_long, unknown_word, whole_faults, words_at_first}
use Rattle.dbtg_program.specs.Going.{literal_of, said_word}
use Rattle.dbtg_program.specs.Laws.{OnlyAValueDoesNotFit, are_held, says_too_great}
use Rattle.dbtg_program.specs.Reading.{line_of, sentence_with}
use Rattle.dbtg_program.specs.Sentences.{Holding, Text as ProgramText, as_it_is, cut, cut_lines, field_named, fields_in, is_equals, is_field_word, is_spelled, marked, marked_from, sentences_of, text_in, verb_of, word_of, words_in}
use Rattle.dbtg_program.specs.States.{ProgramState, beginning_with}
use Rattle.dbtg_program.specs.Values.{can_hold, empty_value}
use Rattle.dbtg_program.proofs.Alike.{AreAlike, AreSame, read_alike}
use Rattle.dbtg_program.proofs.Bare.{shape}

-- VALUES

digits_only : (n : ℕ) → n < 2 ^ 64 → list_all is_digit (decimal n) ≡ true
digits_only =
    decimal_by_steps (λ n ds. list_all is_digit ds ≡ true) (λ n h. one_digit n h)
    (λ n ds h g. list_all-append is_digit ds ((48 + n % 10) ∷ []) ∙ (λ i. g i && one_digit (n % 10) (omega arith) i))
  where
    one_digit : (n : ℕ) → n < 10 → list_all is_digit ((48 + n) ∷ []) ≡ true
    one_digit n h = grind (arith, nat_tests)

is_number_decimal : (n : ℕ) → n < 2 ^ 64 → is_number (decimal n) ≡ true
is_number_decimal n h =
    let some : nat_lt 0 (length (decimal n)) ≡ true = let k = decimal_nonempty n h in grind (arith, nat_tests) in
    (λ i. some i && digits_only n h i)

-- a value, and the empty one in its place, are values of the same kind
abbrev AreValues : Value → Value → Type 0
AreValues u v = (fits value (literal_of u) ≡ true) × (fits value (literal_of v) ≡ true) × (shape (literal_of u) ≡ shape (literal_of v))

zero_number : is_number (decimal 0) ≡ true
zero_number = is_number_decimal 0 (omega arith)

one_held : (p : Picture) (v : Value) → can_hold p v ≡ true → AreValues (empty_value p) v
one_held (Number n) (Num k) h =
    let small = (and_parts (nat_lt k (10 ^ 18)) (nat_lt k (10 ^ n)) h).0 in
    (zero_number, is_number_decimal k (grind (arith, nat_tests)), refl)
one_held (Number n) (Text t) h = absurd cc
one_held (TextPicture n) (Num k) h = absurd cc
one_held (TextPicture n) (Text t) h = (refl, refl, refl)

each_held : (fields : List Item) (values : List Value) (f : ℕ) → are_held fields values ≡ true
    → AreValues (unwrap_or (slice_get (map (λ (x : Item). empty_value x.picture) fields) f) (Num 0)) (unwrap_or (slice_get values f) (Num 0))
each_held [] [] zero h = (zero_number, zero_number, refl)
each_held [] [] (suc f) h = (zero_number, zero_number, refl)
each_held [] (v ∷ vs) f h = absurd cc
each_held (x ∷ xs) [] f h = absurd cc
each_held (x ∷ xs) (v ∷ vs) zero h = one_held x.picture v (and_parts (can_hold x.picture v) (are_held xs vs) h).0
each_held (x ∷ xs) (v ∷ vs) (suc f) h = each_held xs vs f (and_parts (can_hold x.picture v) (are_held xs vs) h).1

-- WORDS

said_as_is : (state : ProgramState) (t : Token) → said_word state (as_it_is t) ≡ t
said_as_is state (plain t) = refl
said_as_is state equals = refl
said_as_is state (literal t) = refl

no_sign : (t : Token) → is_field_word t ≡ true → is_equals t ≡ false
no_sign (plain t) h = refl
no_sign equals h = absurd cc
no_sign (literal t) h = refl

value_no_sign : (v : Value) → is_equals (literal_of v) ≡ false
value_no_sign (Num n) = refl
value_no_sign (Text t) = refl

module _ (fields : List Item) (state : ProgramState) (held : are_held fields state.values ≡ true) where
  -- a word as it was judged, and as it is said in the state
  abbrev judged : Token × Bool → Token
  judged m = said_word (beginning_with fields) (word_of fields m)

  abbrev now : Token × Bool → Token
  now m = said_word state (word_of fields m)

  by_field : (here : Bool) (t : Token) (f : Option ℕ) → here ≡ true → is_equals t ≡ false
      → AreSame here (said_word (beginning_with fields) (unwrap_or (option_map word.Field f) (as_it_is t))) (said_word state (unwrap_or (option_map word.Field f) (as_it_is t)))
      × (is_equals (said_word (beginning_with fields) (unwrap_or (option_map word.Field f) (as_it_is t))) ≡ is_equals t)
  by_field here t None h sign = (inl (said_as_is (beginning_with fields) t ∙ sym (said_as_is state t)), ap is_equals (said_as_is (beginning_with fields) t))
  by_field here t (Some f) h sign =
      let q = each_held fields state.values f held in
      (inr (h, q.0, q.1, q.2), value_no_sign (unwrap_or (slice_get (map (λ (x : Item). empty_value x.picture) fields) f) (Num 0)) ∙ sym sign)

  by_mark : (here : Bool) (t : Token) (b : Bool) → here && is_field_word t ≡ b → AreSame here (judged (t, b)) (now (t, b)) × (is_equals (judged (t, b)) ≡ is_equals t)
  by_mark here t false e = (inl (said_as_is (beginning_with fields) t ∙ sym (said_as_is state t)), ap is_equals (said_as_is (beginning_with fields) t))
  by_mark here t true e = let p = and_parts here (is_field_word t) e in by_field here t (field_named fields (text_in t)) p.0 (no_sign t p.1)

  marks_alike : (here : Bool) (ts : List Token) → AreAlike here (map judged (marked_from here ts)) (map now (marked_from here ts))
  marks_alike here [] = tt
  marks_alike here (t ∷ ts) =
      let p = by_mark here t (here && is_field_word t) refl in
      (p.0, subst (λ b. AreAlike b (map judged (marked_from (is_equals t) ts)) (map now (marked_from (is_equals t) ts))) (sym p.1) (marks_alike (is_equals t) ts))

-- A STATEMENT

spelled_is : (k : List ℕ) (t : Token) → is_spelled k t ≡ true → plain k ≡ t
spelled_is k (plain t) h = ap plain (sym ((bytes_eq-Decides t k).0 h))
spelled_is k equals h = absurd cc
spelled_is k (literal t) h = absurd cc

module _ (schema : Lists) (fields : List Item) (state : ProgramState) (held : are_held fields state.values ≡ true) where
  abbrev judged_of : List (Token × Bool) → List Token
  judged_of ms = map (λ m. said_word (beginning_with fields) (word_of fields m)) ms

  abbrev now_of : List (Token × Bool) → List Token
  now_of ms = map (λ m. said_word state (word_of fields m)) ms

  abbrev Passes : List (Token × Bool) → Type 0
  Passes ms = faults_from schema [] statement (judged_of ms) ≡ [] → list_all says_too_great (faults_from schema [] statement (now_of ms)) ≡ true

  plainly : (ts : List Token) → Passes (marked_from false ts)
  plainly ts none = read_alike schema false (judged_of (marked_from false ts)) (now_of (marked_from false ts)) (marks_alike fields state held false ts) [] [] statement refl refl (λ h. absurd cc) none

  sorted : (ts : List Token) → Passes ((plain (codes "FIND"), false) ∷ (plain (codes "SORTED"), false) ∷ marked_from true ts)
  sorted ts none =
      let both = labelled role.Find (plain (codes "FIND")) ∷ labelled role.FindSorted (plain (codes "SORTED")) ∷ [] in
      read_alike schema true (judged_of (marked_from true ts)) (now_of (marked_from true ts)) (marks_alike fields state held true ts) both both
      (left_behind fits statement (plain (codes "FIND") ∷ plain (codes "SORTED") ∷ [])) refl refl (λ h. refl) none

  by_words : (ts : List Token) → Passes (marked ts)
  by_words [] = plainly []
  by_words (v ∷ []) = plainly (v ∷ [])
  by_words (v ∷ w ∷ ts) = by_sorted (is_spelled (codes "FIND") v && is_spelled (codes "SORTED") w) refl
    where
      by_sorted : (b : Bool) → is_spelled (codes "FIND") v && is_spelled (codes "SORTED") w ≡ b → Passes (cond b ((v, false) ∷ (w, false) ∷ marked_from true ts) (marked_from false (v ∷ w ∷ ts)))
      by_sorted true e =
          let p = and_parts (is_spelled (codes "FIND") v) (is_spelled (codes "SORTED") w) e in
          subst (λ (x : Token). Passes ((x, false) ∷ (w, false) ∷ marked_from true ts)) (spelled_is (codes "FIND") v p.0)
          (subst (λ (y : Token). Passes ((plain (codes "FIND"), false) ∷ (y, false) ∷ marked_from true ts)) (spelled_is (codes "SORTED") w p.1) (sorted ts))
      by_sorted false e = plainly (v ∷ w ∷ ts)

-- THE SENTENCES OF A TEXT

map_nil : {X Y : Type 0} (f : X → Y) (xs : List X) → map f xs ≡ [] → xs ≡ []
map_nil f [] h = refl
map_nil f (x ∷ xs) h = absurd cc

-- a sentence of a text without a fault has none itself
abbrev IsFaultless : ProgramText → Holding → Type 0
IsFaultless text h = (at : ℕ) × (sentence_faults text at h ≡ [])

by_kind : (text : ProgramText) (b : Bool) (at : ℕ) (x h : Holding) (rest : List Holding) (k : ℕ) → cond b (sentence_faults text at x) [] ≡ [] → slice_get (cond b (x ∷ []) [] ++ rest) k ≡ Some h
    → ((j : ℕ) → slice_get rest j ≡ Some h → IsFaultless text h) → IsFaultless text h
by_kind text true at x h rest zero none e later = let same : x ≡ h = cc in (at, ap (sentence_faults text at) (sym same) ∙ none)
by_kind text true at x h rest (suc k) none e later = later k e
by_kind text false at x h rest k none e later = later k e

each_sentence : (text : ProgramText) (at number : ℕ) (ls : List (List ℕ)) → lines_faults text at number ls ≡ [] → (k : ℕ) (h : Holding) → slice_get (cut_lines number ls) k ≡ Some h → IsFaultless text h
each_sentence text at number [] none zero h e = absurd cc
each_sentence text at number [] none (suc k) h e = absurd cc
each_sentence text at number (l ∷ ls) none k h e =
    let parts = both_nil (map (λ c. record { line = number; cause = c }) (line_faults text at number l)) (lines_faults text (behind_line at l) (number + 1) ls) none in
    let line_none = both_nil (whole_faults at (trimmed l)) (cond (is_statement (trimmed l)) (sentence_faults text at (cut number l)) []) (map_nil (λ c. record { line = number; cause = c }) (line_faults text at number l) parts.0) in
    by_kind text (is_statement (trimmed l)) at (cut number l) h (cut_lines (number + 1) ls) k line_none.1 e (λ j f. each_sentence text (behind_line at l) (number + 1) ls parts.1 j h f)

said_where : (text : ProgramText) (hs : List Holding) (k : ℕ) (l : Line) → slice_get (map (line_of text) hs) k ≡ Some l → (h : Holding) × (slice_get hs k ≡ Some h) × (line_of text h ≡ l)
said_where text [] zero l e = absurd cc
said_where text [] (suc k) l e = absurd cc
said_where text (h ∷ hs) zero l e = let same : line_of text h ≡ l = cc in (h, refl, same)
said_where text (h ∷ hs) (suc k) l e = said_where text hs k l e

-- if a sentence is a statement with fields, it has these words, and had no fault when it was judged
abbrev IsJudged : ProgramText → List Token → List Word → Type 0
IsJudged text ws words = (words_in text ws ≡ words) × (faults_from text.schema [] statement (words_at_first text ws) ≡ [])

filled_words : (text : ProgramText) (at : ℕ) (ws : List Token) (words : List Word) (p : Option (List ℕ)) (verb : Option Keyword) → sentence_with text ws p verb ≡ Filled words → faults_of text at ws p verb ≡ [] → IsJudged text ws words
filled_words text at ws words (Some name) verb e none = absurd cc
filled_words text at ws words None (Some keyword.Move) e none = absurd cc
filled_words text at ws words None (Some _) e none = absurd cc
filled_words text at ws words None None e none = (by_field (list_any (λ m. m.1) (marked ws)) e, map_nil AsInScript (faults_from text.schema [] statement (words_at_first text ws)) parts.1)
  where
    parts : (flat_map (unknown_word text) (marked ws) ≡ []) × (map AsInScript (faults_from text.schema [] statement (words_at_first text ws)) ≡ [])
    parts = both_nil (flat_map (unknown_word text) (marked ws)) (map AsInScript (faults_from text.schema [] statement (words_at_first text ws))) none

    by_field : (b : Bool) → cond b (Filled (words_in text ws)) (Statement (statement_of text.schema (labels fits statement (words_at_first text ws)))) ≡ Filled words → words_in text ws ≡ words
    by_field true h = cc
    by_field false h = absurd cc

map_twice : {X Y Z : Type 0} (f : Y → Z) (g : X → Y) (xs : List X) → map f (map g xs) ≡ map (λ x. f (g x)) xs
map_twice f g [] = refl
map_twice f g (x ∷ xs) = ap (λ ys. f (g x) ∷ ys) (map_twice f g xs)

-- a statement has no fault except that a value does not fit
pub only_a_value_does_not_fit : OnlyAValueDoesNotFit
only_a_value_does_not_fit schema bytes state l words accepted held here is =
    let text : ProgramText = record { schema = schema; sentences = sentences_of bytes } in
    let fields = fields_in text in
    let none = both_nil (too_long bytes) (lines_faults text 0 1 (lines bytes)) (none_at_all (faults schema bytes) accepted) in
    let found = said_where text (sentences_of bytes) state.at l here in
    let h = found.0 in
    let faultless = each_sentence text 0 1 (lines bytes) none.1 state.at h found.1 in
    let judged = filled_words text faultless.0 h.words words h.paragraph (verb_of h.words) (ap (λ (x : Line). x.sentence) found.2 ∙ is) faultless.1 in
    let first_none = sym (map_twice (said_word (beginning_with fields)) (word_of fields) (marked h.words)) ∙ refl in
    let all = by_words schema fields state held h.words (ap (faults_from schema [] statement) first_none ∙ judged.1) in
    ap (λ (ws : List Word). list_all says_too_great (faults_from schema [] statement (map (said_word state) ws))) (sym judged.0)
    ∙ ap (λ (ts : List Token). list_all says_too_great (faults_from schema [] statement ts)) (map_twice (said_word state) (word_of fields) (marked h.words)) ∙ all
