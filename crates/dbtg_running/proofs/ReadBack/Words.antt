-- Words that are printed with spaces between them are read back, and a line of them has no fault if they have none.
use Rattle.std.proofs.Common.{◌≡◌, ℕ, ◌≤◌, Bool, true, false, not, ◌&&◌, List, [], ◌∷◌, ◌++◌, length, refl, sym, ap, subst, ◌∙◌, arith, append_assoc}
use Rattle.std.specs.Prelude.{◌==◌, None, if◌then◌else◌, nat_le, nat_lt}
use Rattle.std.specs.List.{list_all}
use Rattle.std.proofs.lemmas.Bool.{and_from, and_parts, le-leb}
use Rattle.std.proofs.lemmas.Bool.Decides.{nat_tests}
use Rattle.dbtg_schema.specs.Lists.{Lists}
use Rattle.dbtg_schema.specs.Lookups.{first}
use Rattle.dbtg_schema.specs.Named.{IsNamed}
use Rattle.dbtg_unit.specs.Database.Statements.Fits.{is_text_byte}
use Rattle.dbtg_unit.specs.declared.limits.TheConstants.{MOST_STATEMENTS}
use Rattle.dbtg_script.specs.declared.fault.Cause.TheVariants as cause
use Rattle.dbtg_script.specs.Lines.{ends_in_text, is_allowed, is_statement, trimmed}
use Rattle.dbtg_script.specs.StatementFaults.{faults_from, when}
use Rattle.dbtg_script.specs.StatementGrammar.{statement}
use Rattle.dbtg_script.specs.Tokens.{Token, plain, equals, literal, into, is_letter, onto, tokens}
use Rattle.dbtg_program.specs.Spelling.{word_text, words_behind, words_text}
use Rattle.dbtg_trace.proofs.Public.{Clean, all_append, all_imply, apart, behind_equals, behind_space, ends_as_begun, ends_behind, ends_well, letter_is_no_quote, shows, some_bytes, text_is_no_quote, text_of, text_shows, trimmed_well, word_of}

-- WORDS OF A LINE

-- a word as a printable line has it: one or more letters, or a text without quotes
abbrev pub is_word : Token → Bool
is_word (plain t) = nat_lt 0 (length t) && list_all is_letter t && list_all shows t
is_word equals = true
is_word (literal t) = list_all is_text_byte t

one_letter : (b : ℕ) → is_letter b ≡ true → shows b ≡ true → is_word (plain (b ∷ [])) ≡ true
one_letter b l s = and_from _ _ (and_from _ _ (some_bytes 0) (and_from _ _ l refl)) (and_from _ _ s refl)

one_more : (b : ℕ) (t : List ℕ) → is_letter b ≡ true → shows b ≡ true → is_word (plain t) ≡ true → is_word (plain (b ∷ t)) ≡ true
one_more b t l s h =
    let p = and_parts (nat_lt 0 (length t) && list_all is_letter t) (list_all shows t) h in
    let q = and_parts (nat_lt 0 (length t)) (list_all is_letter t) p.0 in
    and_from _ _ (and_from _ _ (some_bytes (length t)) (and_from _ _ l q.1)) (and_from _ _ s p.1)

onto_words : (b : ℕ) (bs : List ℕ) (ts : List Token) → is_letter b ≡ true → shows b ≡ true → list_all is_word ts ≡ true → list_all is_word (onto b bs ts) ≡ true
unfolding onto
onto_words b [] ts l s h = and_from _ _ (one_letter b l s) h
onto_words b (c ∷ cs) [] l s h = and_from _ _ (one_letter b l s) refl
onto_words b (c ∷ cs) (plain t ∷ ts) l s h = by (is_letter c)
  where
    by : (k : Bool) → list_all is_word (if k then plain (b ∷ t) ∷ ts else plain (b ∷ []) ∷ plain t ∷ ts) ≡ true
    by true = let p = and_parts (is_word (plain t)) (list_all is_word ts) h in and_from _ _ (one_more b t l s p.0) p.1
    by false = and_from _ _ (one_letter b l s) h
onto_words b (c ∷ cs) (equals ∷ ts) l s h = and_from _ _ (one_letter b l s) h
onto_words b (c ∷ cs) (literal t ∷ ts) l s h = and_from _ _ (one_letter b l s) h

into_words : (b : ℕ) (ts : List Token) → is_text_byte b ≡ true → list_all is_word ts ≡ true → list_all is_word (into b ts) ≡ true
unfolding into
into_words b [] t h = refl
into_words b (plain x ∷ ts) t h = h
into_words b (equals ∷ ts) t h = h
into_words b (literal x ∷ ts) t h = let p = and_parts (list_all is_text_byte x) (list_all is_word ts) h in and_from _ _ (and_from _ _ t p.0) p.1

-- the words of printable bytes
pub words_of : (inside : Bool) (bs : List ℕ) → list_all shows bs ≡ true → list_all is_word (tokens inside bs) ≡ true
unfolding tokens
words_of true [] h = refl
words_of false [] h = refl
words_of true (b ∷ bs) h = by (words_of false bs p.1) (words_of true bs p.1) (b == 34) refl
  where
    p : (shows b ≡ true) × (list_all shows bs ≡ true)
    p = and_parts (shows b) (list_all shows bs) h

    by : list_all is_word (tokens false bs) ≡ true → list_all is_word (tokens true bs) ≡ true → (k : Bool) → (b == 34) ≡ k → list_all is_word (if k then literal [] ∷ tokens false bs else into b (tokens true bs)) ≡ true
    by outer inner true e = outer
    by outer inner false e = into_words b (tokens true bs) (and_from _ _ p.0 (ap not e)) inner
words_of false (b ∷ bs) h = by (words_of false bs p.1) (words_of true bs p.1) (b == 32) (b == 61) (b == 34) refl refl refl
  where
    p : (shows b ≡ true) × (list_all shows bs ≡ true)
    p = and_parts (shows b) (list_all shows bs) h

    by : list_all is_word (tokens false bs) ≡ true → list_all is_word (tokens true bs) ≡ true → (x y z : Bool) → (b == 32) ≡ x → (b == 61) ≡ y → (b == 34) ≡ z
        → list_all is_word (if x then tokens false bs else (if y then equals ∷ tokens false bs else (if z then tokens true bs else onto b bs (tokens false bs)))) ≡ true
    by outer inner true y z e f g = outer
    by outer inner false true z e f g = outer
    by outer inner false false true e f g = inner
    by outer inner false false false e f g = onto_words b bs (tokens false bs) (and_from _ _ (and_from _ _ (ap not e) (ap not f)) (ap not g)) p.0 outer

-- WORDS ARE READ BACK

letters : (t : List ℕ) → is_word (plain t) ≡ true → list_all is_letter t ≡ true
letters t h = (and_parts (nat_lt 0 (length t)) (list_all is_letter t) (and_parts (nat_lt 0 (length t) && list_all is_letter t) (list_all shows t) h).0).1

no_quotes : (t : List ℕ) → list_all is_letter t ≡ true → list_all (λ b. not (b == 34)) t ≡ true
no_quotes t h = all_imply is_letter (λ b. not (b == 34)) letter_is_no_quote t h

clear_text : (t : List ℕ) → list_all is_text_byte t ≡ true → list_all (λ b. not (b == 34)) t ≡ true
clear_text t h = all_imply is_text_byte (λ b. not (b == 34)) text_is_no_quote t h

apart_behind : (ws : List Token) → apart (words_behind ws) ≡ true
apart_behind [] = refl
apart_behind (w ∷ ws) = refl

word_back : (w : Token) (rest : List ℕ) → is_word w ≡ true → apart rest ≡ true → tokens false (word_text w ++ rest) ≡ w ∷ tokens false rest
word_back (plain t) rest h a =
    let p = and_parts (nat_lt 0 (length t) && list_all is_letter t) (list_all shows t) h in
    let q = and_parts (nat_lt 0 (length t)) (list_all is_letter t) p.0 in
    word_of t rest q.0 q.1 a
word_back equals rest h a = behind_equals rest
word_back (literal t) rest h a = ap (λ (bs : List ℕ). tokens false (34 ∷ bs)) (append_assoc t (34 ∷ []) rest) ∙ text_of t rest (clear_text t h)

back_behind : (ws : List Token) → list_all is_word ws ≡ true → tokens false (words_behind ws) ≡ ws
unfolding tokens
back_behind [] h = refl
back_behind (w ∷ ws) h =
    let p = and_parts (is_word w) (list_all is_word ws) h in
    behind_space (word_text w ++ words_behind ws) ∙ word_back w (words_behind ws) p.0 (apart_behind ws) ∙ ap (λ (ts : List Token). w ∷ ts) (back_behind ws p.1)

pub text_back : (ws : List Token) → list_all is_word ws ≡ true → tokens false (words_text ws) ≡ ws
unfolding tokens
text_back [] h = refl
text_back (w ∷ ws) h = sym (behind_space (words_text (w ∷ ws))) ∙ back_behind (w ∷ ws) h

word_shows : (w : Token) → is_word w ≡ true → list_all shows (word_text w) ≡ true
word_shows (plain t) h = (and_parts (nat_lt 0 (length t) && list_all is_letter t) (list_all shows t) h).1
word_shows equals h = refl
word_shows (literal t) h = all_append shows t (34 ∷ []) (all_imply is_text_byte shows text_shows t h) refl

behind_shows : (ws : List Token) → list_all is_word ws ≡ true → list_all shows (words_behind ws) ≡ true
behind_shows [] h = refl
behind_shows (w ∷ ws) h = let p = and_parts (is_word w) (list_all is_word ws) h in all_append shows (word_text w) (words_behind ws) (word_shows w p.0) (behind_shows ws p.1)

pub text_shown : (ws : List Token) → list_all is_word ws ≡ true → list_all shows (words_text ws) ≡ true
text_shown [] h = refl
text_shown (w ∷ ws) h = let p = and_parts (is_word w) (list_all is_word ws) h in all_append shows (word_text w) (words_behind ws) (word_shows w p.0) (behind_shows ws p.1)

word_closed : (w : Token) (rest : List ℕ) → is_word w ≡ true → ends_in_text false (word_text w ++ rest) ≡ ends_in_text false rest
word_closed (plain t) rest h = ends_behind false t rest ∙ ap (λ (k : Bool). ends_in_text k rest) (ends_as_begun false t (no_quotes t (letters t h)))
word_closed equals rest h = refl
word_closed (literal t) rest h =
    ap (ends_in_text true) (append_assoc t (34 ∷ []) rest) ∙ ends_behind true t (34 ∷ rest) ∙ ap (λ (k : Bool). ends_in_text k (34 ∷ rest)) (ends_as_begun true t (clear_text t h))

behind_closed : (ws : List Token) → list_all is_word ws ≡ true → ends_in_text false (words_behind ws) ≡ false
behind_closed [] h = refl
behind_closed (w ∷ ws) h = let p = and_parts (is_word w) (list_all is_word ws) h in word_closed w (words_behind ws) p.0 ∙ behind_closed ws p.1

pub text_closed : (ws : List Token) → list_all is_word ws ≡ true → ends_in_text false (words_text ws) ≡ false
text_closed [] h = refl
text_closed (w ∷ ws) h = let p = and_parts (is_word w) (list_all is_word ws) h in word_closed w (words_behind ws) p.0 ∙ behind_closed ws p.1

-- LINES OF STATEMENTS

-- no statement begins with an asterisk, nor is it empty
no_star : (schema : Lists) (t : List ℕ) (ws : List Token) → first (faults_from schema [] statement (plain (42 ∷ t) ∷ ws)) ≡ None → ⊥
no_star schema t ws h = absurd cc

some_words : (schema : Lists) → first (faults_from schema [] statement []) ≡ None → ⊥
some_words schema h = absurd cc

pub holds_one : (schema : Lists) (ws : List Token) → list_all is_word ws ≡ true → first (faults_from schema [] statement ws) ≡ None → is_statement (words_text ws) ≡ true
holds_one schema [] h f = absurd (some_words schema f)
holds_one schema (equals ∷ ws) h f = refl
holds_one schema (literal t ∷ ws) h f = refl
holds_one schema (plain [] ∷ ws) h f = absurd cc
holds_one schema (plain (b ∷ t) ∷ ws) h f = by (b == 42) refl
  where
    letter : is_letter b ≡ true
    letter = (and_parts (is_letter b) (list_all is_letter t) (letters (b ∷ t) (and_parts (is_word (plain (b ∷ t))) (list_all is_word ws) h).0)).0

    by : (k : Bool) → (b == 42) ≡ k → is_statement (words_text (plain (b ∷ t) ∷ ws)) ≡ true
    by true e =
        let is : b ≡ 42 = grind (arith, nat_tests, e) in
        absurd (no_star schema t ws (subst (λ (c : ℕ). first (faults_from schema [] statement (plain (c ∷ t) ∷ ws)) ≡ None) is f))
    by false e =
        let space : (b == 32) ≡ false = grind (arith, nat_tests, letter) in
        rw (e, space) refl

-- a line without a fault
pub clean_line : (schema : Lists) (st : List ℕ) → is_statement st ≡ true → is_allowed st ≡ true → ends_in_text false st ≡ false → first (faults_from schema [] statement (tokens false st)) ≡ None → Clean schema st
clean_line schema st one allowed closed words =
    let room : nat_le MOST_STATEMENTS 0 ≡ false = grind (arith, nat_tests) in
    (λ i. first (when (one i && room i) cause.TooMuch ++ when (not (allowed i)) cause.LineNotAllowed ++ (if one i then when (closed i) cause.UnexpectedWord ++ faults_from schema [] statement (tokens false st) else []))) ∙ words

-- a printed line of words without a fault
pub record IsPrinted (schema : Lists) (ws : List Token) : Type 0 where
  pub whole : trimmed (words_text ws) ≡ words_text ws
  pub one : is_statement (words_text ws) ≡ true
  pub clean : length (words_text ws) ≤ 1000 → Clean schema (words_text ws)

pub printed : (schema : Lists) → IsNamed schema → (ws : List Token) → list_all is_word ws ≡ true → first (faults_from schema [] statement ws) ≡ None → IsPrinted schema ws
printed schema named ws words faultless =
    let st = words_text ws in
    let one = holds_one schema ws words faultless in
    let said : first (faults_from schema [] statement (tokens false st)) ≡ None = ap (λ (ts : List Token). first (faults_from schema [] statement ts)) (text_back ws words) ∙ faultless in
    let shown = text_shown ws words in
    let closed = text_closed ws words in
    record {
      whole = trimmed_well st (ends_well schema named st one shown closed said);
      one = one;
      clean = λ short. clean_line schema st one (and_from _ _ shown (le-leb (length st) 1000 short)) closed said;
    }
