-- What is judged of the words of a sentence, of a line and of lines, one after another.
use Rattle.std.proofs.Common.{◌≡◌, ℕ, zero, suc, ◌+◌, ◌<◌, ◌≤◌, Bool, true, false, cond, ◌&&◌, List, [], ◌∷◌, ◌++◌, Some, None, drop, length, map, refl, ap, subst, sym, ◌∙◌, arith}
use Rattle.std.specs.List.{flat_map, list_any}
use Rattle.std.specs.Prelude.{Option, codes, if◌then◌else◌, nat_lt, option_map, slice_get}
use Rattle.std.proofs.lemmas.Bool.Decides.{nat_tests}
use Rattle.std.proofs.lemmas.List.{append-nil, append_assoc, length-append}
use Rattle.dbtg_schema.specs.Lists.{Lists}
use Rattle.dbtg_schema.specs.Lookups.{first}
use Rattle.dbtg_schema.specs.Texts.Forms.{labels}
use Rattle.dbtg_schema.specs.declared.shape.Item.{Item}
use Rattle.dbtg_script.specs.Lines.{is_statement, lines, trimmed}
use Rattle.dbtg_script.specs.declared.fault.Cause.{Cause}
use Rattle.dbtg_script.specs.declared.fault.Cause.TheVariants.{TooMuch}
use Rattle.dbtg_script.specs.declared.fault.LineFault.{LineFault as ScriptFault}
use Rattle.dbtg_script.specs.declared.fault.LineFault.TheVariants as script_fault
use Rattle.dbtg_script.specs.Reading.{Refuses as RefusesLine, verdict}
use Rattle.dbtg_script.specs.StatementFaults as script
use Rattle.dbtg_script.specs.StatementGrammar.{fits, statement}
use Rattle.dbtg_script.specs.Statements.{statement_of}
use Rattle.dbtg_script.specs.Tokens.{Token, plain, equals, literal}
use Rattle.dbtg_program.specs.declared.fault.Fault.{Fault}
use Rattle.dbtg_program.specs.declared.fault.LineFault.{LineFault}
use Rattle.dbtg_program.specs.declared.fault.LineFault.TheVariants.{Refused, Memory}
use Rattle.dbtg_program.specs.declared.fault.ProgramCause.{ProgramCause}
use Rattle.dbtg_program.specs.declared.fault.ProgramCause.TheVariants.{AsInScript}
use Rattle.dbtg_program.specs.declared.fault.ProgramFault.TheVariants as program_fault
use Rattle.dbtg_program.specs.declared.program.Line.{Line}
use Rattle.dbtg_program.specs.declared.program.Sentence.{Sentence}
use Rattle.dbtg_program.specs.declared.program.Sentence.TheVariants.{Filled, Statement}
use Rattle.dbtg_program.specs.declared.program.Word.{Word}
use Rattle.dbtg_program.specs.Faults.{behind_line, line_faults, refusal, sentence_faults, too_long, unknown_word, whole_faults, words_at_first}
use Rattle.dbtg_program.specs.Going.{said_word}
use Rattle.dbtg_program.specs.Reading.{RefusesProgram, line_of, sentence_of, statement_in}
use Rattle.dbtg_program.specs.Sentences.{Holding, Text, as_it_is, cut, cut_lines, fields_in, is_equals, is_spelled, marked, marked_from, word_of, words_in}
use Rattle.dbtg_program.specs.States.{ProgramState, beginning_with}
use Rattle.dbtg_program.specs.Inside.Reading.{Refuses, Stands, as_in_script, at_line, line_said, line_verdict, lines_verdict, sentence_line, sentence_verdict, statement_verdict, text_of, unknown_verdict, whole_verdict, words_verdict}

-- THE FIRST OF LISTS

pub first_then : {X : Type 0} (xs ys : List X) (f : X) → first xs ≡ Some f → first (xs ++ ys) ≡ Some f
first_then [] ys f h = absurd cc
first_then (x ∷ xs) ys f h = h

pub first_else : {X : Type 0} (xs ys : List X) → first xs ≡ None → first (xs ++ ys) ≡ first ys
first_else [] ys h = refl
first_else (x ∷ xs) ys h = absurd cc

first_map : {X Y : Type 0} (g : X → Y) (xs : List X) → first (map g xs) ≡ option_map g (first xs)
first_map g [] = refl
first_map g (x ∷ xs) = refl

-- FIELD WORDS, THEN THE STATEMENT

pub word_known : (text : Text) (m : Token × Bool) (ms : List (Token × Bool)) → first (unknown_word text m) ≡ None → unknown_verdict text (m ∷ ms) ≡ unknown_verdict text ms
unfolding unknown_verdict
word_known text m ms h = first_else (unknown_word text m) _ h

pub word_unknown : (text : Text) (m : Token × Bool) (ms : List (Token × Bool)) (c : ProgramCause) → first (unknown_word text m) ≡ Some c → unknown_verdict text (m ∷ ms) ≡ Some c
unfolding unknown_verdict
word_unknown text m ms c h = first_then (unknown_word text m) _ c h

pub all_known : (text : Text) → unknown_verdict text [] ≡ None
unfolding unknown_verdict
all_known text = refl

pub statement_unknown : (text : Text) (ws : List Token) (c : ProgramCause) → unknown_verdict text (marked ws) ≡ Some c → statement_verdict text ws ≡ Some c
unfolding unknown_verdict statement_verdict
statement_unknown text ws c h = first_then _ _ c h

pub statement_known : (text : Text) (ws : List Token) → unknown_verdict text (marked ws) ≡ None → statement_verdict text ws ≡ words_verdict text (words_in text ws)
unfolding unknown_verdict statement_verdict words_verdict verdict
statement_known text ws h = first_else _ _ h ∙ first_map AsInScript (script.faults_from text.schema [] statement (words_at_first text ws))

-- A LINE

pub whole_refused : (text : Text) (at : ℕ) (line : List ℕ) (l : Holding) (c : ProgramCause) → whole_verdict at line ≡ Some c → line_verdict text at line l ≡ Some c
unfolding whole_verdict line_verdict
whole_refused text at line l c h = first_then (whole_faults at line) _ c h

pub note_passes : (text : Text) (at : ℕ) (line : List ℕ) (l : Holding) → whole_verdict at line ≡ None → is_statement line ≡ false → line_verdict text at line l ≡ None
unfolding whole_verdict line_verdict
note_passes text at line l h note = first_else (whole_faults at line) _ h ∙ ap (λ b. first (cond b (sentence_faults text at l) [])) note

pub sentence_judged : (text : Text) (at : ℕ) (line : List ℕ) (l : Holding) → whole_verdict at line ≡ None → is_statement line ≡ true → line_verdict text at line l ≡ sentence_verdict text at l
unfolding whole_verdict line_verdict sentence_verdict
sentence_judged text at line l h holds = first_else (whole_faults at line) _ h ∙ ap (λ b. first (cond b (sentence_faults text at l) [])) holds

-- LINES

pub line_passes : (text : Text) (at number : ℕ) (line : List ℕ) (ls : List (List ℕ)) → line_verdict text at (trimmed line) (cut number line) ≡ None
    → lines_verdict text at number (line ∷ ls) ≡ lines_verdict text (behind_line at line) (number + 1) ls
unfolding line_verdict lines_verdict
line_passes text at number line ls h =
    first_else _ _ (first_map (λ c. record { line = number; cause = c }) (line_faults text at number line) ∙ ap (option_map (λ c. record { line = number; cause = c })) h)

line_stops : (text : Text) (at number : ℕ) (line : List ℕ) (ls : List (List ℕ)) (c : ProgramCause) → line_verdict text at (trimmed line) (cut number line) ≡ Some c
    → lines_verdict text at number (line ∷ ls) ≡ Some (record { line = number; cause = c })
unfolding line_verdict lines_verdict
line_stops text at number line ls c h =
    first_then _ _ _ (first_map (λ c. record { line = number; cause = c }) (line_faults text at number line) ∙ ap (option_map (λ c. record { line = number; cause = c })) h)

pub line_refused : (text : Text) (at number : ℕ) (line : List ℕ) (ls : List (List ℕ)) (e : LineFault) → Refuses e (line_verdict text at (trimmed line) (cut number line))
    → RefusesProgram (at_line number e) (lines_verdict text at number (line ∷ ls))
line_refused text at number line ls Memory h = tt
line_refused text at number line ls (Refused c) h = line_stops text at number line ls c h

pub no_lines : (text : Text) (at number : ℕ) (ls : List (List ℕ)) → ls ≡ [] → lines_verdict text at number ls ≡ None
unfolding lines_verdict
no_lines text at number ls h = rw h refl

-- A STATEMENT'S WORDS

-- a fault of a script's line is one of a program's
pub as_said : (e : ScriptFault) (f : LineFault) (v : Option Cause) → f ≡ as_in_script e → RefusesLine e v → Refuses f (option_map AsInScript v)
as_said script_fault.Memory f v is h = subst (λ (g : LineFault). Refuses g (option_map AsInScript v)) (sym is) tt
as_said (script_fault.Refused c) f v is h = subst (λ (g : LineFault). Refuses g (option_map AsInScript v)) (sym is) (ap (option_map AsInScript) h)

-- the words of a statement, read as those of a script's line at the beginning of the program
pub at_first_is : (text : Text) (schema : Lists) (state : ProgramState) (words : List Word) → schema ≡ text.schema → state ≡ beginning_with (fields_in text)
    → words_verdict text words ≡ option_map AsInScript (verdict schema [] statement (map (said_word state) words))
unfolding words_verdict
at_first_is text schema state words e f = rw (e, f) refl

-- STATEMENTS WITHOUT FIELDS

no_field : (text : Text) (ms : List (Token × Bool)) → list_any (λ m. m.1) ms ≡ false → flat_map (unknown_word text) ms ≡ []
no_field text [] h = refl
no_field text ((t, false) ∷ ms) h = no_field text ms h
no_field text ((t, true) ∷ ms) h = absurd cc

said_plainly : (state : ProgramState) (t : Token) → said_word state (as_it_is t) ≡ t
said_plainly state (plain t) = refl
said_plainly state equals = refl
said_plainly state (literal t) = refl

words_plainly : (fields : List Item) (ms : List (Token × Bool)) → list_any (λ m. m.1) ms ≡ false → map (said_word (beginning_with fields)) (map (word_of fields) ms) ≡ map (λ m. m.0) ms
words_plainly fields [] h = refl
words_plainly fields ((t, false) ∷ ms) h = λ i. said_plainly (beginning_with fields) t i ∷ words_plainly fields ms h i
words_plainly fields ((t, true) ∷ ms) h = absurd cc

unmarked_from : (here : Bool) (ws : List Token) → map (λ m. m.0) (marked_from here ws) ≡ ws
unmarked_from here [] = refl
unmarked_from here (w ∷ ws) = ap (λ (ts : List Token). w ∷ ts) (unmarked_from (is_equals w) ws)

unmarked : (ws : List Token) → map (λ m. m.0) (marked ws) ≡ ws
unmarked [] = refl
unmarked (v ∷ []) = refl
unmarked (v ∷ w ∷ ws) =
    elim (is_spelled (codes "FIND") v && is_spelled (codes "SORTED") w) as (λ b. map (λ m. m.0) (cond b ((v, false) ∷ (w, false) ∷ marked_from true ws) (marked_from false (v ∷ w ∷ ws))) ≡ v ∷ w ∷ ws)
    [ true ↦ ap (λ (ts : List Token). v ∷ w ∷ ts) (unmarked_from true ws) | false ↦ unmarked_from false (v ∷ w ∷ ws) ]

-- they are the words of a script's line
words_are : (text : Text) (ws : List Token) → list_any (λ m. m.1) (marked ws) ≡ false → words_at_first text ws ≡ ws
words_are text ws h = words_plainly (fields_in text) (marked ws) h ∙ unmarked ws

pub judged_plainly : (text : Text) (ws : List Token) → list_any (λ m. m.1) (marked ws) ≡ false → statement_verdict text ws ≡ option_map AsInScript (verdict text.schema [] statement ws)
unfolding statement_verdict verdict
judged_plainly text ws h =
    ap (λ (cs : List ProgramCause). first (cs ++ map AsInScript (script.faults_from text.schema [] statement (words_at_first text ws)))) (no_field text (marked ws) h)
    ∙ first_map AsInScript (script.faults_from text.schema [] statement (words_at_first text ws)) ∙ ap (λ (ts : List Token). option_map AsInScript (first (script.faults_from text.schema [] statement ts))) (words_are text ws h)

pub said_in_script : (text : Text) (ws : List Token) → list_any (λ m. m.1) (marked ws) ≡ false → statement_in text ws ≡ Statement (statement_of text.schema (labels fits statement ws))
said_in_script text ws h =
    ap (λ b. cond b (Filled (words_in text ws)) (Statement (statement_of text.schema (labels fits statement (words_at_first text ws))))) h
    ∙ ap (λ (ts : List Token). Statement (statement_of text.schema (labels fits statement ts))) (words_are text ws h)

pub said_with_fields : (text : Text) (ws : List Token) → list_any (λ m. m.1) (marked ws) ≡ true → statement_in text ws ≡ Filled (words_in text ws)
said_with_fields text ws h = ap (λ b. cond b (Filled (words_in text ws)) (Statement (statement_of text.schema (labels fits statement (words_at_first text ws))))) h

-- LINES AND THEIR SENTENCES

-- the line that a sentence says is the one at its place
pub said_line : (text : Text) (at : ℕ) (l h : Holding) (s : Sentence) → Some h ≡ slice_get text.sentences at → Stands text at l → s ≡ sentence_of text h → record { number = h.number; sentence = s } ≡ sentence_line text l
unfolding sentence_line
said_line text at l h s got stands is =
    let both : Some h ≡ Some l = got ∙ stands in
    let same : h ≡ l = cc in
    (λ i. record { number = h.number; sentence = is i }) ∙ ap (line_of text) same

first_of_drop : (xs : List Holding) (k : ℕ) (x : Holding) (rest : List Holding) → drop k xs ≡ x ∷ rest → slice_get xs k ≡ Some x
first_of_drop [] zero x rest h = absurd cc
first_of_drop [] (suc k) x rest h = absurd cc
first_of_drop (y ∷ xs) zero x rest h = let e : y ≡ x = cc in ap (λ (z : Holding). Some z) e
first_of_drop (y ∷ xs) (suc k) x rest h = first_of_drop xs k x rest h

tail_of_drop : (xs : List Holding) (k : ℕ) (x : Holding) (rest : List Holding) → drop k xs ≡ x ∷ rest → drop (suc k) xs ≡ rest
tail_of_drop [] zero x rest h = absurd cc
tail_of_drop [] (suc k) x rest h = absurd cc
tail_of_drop (y ∷ xs) zero x rest h = let e : xs ≡ rest = cc in e
tail_of_drop (y ∷ xs) (suc k) x rest h = tail_of_drop xs k x rest h

-- the next sentence is that of the next line, if this line holds one
pub stands : (text : Text) (at number : ℕ) (line : List ℕ) (ls : List (List ℕ)) → drop at text.sentences ≡ cut_lines number (line ∷ ls) → is_statement (trimmed line) ≡ true → Stands text at (cut number line)
stands text at number line ls h holds =
    first_of_drop text.sentences at (cut number line) (cut_lines (number + 1) ls) (h ∙ ap (λ b. (if b then cut number line ∷ [] else []) ++ cut_lines (number + 1) ls) holds)

further : (b : Bool) (xs : List Holding) (at : ℕ) (x : Holding) (rest : List Holding) → drop at xs ≡ (if b then x ∷ [] else []) ++ rest → drop (if b then at + 1 else at) xs ≡ rest
further true xs at x rest h = let e : at + 1 ≡ suc at = omega arith in ap (λ (n : ℕ). drop n xs) e ∙ tail_of_drop xs at x rest h
further false xs at x rest h = h

-- after a line the sentences of the later lines are left
pub stand_further : (text : Text) (at number : ℕ) (line : List ℕ) (ls : List (List ℕ)) → drop at text.sentences ≡ cut_lines number (line ∷ ls) → drop (behind_line at line) text.sentences ≡ cut_lines (number + 1) ls
stand_further text at number line ls h = further (is_statement (trimmed line)) text.sentences at (cut number line) (cut_lines (number + 1) ls) h

count_by : (b : Bool) (x : Line) (xs : List Line) → length (xs ++ (if b then x ∷ [] else [])) ≡ (if b then length xs + 1 else length xs)
count_by true x xs = length-append xs (x ∷ [])
count_by false x xs = ap length (append-nil xs)

-- how many sentences there are after a line of the text
pub counted : (text : Text) (number : ℕ) (line : List ℕ) (xs : List Line) → length (xs ++ line_said text (trimmed line) (cut number line)) ≡ behind_line (length xs) line
counted text number line xs = count_by (is_statement (trimmed line)) (sentence_line text (cut number line)) xs

said_by_kind : (b : Bool) (text : Text) (xs : List Line) (x : Holding) (rest : List Holding)
    → (xs ++ (if b then sentence_line text x ∷ [] else [])) ++ map (line_of text) rest ≡ xs ++ map (line_of text) ((if b then x ∷ [] else []) ++ rest)
unfolding sentence_line
said_by_kind true text xs x rest = append_assoc xs (line_of text x ∷ []) (map (line_of text) rest)
said_by_kind false text xs x rest = ap (λ (ys : List Line). ys ++ map (line_of text) rest) (append-nil xs)

-- the lines that are said after a line of the text
pub said_further : (text : Text) (number : ℕ) (line : List ℕ) (ls : List (List ℕ)) (xs : List Line)
    → (xs ++ line_said text (trimmed line) (cut number line)) ++ map (line_of text) (cut_lines (number + 1) ls) ≡ xs ++ map (line_of text) (cut_lines number (line ∷ ls))
said_further text number line ls xs = said_by_kind (is_statement (trimmed line)) text xs (cut number line) (cut_lines (number + 1) ls)

-- A TEXT

pub short_text : (schema : Lists) (text : List ℕ) → length text ≤ 1048576 → refusal schema text ≡ lines_verdict (text_of schema text) 0 1 (lines text)
unfolding lines_verdict
short_text schema text h = let e : nat_lt 1048576 (length text) ≡ false = grind (arith, nat_tests) in rw e refl

pub long_told : (text : List ℕ) (f : Fault) → 1048576 < length text → first (too_long text) ≡ Some f → program_fault.Refused 1 (AsInScript TooMuch) ≡ program_fault.Refused f.line f.cause
long_told text f h wrong =
    let e : nat_lt 1048576 (length text) ≡ true = grind (arith, nat_tests) in
    let is : Some (record { line = 1; cause = AsInScript TooMuch }) ≡ Some f = rw e at wrong in
    let same : record { line = 1; cause = AsInScript TooMuch } ≡ f = cc in
    ap (λ (g : Fault). program_fault.Refused g.line g.cause) same

pub short_told : (text : List ℕ) (f : Fault) → length text ≤ 1048576 → first (too_long text) ≡ Some f → ⊥
short_told text f h wrong =
    let e : nat_lt 1048576 (length text) ≡ false = grind (arith, nat_tests) in
    let is : None ≡ Some f = rw e at wrong in
    absurd cc
