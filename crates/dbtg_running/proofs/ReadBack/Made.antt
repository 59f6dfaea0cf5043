-- The scripts that programs made: each line says the statement of its entry.
use Rattle.std.proofs.Common.{◌≡◌, ℕ, zero, suc, ◌+◌, ◌-◌, ◌≤◌, Bool, true, false, cond, not, List, [], ◌∷◌, ◌++◌, filter, length, map, Option, Some, None, slice_get, refl, sym, ap, subst, ◌∙◌, arith}
use Rattle.std.specs.Prelude.{◌==◌, if◌then◌else◌, nat_le, option_map, unwrap_or}
use Rattle.std.specs.List.{AllByRecursion, list_all}
use Rattle.std.proofs.lemmas.Bool.{and_from, and_parts}
use Rattle.dbtg_schema.specs.Lists.{Lists}
use Rattle.dbtg_schema.specs.Named.{IsNamed}
use Rattle.dbtg_schema.specs.Sound.{IsSound}
use Rattle.dbtg_unit.specs.declared.statement.Statement.{Statement}
use Rattle.dbtg_unit.specs.declared.unit.Entry.{Entry}
use Rattle.dbtg_script.specs.Lines.{is_printable, is_statement, lines, onto_line, statement_lines, trimmed}
use Rattle.dbtg_script.specs.Statements.{prepend, script, statements_of}
use Rattle.dbtg_script.specs.Tokens.{tokens}
use Rattle.dbtg_program.specs.declared.program.Line.{Line}
use Rattle.dbtg_program.specs.declared.program.Program.{Program}
use Rattle.dbtg_program.specs.declared.program.Word.{Word}
use Rattle.dbtg_program.specs.Faults.{lines_faults, refusal as program_refusal, too_long}
use Rattle.dbtg_program.specs.Going.{AreOf, Due, GoOn, IsDue, after_due, at_line, done, due, ended, line_at, makes, next, said_word, told}
use Rattle.dbtg_program.specs.Reading.{program, sentence_of}
use Rattle.dbtg_program.specs.Sentences.{Text, cut, sentences_of}
use Rattle.dbtg_program.specs.Spelling.{words_text}
use Rattle.dbtg_program.specs.States.{ProgramState, beginning}
use Rattle.dbtg_trace.specs.Laws.{IsSayable}
use Rattle.dbtg_trace.proofs.Public.{Clean, none_after}
use Rattle.dbtg_going.specs.Spelled.{filled_words, line_of, spelled, words_with_fields}
use Rattle.dbtg_running.specs.Echoing.{lines_made, where_due}
use Rattle.dbtg_running.proofs.ReadBack.Lines.{IsFrom, IsSaid, from_line, sentence_line, spelled_as}
use Rattle.dbtg_running.proofs.ReadBack.Sentences.{sentence_can}
use Rattle.dbtg_running.proofs.ReadBack.Values.{Says, Stands, beginning_says, sentence_says, told_says, within_stands}
use Rattle.dbtg_running.proofs.ReadBack.Words.{words_of}

-- LINES

abbrev unbroken : List ℕ → Bool
unbroken = list_all (λ b. not (b == 10))

ended_line : (xs ys : List ℕ) → unbroken xs ≡ true → lines (xs ++ 10 ∷ ys) ≡ xs ∷ lines ys
unfolding lines
ended_line [] ys h = refl
ended_line (x ∷ xs) ys h =
    let p = and_parts (not (x == 10)) (unbroken xs) h in
    ap (λ (b : Bool). if b then [] ∷ lines (xs ++ 10 ∷ ys) else onto_line x (lines (xs ++ 10 ∷ ys))) (off (x == 10) p.0) ∙ ap (onto_line x) (ended_line xs ys p.1)
  where
    off : (b : Bool) → not b ≡ true → b ≡ false
    off true h = absurd cc
    off false h = refl

onto_unbroken : (b : ℕ) (ls : List (List ℕ)) → (b == 10) ≡ false → list_all unbroken ls ≡ true → list_all unbroken (onto_line b ls) ≡ true
onto_unbroken b [] e h = and_from _ _ (and_from _ _ (ap not e) refl) refl
onto_unbroken b (l ∷ ls) e h = let p = and_parts (unbroken l) (list_all unbroken ls) h in and_from _ _ (and_from _ _ (ap not e) p.0) p.1

all_unbroken : (bytes : List ℕ) → list_all unbroken (lines bytes) ≡ true
unfolding lines
all_unbroken [] = refl
all_unbroken (b ∷ bs) = by (all_unbroken bs) (b == 10) refl
  where
    by : list_all unbroken (lines bs) ≡ true → (k : Bool) → (b == 10) ≡ k → list_all unbroken (if k then [] ∷ lines bs else onto_line b (lines bs)) ≡ true
    by rest true e = rest
    by rest false e = onto_unbroken b (lines bs) e rest

one_of : {X : Type 0} (p : X → Bool) (xs : List X) (n : ℕ) (x : X) → list_all p xs ≡ true → slice_get xs n ≡ Some x → p x ≡ true
one_of p [] n x all at = absurd cc
one_of p (y ∷ ys) zero x all at = let e : y ≡ x = cc in subst (λ z. p z ≡ true) e (and_parts (p y) (list_all p ys) all).0
one_of p (y ∷ ys) (suc n) x all at = one_of p ys n x (and_parts (p y) (list_all p ys) all).1 at

-- ONE PROGRAM

-- a script that was made says the statements of the entries, and its lines have no fault if they are not too long
pub record IsScriptOf (schema : Lists) (es : List Entry) (made : List ℕ) : Type 0 where
  pub says : script schema made ≡ map (λ e. e.statement) es
  pub clean : AllByRecursion (λ l. length l ≤ 1000 → Clean schema l) (statement_lines made)

one_line : (schema : Lists) (e : Entry) (es : List Entry) (raw more : List ℕ) → IsSaid schema e.statement raw → IsScriptOf schema es more → IsScriptOf schema (e ∷ es) (raw ++ 10 ∷ more)
one_line schema e es raw more is rest =
    let split = ended_line raw more is.unbroken in
    record {
      says = ap (statements_of schema) split ∙ ap (λ (o : Option Statement). prepend o (script schema more)) is.says ∙ ap (λ (ss : List Statement). e.statement ∷ ss) rest.says;
      clean = subst (AllByRecursion (λ l. length l ≤ 1000 → Clean schema l))
          (sym (ap (λ (ls : List (List ℕ)). filter is_statement (map trimmed ls)) split ∙ ap (λ (b : Bool). cond b (trimmed raw ∷ statement_lines more) (statement_lines more)) is.one))
          (is.clean, rest.clean);
    }

module _ (schema : Lists) (sound : IsSound schema) (named : IsNamed schema) (bytes : List ℕ) (accepted : program_refusal schema bytes ≡ None) where
  abbrev text : Text
  text = record { schema = schema; sentences = sentences_of bytes }

  abbrev own : Program
  own = program schema bytes

  from : (i : ℕ) (x : Line) → slice_get (program schema bytes).lines i ≡ Some x → IsFrom text 1 (lines bytes) x
  from i x is = from_line text (lines bytes) 0 1 i x (none_after (too_long bytes) (lines_faults text 0 1 (lines bytes)) accepted) is

  each : (x : Line) (i : ℕ) → slice_get (program schema bytes).lines i ≡ Some x → sentence_says x.sentence ≡ true
  each x i is =
      let f = from i x is in
      let shown = (and_parts (is_printable (trimmed f.l)) (nat_le (length (trimmed f.l)) 1000) f.is_good.allowed).0 in
      subst (λ (y : Line). sentence_says y.sentence ≡ true) (sym f.is) (sentence_can text (tokens false (trimmed f.l)) (cut f.number f.l).paragraph (words_of false (trimmed f.l) shown))

  due_line : (at : ProgramState) (s : Statement) → Says at.values → at_line schema (program schema bytes) at (line_at (program schema bytes) at) ≡ makes s → IsSaid schema s (spelled (program schema bytes) (lines bytes) at)
  due_line at s h m = by (line_at own at) refl m
    where
      in_words : Option (List Word) → List ℕ → List ℕ
      in_words words raw = unwrap_or (option_map (λ ws. words_text (map (said_word at) ws)) words) raw

      by : (o : Option Line) → line_at (program schema bytes) at ≡ o → at_line schema (program schema bytes) at o ≡ makes s → IsSaid schema s (spelled (program schema bytes) (lines bytes) at)
      by None e m = absurd cc
      by (Some x) e m =
          let f = from at.at x e in
          let n = f.number_is in
          let place : f.number - 1 ≡ f.k = omega (arith, n) in
          let raw : line_of (lines bytes) f.number ≡ f.l = ap (λ (k : ℕ). unwrap_or (slice_get (lines bytes) k) []) place ∙ ap (λ (o : Option (List ℕ)). unwrap_or o []) f.there in
          let is = sentence_line text named own at h f.number f.l f.is_good (one_of unbroken (lines bytes) f.k f.l (all_unbroken bytes) f.there) s
          (subst (λ (y : Line). done schema (program schema bytes) at y.number y.sentence ≡ makes s) f.is m) in
          let path : spelled (program schema bytes) (lines bytes) at ≡ spelled_as at f.l (sentence_of text (cut f.number f.l)) =
          (λ i. in_words (words_with_fields (e i)) (line_of (lines bytes) (unwrap_or (option_map (λ (y : Line). y.number) (e i)) 0)))
          ∙ ap (λ (y : Line). in_words (filled_words y.sentence) (line_of (lines bytes) y.number)) f.is
          ∙ ap (in_words (filled_words (sentence_of text (cut f.number f.l)))) raw in
          subst (IsSaid schema s) (sym path) is

  made_says : (state : ProgramState) (es : List Entry) → Says state.values → GoOn schema (program schema bytes) state es → AllByRecursion (λ e. IsSayable schema e.answer.key e.answer.items) es
      → IsScriptOf schema es (lines_made schema (program schema bytes) (lines bytes) state es)
  unfolding lines
  made_says state [] h go answers = record { says = refl; clean = tt }
  made_says state (e ∷ es) h go answers = by (λ after says more. made_says after es says more answers.1) (next schema own state) (within_stands schema own each 100000 0 state h) go.0 go.1
    where
      by : ((after : ProgramState) → Says after.values → GoOn schema (program schema bytes) after es → IsScriptOf schema es (lines_made schema (program schema bytes) (lines bytes) after es)) → (d : Due) → Stands schema (program schema bytes) each d → IsDue d e.statement → GoOn schema (program schema bytes) (after_due (program schema bytes) state d e) es
          → IsScriptOf schema (e ∷ es) (where_due d (λ at s. spelled (program schema bytes) (lines bytes) at ++ 10 ∷ lines_made schema (program schema bytes) (lines bytes) (told (program schema bytes) at s e.answer) es))
      by rest (ended at how) stands is more = absurd is
      by rest (due at s) stands is more =
          let line = subst (λ (x : Statement). IsSaid schema x (spelled (program schema bytes) (lines bytes) at)) is (due_line at s stands.0 stands.1) in
          let others = rest (told own at s e.answer) (told_says schema sound own at s e.answer answers.0 stands.0) more in
          one_line schema e es (spelled own (lines bytes) at) (lines_made schema own (lines bytes) (told own at s e.answer) es) line others

  pub script_said : (es : List Entry) → AreOf schema (program schema bytes) es → AllByRecursion (λ e. IsSayable schema e.answer.key e.answer.items) es
      → IsScriptOf schema es (lines_made schema (program schema bytes) (lines bytes) (beginning (program schema bytes)) es)
  script_said es are answers = made_says (beginning own) es (beginning_says own.fields) are answers
