-- The value that a word gives for a picture is of that picture.
use Rattle.std.proofs.Common.{◌≡◌, ℕ, zero, suc, ◌+◌, ◌-◌, ◌*◌, ◌<◌, ◌≤◌, ◌^◌, Bool, true, false, cond, not, ◌&&◌, List, [], ◌∷◌, ◌++◌, length, replicate, Option, Some, None, refl, ap, ◌∙◌, arith, inl, inr}
use Rattle.std.specs.Prelude.{nat_lt, nat_le, unwrap_or, ◌==◌}
use Rattle.std.specs.List.{list_all}
use Rattle.std.proofs.lemmas.Bool.{cases_Bool, eq-eqb, and_parts}
use Rattle.std.proofs.lemmas.Bool.Decides.{nat_tests}
use Rattle.std.proofs.Math.Nat.{pow-succ'}
use Rattle.std.proofs.lemmas.List.{length-append, length-replicate}
use Rattle.std.proofs.lemmas.List.Folds.{list_all-append}
use Rattle.dbtg_schema.specs.declared.shape.Picture.{Picture}
use Rattle.dbtg_schema.specs.declared.shape.Picture.TheVariants.{Number, Text as TextPicture}
use Rattle.dbtg_cells.specs.declared.key.Value.TheVariants.{Num, Text}
use Rattle.dbtg_unit.specs.Database.Statements.Fits.{is_text_byte, value_fits}
use Rattle.dbtg_script.specs.Labels.{is, given, first_word, text_of}
use Rattle.dbtg_script.specs.declared.role.Role.{Role}
use Rattle.dbtg_script.specs.declared.role.Role.TheVariants as role
use Rattle.dbtg_script.specs.Lines.{is_allowed}
use Rattle.dbtg_script.specs.StatementGrammar.{Form, Labelled, fits}
use Rattle.dbtg_script.specs.Inside.StatementGrammar.{Start}
use Rattle.dbtg_schema.specs.Texts.Forms.{starts, labelled, start_with, by_start, labels}
use Rattle.dbtg_script.specs.Printing.Spelling.{number}
use Rattle.dbtg_script.specs.Tokens.{Token, plain, equals, literal, tokens, into, onto, is_letter}
use Rattle.dbtg_script.specs.Values.{blank, filled, spelled, value_for}
use Rattle.std.specs.Str.{bytes_eq}

-- a literal has only bytes of texts
abbrev pub is_sound_token : Token → Bool
is_sound_token (plain t) = true
is_sound_token equals = true
is_sound_token (literal t) = list_all is_text_byte t

abbrev if_there : Option Token → Bool
if_there None = true
if_there (Some t) = is_sound_token t

-- THE WORDS OF A LINE

onto_sound : (b : ℕ) (bs : List ℕ) (ts : List Token) → list_all is_sound_token ts ≡ true → list_all is_sound_token (onto b bs ts) ≡ true
unfolding onto
onto_sound b [] ts h = h
onto_sound b (c ∷ cs) [] h = refl
onto_sound b (c ∷ cs) (plain t ∷ ts) h = elim (is_letter c) as (λ x. list_all is_sound_token (cond x (plain (b ∷ t) ∷ ts) (plain (b ∷ []) ∷ plain t ∷ ts)) ≡ true) [ true ↦ h | false ↦ h ]
onto_sound b (c ∷ cs) (equals ∷ ts) h = h
onto_sound b (c ∷ cs) (literal t ∷ ts) h = h

into_sound : (b : ℕ) (ts : List Token) → is_text_byte b ≡ true → list_all is_sound_token ts ≡ true → list_all is_sound_token (into b ts) ≡ true
unfolding into
into_sound b [] t h = refl
into_sound b (plain x ∷ ts) t h = h
into_sound b (equals ∷ ts) t h = h
into_sound b (literal x ∷ ts) t h = ap (λ c. (c && list_all is_text_byte x) && list_all is_sound_token ts) t ∙ h

abbrev printable : ℕ → Bool
printable b = nat_le 32 b && nat_le b 126

text_byte : (b : ℕ) → printable b ≡ true → (b == 34) ≡ false → is_text_byte b ≡ true
text_byte b p q = (λ i. p i && not (q i))

tokens_sound : (inside : Bool) (line : List ℕ) → list_all printable line ≡ true → list_all is_sound_token (tokens inside line) ≡ true
unfolding tokens
tokens_sound true [] h = refl
tokens_sound false [] h = refl
tokens_sound true (b ∷ bs) h =
    let p = and_parts (printable b) (list_all printable bs) h in
    elim (cases_Bool (b == 34)) [
      | inl q ↦ ap (λ x. list_all is_sound_token (cond x (literal [] ∷ tokens false bs) (into b (tokens true bs)))) q ∙ tokens_sound false bs p.1
      | inr q ↦ ap (λ x. list_all is_sound_token (cond x (literal [] ∷ tokens false bs) (into b (tokens true bs)))) q ∙ into_sound b (tokens true bs) (text_byte b p.0 q) (tokens_sound true bs p.1)
    ]
tokens_sound false (b ∷ bs) h =
    let p = and_parts (printable b) (list_all printable bs) h in
    let outside = tokens_sound false bs p.1 in
    by_byte (b == 32) (b == 61) (b == 34) outside (tokens_sound true bs p.1)
  where
    by_byte : (x y z : Bool) → list_all is_sound_token (tokens false bs) ≡ true → list_all is_sound_token (tokens true bs) ≡ true
        → list_all is_sound_token (cond x (tokens false bs) (cond y (equals ∷ tokens false bs) (cond z (tokens true bs) (onto b bs (tokens false bs))))) ≡ true
    by_byte true y z o i = o
    by_byte false true z o i = o
    by_byte false false true o i = i
    by_byte false false false o i = onto_sound b bs (tokens false bs) o

-- the words of a line that is allowed are sound
pub sound_tokens : (line : List ℕ) → is_allowed line ≡ true → list_all is_sound_token (tokens false line) ≡ true
sound_tokens line h = tokens_sound false line (and_parts (list_all printable line) (nat_le (length line) 1000) h).0

abbrev pub all_sound : List Labelled → Bool
all_sound = list_all (λ (w : Labelled). is_sound_token w.word)

sound_by : (t : Token) (left : List Token) (o : Option Start) → is_sound_token t ≡ true → ((s : Start) → all_sound (labels fits s.rest left) ≡ true) → all_sound (by_start o (λ s. labelled s.role t ∷ labels fits s.rest left) []) ≡ true
sound_by t left None h rest = refl
sound_by t left (Some s) h rest = (λ i. h i && rest s i)

pub sound_labels : (left : List Token) (f : Form) → list_all is_sound_token left ≡ true → all_sound (labels fits f left) ≡ true
sound_labels [] f h = refl
sound_labels (t ∷ left) f h =
    let p = and_parts (is_sound_token t) (list_all is_sound_token left) h in
    sound_by t left (start_with fits t (starts f)) p.0 (λ s. sound_labels left s.rest p.1)

pub first_word_sound : (r : Role) (ws : List Labelled) → all_sound ws ≡ true → if_there (first_word r ws) ≡ true
first_word_sound r [] h = refl
first_word_sound r (w ∷ ws) h =
    let p = and_parts (is_sound_token w.word) (all_sound ws) h in
    elim (is r w) as (λ b. if_there (cond b (Some w.word) (first_word r ws)) ≡ true) [ true ↦ p.0 | false ↦ first_word_sound r ws p.1 ]

pub given_sound : (name : List ℕ) (ws : List Labelled) → all_sound ws ≡ true → if_there (given name ws) ≡ true
given_sound name [] h = refl
given_sound name (w ∷ ws) h =
    let p = and_parts (is_sound_token w.word) (all_sound ws) h in
    elim (is role.ItemName w && bytes_eq name (text_of w.word)) as (λ b. if_there (cond b (first_word role.Value ws) (given name ws)) ≡ true) [ true ↦ first_word_sound role.Value ws p.1 | false ↦ given_sound name ws p.1 ]

-- VALUES

spaces : (n : ℕ) → list_all is_text_byte (replicate n 32) ≡ true
spaces zero = refl
spaces (suc n) = spaces n

filled_length : (n : ℕ) (t : List ℕ) → length t ≤ n → length (filled n t) ≡ n
filled_length n t h =
    let a : length (t ++ replicate {A = ℕ} (n - length t) 32) ≡ length t + length (replicate {A = ℕ} (n - length t) 32) = length-append t (replicate (n - length t) 32) in
    let b : length (replicate {A = ℕ} (n - length t) 32) ≡ n - length t = length-replicate (n - length t) 32 in
    omega arith

filled_fits : (n : ℕ) (t : List ℕ) → length t ≤ n → list_all is_text_byte t ≡ true → value_fits (TextPicture n) (Text (filled n t)) ≡ true
filled_fits n t h a = (λ i. eq-eqb _ _ (filled_length n t h) i && (list_all-append is_text_byte t (replicate (n - length t) 32) ∙ (λ j. a j && spaces (n - length t) j)) i)

some_power : (n : ℕ) → 0 < 10 ^ n
some_power zero = omega arith
some_power (suc n) = let h = some_power n in let e : 10 ^ suc n ≡ 10 * 10 ^ n = pow-succ' 10 n in omega arith

blank_fits : (p : Picture) → value_fits p (blank p) ≡ true
blank_fits (Number n) = let h = some_power n in grind (arith, nat_tests)
blank_fits (TextPicture n) = filled_fits n [] (omega arith) refl

spelled_fits : (p : Picture) (t : Token) → is_sound_token t ≡ true → value_fits p (unwrap_or (spelled p t) (blank p)) ≡ true
spelled_fits (Number n) (plain t) h = by_tests (nat_lt (number t) (10 ^ 18)) (nat_lt (number t) (10 ^ n)) refl
  where
    by_tests : (a b : Bool) → nat_lt (number t) (10 ^ n) ≡ b → value_fits (Number n) (unwrap_or (cond (a && b) (Some (Num (number t))) None) (Num 0)) ≡ true
    by_tests true true e = e
    by_tests true false e = blank_fits (Number n)
    by_tests false b e = blank_fits (Number n)
spelled_fits (TextPicture n) (literal t) h = by_length (nat_le (length t) n) refl
  where
    by_length : (b : Bool) → nat_le (length t) n ≡ b → value_fits (TextPicture n) (unwrap_or (cond b (Some (Text (filled n t))) None) (Text (filled n []))) ≡ true
    by_length true e = filled_fits n t (grind (arith, nat_tests)) h
    by_length false e = blank_fits (TextPicture n)
spelled_fits (Number n) equals h = blank_fits (Number n)
spelled_fits (Number n) (literal t) h = blank_fits (Number n)
spelled_fits (TextPicture n) equals h = blank_fits (TextPicture n)
spelled_fits (TextPicture n) (plain t) h = blank_fits (TextPicture n)

-- the value that is made for a picture is of it
pub made_fits : (p : Picture) (o : Option Token) → if_there o ≡ true → value_fits p (value_for p o) ≡ true
made_fits p None h = blank_fits p
made_fits p (Some t) h = spelled_fits p t h
