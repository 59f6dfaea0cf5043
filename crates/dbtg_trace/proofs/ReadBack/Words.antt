-- The words of printed bytes: letters up to a byte that is not one are a word, and so are bytes between quotes.
use Rattle.std.proofs.Common.{◌≡◌, ℕ, ◌+◌, ◌*◌, ◌-◌, ◌/◌, ◌%◌, ◌^◌, ◌<◌, ◌≤◌, Bool, true, false, not, ◌&&◌, ◌||◌, List, [], ◌∷◌, ◌++◌, length, refl, ap, ◌∙◌, arith}
use Rattle.std.specs.Prelude.{◌==◌, decimal, if◌then◌else◌, nat_lt}
use Rattle.std.specs.List.{list_all}
use Rattle.std.proofs.lemmas.Bool.{and_from, and_parts}
use Rattle.std.proofs.lemmas.Bool.Decides.{nat_tests}
use Rattle.std.proofs.lemmas.Fmt.{decimal_by_steps}
use Rattle.std.proofs.lemmas.List.Folds.{list_all-append}
use Rattle.dbtg_schema.specs.Texts.Spelling.{is_digit}
use Rattle.dbtg_script.specs.Lines.{ends_in_text}
use Rattle.dbtg_script.specs.Printing.Spelling.{is_number}
use Rattle.dbtg_script.specs.Tokens.{Token, plain, equals, literal, into, is_letter, onto, tokens}
use Rattle.dbtg_trace.proofs.ReadBack.Bytes.{at_letter, in_quote, in_text}
use Rattle.dbtg_trace.proofs.ReadBack.Grammar.{off, some_bytes}

-- TESTS OF BYTES

pub all_append : (p : ℕ → Bool) (xs ys : List ℕ) → list_all p xs ≡ true → list_all p ys ≡ true → list_all p (xs ++ ys) ≡ true
all_append p xs ys a b = list_all-append p xs ys ∙ and_from (list_all p xs) (list_all p ys) a b

-- what passes one test passes another that follows from it
pub all_imply : (p q : ℕ → Bool) → ((b : ℕ) → p b ≡ true → q b ≡ true) → (xs : List ℕ) → list_all p xs ≡ true → list_all q xs ≡ true
all_imply p q f [] h = refl
all_imply p q f (x ∷ xs) h = let k = and_parts (p x) (list_all p xs) h in and_from (q x) (list_all q xs) (f x k.0) (all_imply p q f xs k.1)

digit_next : (n : ℕ) → n < 10 → is_digit (48 + n) ≡ true
digit_next n h = grind (arith, nat_tests)

-- the digits of a number
pub all_digits : (n : ℕ) → n < 2 ^ 64 → is_number (decimal n) ≡ true
all_digits =
    decimal_by_steps (λ n ds. is_number ds ≡ true) (λ n h. and_from _ _ refl (and_from _ _ (digit_next n h) refl))
    (λ n ds h g. more ds (48 + n % 10) (and_parts (nat_lt 0 (length ds)) (list_all is_digit ds) g).1 (digit_next (n % 10) (omega arith)))
  where
    some : (ds : List ℕ) (d : ℕ) → nat_lt 0 (length (ds ++ d ∷ [])) ≡ true
    some [] d = refl
    some (x ∷ ds) d = some_bytes (length (ds ++ d ∷ []))

    more : (ds : List ℕ) (d : ℕ) → list_all is_digit ds ≡ true → is_digit d ≡ true → is_number (ds ++ d ∷ []) ≡ true
    more ds d a b = and_from _ _ (some ds d) (all_append is_digit ds (d ∷ []) a (and_from (is_digit d) true b refl))

pub digits : (n : ℕ) → n < 2 ^ 64 → list_all is_digit (decimal n) ≡ true
digits n h = (and_parts (nat_lt 0 (length (decimal n))) (list_all is_digit (decimal n)) (all_digits n h)).1

pub digit_is_letter : (b : ℕ) → is_digit b ≡ true → is_letter b ≡ true
digit_is_letter b h = grind (arith, nat_tests, h)

-- A WORD

-- the first byte does not belong to a word
abbrev pub apart : List ℕ → Bool
apart [] = true
apart (c ∷ cs) = not (is_letter c)

onto_apart : (b : ℕ) (rest : List ℕ) (ts : List Token) → apart rest ≡ true → onto b rest ts ≡ plain (b ∷ []) ∷ ts
unfolding onto
onto_apart b [] ts h = refl
onto_apart b (c ∷ cs) [] h = refl
onto_apart b (c ∷ cs) (plain t ∷ ts) h = ap (λ (k : Bool). if k then plain (b ∷ t) ∷ ts else plain (b ∷ []) ∷ plain t ∷ ts) (off (is_letter c) h)
onto_apart b (c ∷ cs) (equals ∷ ts) h = refl
onto_apart b (c ∷ cs) (literal t ∷ ts) h = refl

onto_joined : (b c : ℕ) (cs t : List ℕ) (ts : List Token) → is_letter c ≡ true → onto b (c ∷ cs) (plain t ∷ ts) ≡ plain (b ∷ t) ∷ ts
unfolding onto
onto_joined b c cs t ts h = ap (λ (k : Bool). if k then plain (b ∷ t) ∷ ts else plain (b ∷ []) ∷ plain t ∷ ts) h

letter_first : (b : ℕ) (bs : List ℕ) → is_letter b ≡ true → tokens false (b ∷ bs) ≡ onto b bs (tokens false bs)
letter_first b bs h =
    let p = and_parts _ _ h in
    let q = and_parts _ _ p.0 in
    at_letter b bs (off (b == 32) q.0) (off (b == 61) q.1) (off (b == 34) p.1)

pub word_first : (b : ℕ) (bs rest : List ℕ) → list_all is_letter (b ∷ bs) ≡ true → apart rest ≡ true → tokens false (b ∷ (bs ++ rest)) ≡ plain (b ∷ bs) ∷ tokens false rest
word_first b [] rest h a =
    let p = and_parts (is_letter b) true h in
    letter_first b rest p.0 ∙ onto_apart b rest (tokens false rest) a
word_first b (c ∷ cs) rest h a =
    let p = and_parts (is_letter b) (list_all is_letter (c ∷ cs)) h in
    let q = and_parts (is_letter c) (list_all is_letter cs) p.1 in
    letter_first b (c ∷ (cs ++ rest)) p.0 ∙ ap (onto b (c ∷ (cs ++ rest))) (word_first c cs rest p.1 a) ∙ onto_joined b c (cs ++ rest) (c ∷ cs) (tokens false rest) q.0

-- one or more letters, up to a byte that is not one
pub word_of : (w rest : List ℕ) → nat_lt 0 (length w) ≡ true → list_all is_letter w ≡ true → apart rest ≡ true → tokens false (w ++ rest) ≡ plain w ∷ tokens false rest
word_of [] rest some h a = absurd cc
word_of (b ∷ bs) rest some h a = word_first b bs rest h a

pub behind_space : (bs : List ℕ) → tokens false (32 ∷ bs) ≡ tokens false bs
unfolding tokens
behind_space bs = refl

pub behind_equals : (bs : List ℕ) → tokens false (61 ∷ bs) ≡ equals ∷ tokens false bs
unfolding tokens
behind_equals bs = refl

-- A TEXT

in_literal : (t rest : List ℕ) → list_all (λ b. not (b == 34)) t ≡ true → tokens true (t ++ 34 ∷ rest) ≡ literal t ∷ tokens false rest
unfolding into
in_literal [] rest h = in_quote 34 rest refl
in_literal (b ∷ bs) rest h =
    let p = and_parts (not (b == 34)) (list_all (λ c. not (c == 34)) bs) h in
    in_text b (bs ++ 34 ∷ rest) (off (b == 34) p.0) ∙ ap (into b) (in_literal bs rest p.1)

opened : (bs : List ℕ) → tokens false (34 ∷ bs) ≡ tokens true bs
unfolding tokens
opened bs = refl

pub text_of : (t rest : List ℕ) → list_all (λ b. not (b == 34)) t ≡ true → tokens false (34 ∷ (t ++ 34 ∷ rest)) ≡ literal t ∷ tokens false rest
text_of t rest h = opened (t ++ 34 ∷ rest) ∙ in_literal t rest h

-- CLOSED BYTES

pub ends_behind : (inside : Bool) (xs ys : List ℕ) → ends_in_text inside (xs ++ ys) ≡ ends_in_text (ends_in_text inside xs) ys
ends_behind inside [] ys = refl
ends_behind inside (x ∷ xs) ys = ends_behind (if x == 34 then not inside else inside) xs ys

-- bytes without a quote end inside a text exactly if they began inside one
pub ends_as_begun : (inside : Bool) (xs : List ℕ) → list_all (λ b. not (b == 34)) xs ≡ true → ends_in_text inside xs ≡ inside
ends_as_begun inside [] h = refl
ends_as_begun inside (x ∷ xs) h =
    let p = and_parts (not (x == 34)) (list_all (λ c. not (c == 34)) xs) h in
    ap (λ (k : Bool). ends_in_text (if k then not inside else inside) xs) (off (x == 34) p.0) ∙ ends_as_begun inside xs p.1

pub letter_is_no_quote : (b : ℕ) → is_letter b ≡ true → not (b == 34) ≡ true
letter_is_no_quote b h = (and_parts _ _ h).1
