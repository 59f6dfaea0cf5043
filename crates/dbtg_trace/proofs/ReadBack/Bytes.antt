-- From the words of an accepted line to its bytes: there is no arrow in it, and it does not end in a period.
use Rattle.std.proofs.Common.{◌≡◌, ℕ, suc, ◌+◌, Bool, true, false, not, ◌&&◌, ◌||◌, List, [], ◌∷◌, ◌++◌, length, Option, Some, None, refl, sym, ap, subst, ◌∙◌, arith}
use Rattle.std.specs.Prelude.{◌==◌, if◌then◌else◌, option_map}
use Rattle.std.specs.List.{list_all}
use Rattle.std.proofs.lemmas.Bool.{and_parts, eqb-true}
use Rattle.dbtg_schema.specs.Texts.Spelling.{is_digit}
use Rattle.dbtg_script.specs.Lines.{ends_in_text}
use Rattle.dbtg_script.specs.Moves.{begins_with}
use Rattle.dbtg_script.specs.StatementGrammar.{fits, value}
use Rattle.dbtg_script.specs.Tokens.{Token, plain, equals, literal, into, is_letter, onto, tokens}
use Rattle.dbtg_trace.specs.Parts.{arrow_at, begins_arrow}
use Rattle.dbtg_trace.proofs.ArrowSteps.{not_here}
use Rattle.dbtg_trace.proofs.ReadBack.Grammar.{clear, is_sign_word, some_bytes}

-- ONE MORE BYTE

at_space : (b : ℕ) (bs : List ℕ) → (b == 32) ≡ true → tokens false (b ∷ bs) ≡ tokens false bs
unfolding tokens
at_space b bs e = rw e refl

at_sign : (b : ℕ) (bs : List ℕ) → (b == 32) ≡ false → (b == 61) ≡ true → tokens false (b ∷ bs) ≡ equals ∷ tokens false bs
unfolding tokens
at_sign b bs e f = rw (e, f) refl

at_quote : (b : ℕ) (bs : List ℕ) → (b == 32) ≡ false → (b == 61) ≡ false → (b == 34) ≡ true → tokens false (b ∷ bs) ≡ tokens true bs
unfolding tokens
at_quote b bs e f g = rw (e, f, g) refl

pub at_letter : (b : ℕ) (bs : List ℕ) → (b == 32) ≡ false → (b == 61) ≡ false → (b == 34) ≡ false → tokens false (b ∷ bs) ≡ onto b bs (tokens false bs)
unfolding tokens
at_letter b bs e f g = rw (e, f, g) refl

pub in_quote : (b : ℕ) (bs : List ℕ) → (b == 34) ≡ true → tokens true (b ∷ bs) ≡ literal [] ∷ tokens false bs
unfolding tokens
in_quote b bs e = rw e refl

pub in_text : (b : ℕ) (bs : List ℕ) → (b == 34) ≡ false → tokens true (b ∷ bs) ≡ into b (tokens true bs)
unfolding tokens
in_text b bs e = rw e refl

-- the bytes that begin or end a word: a space, a sign, a quote, or a letter
data Byte (b : ℕ) : Type 0 where
  space : (b == 32) ≡ true → (b == 34) ≡ false → Byte b
  sign : (b == 32) ≡ false → (b == 61) ≡ true → (b == 34) ≡ false → Byte b
  quote : (b == 32) ≡ false → (b == 61) ≡ false → (b == 34) ≡ true → Byte b
  letter : (b == 32) ≡ false → (b == 61) ≡ false → (b == 34) ≡ false → Byte b

byte : (b : ℕ) → Byte b
byte b = by (b == 32) (b == 61) (b == 34) refl refl refl
  where
    by : (x y z : Bool) → (b == 32) ≡ x → (b == 61) ≡ y → (b == 34) ≡ z → Byte b
    by true y z e f g = space e (subst (λ (n : ℕ). (n == 34) ≡ false) (sym (eqb-true b 32 e)) refl)
    by false true z e f g = sign e f (subst (λ (n : ℕ). (n == 34) ≡ false) (sym (eqb-true b 61 f)) refl)
    by false false true e f g = quote e f g
    by false false false e f g = letter e f g

-- NO ARROW

onto_clear : (b : ℕ) (bs : List ℕ) (ts : List Token) → clear false (onto b bs ts) ≡ true → clear false ts ≡ true
unfolding onto
onto_clear b [] ts h = h
onto_clear b (c ∷ cs) [] h = refl
onto_clear b (c ∷ cs) (plain t ∷ ts) h = by (is_letter c) h
  where
    by : (k : Bool) → clear false (if k then plain (b ∷ t) ∷ ts else plain (b ∷ []) ∷ plain t ∷ ts) ≡ true → clear false (plain t ∷ ts) ≡ true
    by true g = g
    by false g = g
onto_clear b (c ∷ cs) (equals ∷ ts) h = h
onto_clear b (c ∷ cs) (literal t ∷ ts) h = h

into_clear : (b : ℕ) (ts : List Token) → clear false (into b ts) ≡ clear false ts
unfolding into
into_clear b [] = refl
into_clear b (plain t ∷ ts) = refl
into_clear b (equals ∷ ts) = refl
into_clear b (literal t ∷ ts) = refl

weaker : (ts : List Token) → clear true ts ≡ true → clear false ts ≡ true
weaker [] h = refl
weaker (t ∷ ts) h = (and_parts (fits value t) (clear (is_sign_word t) ts) h).1

-- after a byte that is not a quote, the bytes are still outside texts; after a quote they are inside one
rest_clear : (inside : Bool) (b : ℕ) (bs : List ℕ) → clear false (tokens inside (b ∷ bs)) ≡ true → clear false (tokens (if b == 34 then not inside else inside) bs) ≡ true
rest_clear true b bs h = by (b == 34) refl
  where
    by : (k : Bool) → (b == 34) ≡ k → clear false (tokens (if k then not true else true) bs) ≡ true
    by true e = ap (clear false) (sym (in_quote b bs e)) ∙ h
    by false e = sym (into_clear b (tokens true bs)) ∙ ap (clear false) (sym (in_text b bs e)) ∙ h
rest_clear false b bs h = by (byte b)
  where
    by : Byte b → clear false (tokens (if b == 34 then not false else false) bs) ≡ true
    by (space e g) = rw g (ap (clear false) (sym (at_space b bs e)) ∙ h)
    by (sign e f g) = rw g (weaker (tokens false bs) (ap (clear false) (sym (at_sign b bs e f)) ∙ h))
    by (quote e f g) = rw g (ap (clear false) (sym (at_quote b bs e f g)) ∙ h)
    by (letter e f g) = rw g (onto_clear b bs (tokens false bs) (ap (clear false) (sym (at_letter b bs e f g)) ∙ h))

-- a word that begins with > is not a value
headed : (t : List ℕ) (ts : List Token) → clear true (plain (62 ∷ t) ∷ ts) ≡ false
headed t ts = ap (λ (k : Bool). k && list_all is_digit (62 ∷ t) && clear false ts) (some_bytes (length t))

not_value : (cs : List ℕ) (ts : List Token) → clear true (onto 62 cs ts) ≡ false
unfolding onto
not_value [] ts = headed [] ts
not_value (c ∷ cs) [] = headed [] []
not_value (c ∷ cs) (plain t ∷ ts) = by (is_letter c)
  where
    by : (k : Bool) → clear true (if k then plain (62 ∷ t) ∷ ts else plain (62 ∷ []) ∷ plain t ∷ ts) ≡ false
    by true = headed t ts
    by false = headed [] (plain t ∷ ts)
not_value (c ∷ cs) (equals ∷ ts) = headed [] (equals ∷ ts)
not_value (c ∷ cs) (literal t ∷ ts) = headed [] (literal t ∷ ts)

no_head : (bs tail : List ℕ) → clear true (tokens false bs) ≡ true → begins_with 62 (bs ++ 32 ∷ tail) ≡ false
no_head [] tail h = refl
no_head (c ∷ cs) tail h = by (c == 62) refl
  where
    by : (k : Bool) → (c == 62) ≡ k → (c == 62) ≡ false
    by false e = e
    by true e =
        let is = eqb-true c 62 e in
        let words = at_letter 62 cs refl refl refl in
        let wrong : true ≡ false = sym (subst (λ (n : ℕ). clear true (tokens false (n ∷ cs)) ≡ true) is h) ∙ ap (clear true) words ∙ not_value cs (tokens false cs) in
        absurd cc

quiet : (inside : Bool) (b : ℕ) (bs tail : List ℕ) → clear false (tokens inside (b ∷ bs)) ≡ true → (not inside && begins_arrow (b ∷ (bs ++ 32 ∷ tail))) ≡ false
quiet true b bs tail h = refl
quiet false b bs tail h = by (byte b)
  where
    next : Bool
    next = begins_with 62 (bs ++ 32 ∷ tail)

    other : (b == 61) ≡ false → (b == 61 && next) ≡ false
    other e = ap (λ (k : Bool). k && next) e

    by : Byte b → (b == 61 && next) ≡ false
    by (space e g) = other (subst (λ (n : ℕ). (n == 61) ≡ false) (sym (eqb-true b 32 e)) refl)
    by (sign e f g) = ap (λ (k : Bool). k && next) f ∙ no_head bs tail (ap (clear false) (sym (at_sign b bs e f)) ∙ h)
    by (quote e f g) = other f
    by (letter e f g) = other f

-- after such bytes, if they leave no text open, the first arrow is the one that follows the space
pub arrow_behind : (inside : Bool) (bs tail : List ℕ) → clear false (tokens inside bs) ≡ true → ends_in_text inside bs ≡ false → arrow_at inside (bs ++ 32 ∷ 61 ∷ 62 ∷ tail) ≡ Some (length bs + 1)
unfolding arrow_at
arrow_behind true [] tail h e = absurd cc
arrow_behind false [] tail h e = refl
arrow_behind inside (b ∷ bs) tail h e =
    let one : suc (length bs + 1) ≡ length (b ∷ bs) + 1 = omega arith in
    not_here inside b (bs ++ 32 ∷ 61 ∷ 62 ∷ tail) (quiet inside b bs (61 ∷ 62 ∷ tail) h)
    ∙ ap (option_map suc) (arrow_behind (if b == 34 then not inside else inside) bs tail (rest_clear inside b bs h) e) ∙ ap (λ (n : ℕ). Some n) one

-- A PERIOD AT THE END

-- the words end with one that ends in a period
abbrev pub EndInPeriod : List Token → Type 0
EndInPeriod ts = (front : List Token) × (t : List ℕ) × (ts ≡ front ++ plain (t ++ 46 ∷ []) ∷ [])

one_more : (t : Token) (ts : List Token) → EndInPeriod ts → EndInPeriod (t ∷ ts)
one_more t ts e = (t ∷ e.0, e.1, ap (λ (xs : List Token). t ∷ xs) e.2)

onto_last : (b : ℕ) (bs : List ℕ) (front : List Token) (t : List ℕ) → EndInPeriod (onto b bs (front ++ plain (t ++ 46 ∷ []) ∷ []))
unfolding onto
onto_last b [] front t = (plain (b ∷ []) ∷ front, t, refl)
onto_last b (c ∷ cs) [] t = by (is_letter c)
  where
    by : (k : Bool) → EndInPeriod (if k then plain (b ∷ (t ++ 46 ∷ [])) ∷ [] else plain (b ∷ []) ∷ plain (t ++ 46 ∷ []) ∷ [])
    by true = ([], b ∷ t, refl)
    by false = (plain (b ∷ []) ∷ [], t, refl)
onto_last b (c ∷ cs) (plain x ∷ front) t = by (is_letter c)
  where
    rest : List Token
    rest = front ++ plain (t ++ 46 ∷ []) ∷ []

    by : (k : Bool) → EndInPeriod (if k then plain (b ∷ x) ∷ rest else plain (b ∷ []) ∷ plain x ∷ rest)
    by true = (plain (b ∷ x) ∷ front, t, refl)
    by false = (plain (b ∷ []) ∷ plain x ∷ front, t, refl)
onto_last b (c ∷ cs) (equals ∷ front) t = (plain (b ∷ []) ∷ equals ∷ front, t, refl)
onto_last b (c ∷ cs) (literal x ∷ front) t = (plain (b ∷ []) ∷ literal x ∷ front, t, refl)

into_last : (b : ℕ) (front : List Token) (t : List ℕ) → EndInPeriod (into b (front ++ plain (t ++ 46 ∷ []) ∷ []))
unfolding into
into_last b [] t = ([], t, refl)
into_last b (plain x ∷ front) t = (plain x ∷ front, t, refl)
into_last b (equals ∷ front) t = (equals ∷ front, t, refl)
into_last b (literal x ∷ front) t = (literal (b ∷ x) ∷ front, t, refl)

with_byte : (inside : Bool) (b : ℕ) (bs : List ℕ) → EndInPeriod (tokens (if b == 34 then not inside else inside) bs) → EndInPeriod (tokens inside (b ∷ bs))
with_byte true b bs h = by (b == 34) refl h
  where
    by : (k : Bool) → (b == 34) ≡ k → EndInPeriod (tokens (if k then not true else true) bs) → EndInPeriod (tokens true (b ∷ bs))
    by true e r = subst EndInPeriod (sym (in_quote b bs e)) (one_more (literal []) (tokens false bs) r)
    by false e r = subst EndInPeriod (ap (into b) (sym r.2) ∙ sym (in_text b bs e)) (into_last b r.0 r.1)
with_byte false b bs h = by (byte b)
  where
    outside : (b == 34) ≡ false → EndInPeriod (tokens false bs)
    outside g = rw g at h

    by : Byte b → EndInPeriod (tokens false (b ∷ bs))
    by (space e g) = subst EndInPeriod (sym (at_space b bs e)) (outside g)
    by (sign e f g) = subst EndInPeriod (sym (at_sign b bs e f)) (one_more equals (tokens false bs) (outside g))
    by (quote e f g) = let r : EndInPeriod (tokens true bs) = rw g at h in subst EndInPeriod (sym (at_quote b bs e f g)) r
    by (letter e f g) =
        let r = outside g in
        subst EndInPeriod (ap (onto b bs) (sym r.2) ∙ sym (at_letter b bs e f g)) (onto_last b bs r.0 r.1)

-- bytes that end in a period outside of a text
pub last_word : (inside : Bool) (bs : List ℕ) → ends_in_text inside (bs ++ 46 ∷ []) ≡ false → EndInPeriod (tokens inside (bs ++ 46 ∷ []))
unfolding tokens onto
last_word true [] e = absurd cc
last_word false [] e = ([], [], refl)
last_word inside (b ∷ bs) e = with_byte inside b (bs ++ 46 ∷ []) (last_word (if b == 34 then not inside else inside) bs e)
