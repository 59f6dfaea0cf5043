-- Which kinds of words come before which in the grammar of statements, and a word of each kind.
use Rattle.std.proofs.Common.{◌≡◌, ℕ, Bool, true, false, cond, not, ◌&&◌, ◌||◌, List, [], ◌∷◌, ◌++◌, map, refl, sym, ap, subst, inl, inr}
use Rattle.std.specs.Prelude.{codes}
use Rattle.std.specs.Str.{bytes_eq}
use Rattle.std.proofs.lemmas.Bool.{and_parts, or_cases}
use Rattle.std.proofs.lemmas.Slice.Eq.{bytes_eq-Decides}
use Rattle.dbtg_schema.specs.Texts.Forms.{nothing, one, both, either, many, followed, followed_by, labelled, may_end, starts, Derives}
use Rattle.dbtg_schema.proofs.Public.{Among, among_append, among_map, bytes_same, from_cond, is_told, not_true}
use Rattle.dbtg_script.specs.Derivations.{is_name}
use Rattle.dbtg_script.specs.Printing.Spelling.{is_signed}
use Rattle.dbtg_script.specs.Tokens.{Token, plain, equals, literal}
use Rattle.dbtg_script.specs.StatementGrammar.{Form, Kind, Labelled, key, other_than, name, equals_sign, signed, keyed, value, fits, statement}
use Rattle.dbtg_script.specs.Inside.StatementGrammar.{Start}

-- any word fits, or any but one
abbrev pub is_any : Kind → Bool
is_any name = true
is_any (other_than a) = true
is_any _ = false

-- this very word fits
abbrev is_key : Kind → Bool
is_key (key a) = true
is_key _ = false

-- a keyword does not fit the kind
abbrev apart_key : List ℕ → Kind → Bool
apart_key a (key b) = not (bytes_eq a b)
apart_key a signed = not (is_signed a)
apart_key a _ = false

-- what fits any word but one does not fit the kind
abbrev apart_other : List ℕ → Kind → Bool
apart_other a (key b) = bytes_eq b a
apart_other a _ = false

-- no word is of both kinds
abbrev apart : Kind → Kind → Bool
apart (key a) k = apart_key a k
apart (other_than a) k = apart_other a k
apart _ k = false

-- no word is of both kinds, or the first is a keyword and the second a name
abbrev pub before : Kind → Kind → Bool
before j k = apart j k || (is_key j && is_any k)

pub statement_is_told : is_told before statement ≡ true
statement_is_told = refl

-- a word of a key is that key
spelled : (a : List ℕ) (t : Token) → fits (key a) t ≡ true → plain a ≡ t
spelled a (plain b) h = ap plain (sym ((bytes_eq-Decides b a).0 h))
spelled a equals h = absurd cc
spelled a (literal b) h = absurd cc

never_key : (a : List ℕ) (k : Kind) → apart_key a k ≡ true → fits k (plain a) ≡ true → ⊥
never_key a (key b) h t = not_true (bytes_eq a b) h t
never_key a signed h t = not_true (is_signed a) h t
never_key a _ h t = absurd cc

never_other : (a : List ℕ) (k : Kind) (t : Token) → apart_other a k ≡ true → fits (other_than a) t ≡ true → fits k t ≡ true → ⊥
never_other a (key b) t h s u = not_true (bytes_eq b a) (subst (λ (z : Token). fits (other_than a) z ≡ true) (sym (spelled b t u)) s) h
never_other a _ t h s u = absurd cc

never : (j k : Kind) (t : Token) → apart j k ≡ true → fits j t ≡ true → fits k t ≡ true → ⊥
never (key a) k t h s u = never_key a k h (subst (λ (z : Token). fits k z ≡ true) (sym (spelled a t s)) u)
never (other_than a) k t h s u = never_other a k t h s u
never _ k t h s u = absurd cc

no_name : (k : Kind) → is_key k ≡ true → is_any k ≡ false
no_name (key a) h = refl
no_name _ h = absurd cc

-- a word that fits both is a keyword of the first, and a name of the second
pub told : (j k : Kind) (t : Token) → before j k ≡ true → fits j t ≡ true → fits k t ≡ true → (is_any j ≡ false) × (is_any k ≡ true)
told j k t h s u = elim (or_cases (apart j k) (is_key j && is_any k) h) [
  | inl c ↦ absurd (never j k t c s u)
  | inr c ↦ let p = and_parts (is_key j) (is_any k) c in (no_name j p.0, p.1)
]

-- ROLES

abbrev agree : Bool → Bool → Bool
agree true b = b
agree false b = not b

agree_is : (a b : Bool) → agree a b ≡ true → a ≡ b
agree_is true true h = refl
agree_is true false h = absurd cc
agree_is false true h = absurd cc
agree_is false false h = refl

-- the role of a word is a name's just where any word fits
abbrev pub are_named : Form → Bool
are_named nothing = true
are_named (one k r) = agree (is_name r) (is_any k)
are_named (both f g) = are_named f && are_named g
are_named (either f g) = are_named f && are_named g
are_named (many f) = are_named f

pub statement_is_named : are_named statement ≡ true
statement_is_named = refl

named_followed : (f g : Form) → are_named f ≡ true → are_named g ≡ true → are_named (followed f g) ≡ true
named_followed nothing g h k = k
named_followed (one j r) g h k = rw (h, k) refl
named_followed (both a b) g h k = rw (h, k) refl
named_followed (either a b) g h k = rw (h, k) refl
named_followed (many a) g h k = rw (h, k) refl

-- a start whose role is a name's just where any word fits, and so what is left after it
abbrev pub IsNamed : Start → Type 0
IsNamed s = (is_name s.role ≡ is_any s.kind) × (are_named s.rest ≡ true)

through : (g : Form) (s : Start) (ss : List Start) → are_named g ≡ true → Among s (map (followed_by g) ss) → ((x : Start) → Among x ss → IsNamed x) → IsNamed s
through g s ss h a each =
    let m = among_map (followed_by g) s ss a in
    let x = each m.0 m.2 in
    subst IsNamed (sym m.1) (x.0, named_followed m.0.rest g x.1 h)

pub named_start : (f : Form) → are_named f ≡ true → (s : Start) → Among s (starts f) → IsNamed s
named_start nothing h s a = absurd a
named_start (one k r) h s (inl e) = subst IsNamed (sym e) (agree_is (is_name r) (is_any k) h, refl)
named_start (one k r) h s (inr a) = absurd a
named_start (both f g) h s a =
    let p = and_parts (are_named f) (are_named g) h in
    elim (among_append s (map (followed_by g) (starts f)) (cond (may_end f) (starts g) []) a) [
      | inl b ↦ through g s (starts f) p.1 b (λ x c. named_start f p.0 x c)
      | inr b ↦ named_start g p.1 s (from_cond (may_end f) s (starts g) b).1
    ]
named_start (either f g) h s a =
    let p = and_parts (are_named f) (are_named g) h in
    elim (among_append s (starts f) (starts g) a) [ inl b ↦ named_start f p.0 s b | inr b ↦ named_start g p.1 s b ]
named_start (many f) h s a = through (many f) s (starts f) h a (λ x c. named_start f h x c)

-- EACH FORM DERIVES SOMETHING

a_word : (k : Kind) → (t : Token) × (fits k t ≡ true)
a_word (key a) = (plain a, bytes_same a)
a_word (other_than []) = (plain (0 ∷ []), refl)
a_word (other_than (b ∷ bs)) = (plain [], refl)
a_word name = (plain [], refl)
a_word equals_sign = (equals, refl)
a_word signed = (plain (codes "1"), refl)
a_word keyed = (plain (codes "A:1"), refl)
a_word value = (literal [], refl)

pub some_words : (f : Form) → (ws : List Labelled) × Derives fits f ws
some_words nothing = ([], refl)
some_words (one k r) = let w = a_word k in (labelled r w.0 ∷ [], (w.0, refl, w.1))
some_words (both f g) = let a = some_words f in let b = some_words g in (a.0 ++ b.0, (a.0, b.0, refl, a.1, b.1))
some_words (either f g) = let a = some_words f in (a.0, inl a.1)
some_words (many f) = ([], ([], refl, tt))
