-- No word that may be the last of an accepted line ends in a period.
use Rattle.std.proofs.Common.{◌≡◌, ℕ, ◌+◌, ◌-◌, ◌<◌, Bool, true, false, cond, ◌&&◌, List, [], ◌∷◌, ◌++◌, length, map, get_or, Option, Some, None, inl, inr, refl, sym, ap, ◌∙◌, arith, true≢false}
use Rattle.std.specs.Prelude.{◌==◌, ◌⊎◌, is_none, if◌then◌else◌, nat_lt}
use Rattle.std.specs.List.{All, list_all, position_from}
use Rattle.std.specs.Str.{bytes_eq}
use Rattle.std.proofs.lemmas.Bool.{and_from, and_parts}
use Rattle.std.proofs.lemmas.List.{length-append}
use Rattle.std.proofs.lemmas.List.Elements.{All-head, All-tail}
use Rattle.std.proofs.lemmas.Slice.Eq.{bytes_eq-Decides}
use Rattle.dbtg_schema.specs.Lists.{Lists}
use Rattle.dbtg_schema.specs.Lookups.{first}
use Rattle.dbtg_schema.specs.Named.{IsNamed}
use Rattle.dbtg_schema.specs.Structure.{place_of}
use Rattle.dbtg_schema.specs.Texts.Forms.{Start, by_start, labelled, may_end, start_with, starts}
use Rattle.dbtg_schema.specs.Texts.Spelling.{is_digit, is_name, is_name_byte}
use Rattle.dbtg_script.specs.declared.fault.Cause.{Cause}
use Rattle.dbtg_script.specs.declared.fault.Cause.TheVariants as cause
use Rattle.dbtg_script.specs.declared.role.Role.{Role}
use Rattle.dbtg_script.specs.declared.role.Role.TheVariants.{AreaName, SetName, SuppressSet, TypeName}
use Rattle.dbtg_script.specs.Lines.{ends_with}
use Rattle.dbtg_script.specs.Printing.Spelling.{behind, has_byte, in_front, is_number, is_signed}
use Rattle.dbtg_script.specs.StatementFaults.{at_other, end_faults, faults_from, said, when}
use Rattle.dbtg_script.specs.StatementGrammar.{Form, Kind, Labelled, key, other_than, name, equals_sign, signed, keyed, value, fits}
use Rattle.dbtg_script.specs.Tokens.{Token, plain}
use Rattle.dbtg_trace.proofs.ReadBack.Grammar.{Each, Ends, end, ended, found, found_fits, may_be_last, none_behind, none_front, off, second_or, some_bytes}

-- THE LAST BYTE

at_end : (xs : List ℕ) (c : ℕ) → get_or (xs ++ c ∷ []) (length xs) 0 ≡ c
at_end [] c = refl
at_end (x ∷ xs) c = at_end xs c

pub ends_at : (xs : List ℕ) (c d : ℕ) → ends_with d (xs ++ c ∷ []) ≡ (c == d)
ends_at [] c d = refl
ends_at (x ∷ xs) c d =
    let long = length-append xs (c ∷ []) in
    let place : length (x ∷ (xs ++ c ∷ [])) - 1 ≡ length (x ∷ xs) = omega (arith, long) in
    ap (λ (b : Bool). b && get_or (x ∷ (xs ++ c ∷ [])) (length (x ∷ (xs ++ c ∷ [])) - 1) 0 == d) (some_bytes (length (xs ++ c ∷ [])))
    ∙ ap (λ (n : ℕ). get_or (x ∷ (xs ++ c ∷ [])) n 0 == d) place ∙ ap (λ (b : ℕ). b == d) (at_end (x ∷ xs) c)

-- there are no bytes, or there is a last one
pub last_of : (xs : List ℕ) → (xs ≡ []) ⊎ ((front : List ℕ) × (c : ℕ) × (xs ≡ front ++ c ∷ []))
last_of [] = inl refl
last_of (x ∷ xs) = elim (last_of xs) [
  | inl e ↦ inr ([], x, ap (λ (ys : List ℕ). x ∷ ys) e)
  | inr e ↦ inr (x ∷ e.0, e.1, ap (λ (ys : List ℕ). x ∷ ys) e.2)
]

and_false : (b : Bool) → (b && false) ≡ false
and_false true = refl
and_false false = refl

-- a test that the last one fails is not passed by all
pub not_all : (p : ℕ → Bool) (xs : List ℕ) (c : ℕ) → p c ≡ false → list_all p (xs ++ c ∷ []) ≡ false
not_all p [] c h = ap (λ (b : Bool). b && true) h
not_all p (x ∷ xs) c h = ap (λ (b : Bool). p x && b) (not_all p xs c h) ∙ and_false (p x)

-- NUMBERS AND KEYS

not_number : (xs : List ℕ) → is_number (xs ++ 46 ∷ []) ≡ false
not_number [] = refl
not_number (x ∷ xs) = ap (λ (b : Bool). b && list_all is_digit (x ∷ (xs ++ 46 ∷ []))) (some_bytes (length (xs ++ 46 ∷ []))) ∙ not_all is_digit (x ∷ xs) 46 refl

no_number_behind : (c : ℕ) (xs : List ℕ) → is_number (behind c (xs ++ 46 ∷ [])) ≡ false
no_number_behind c [] = by (46 == c)
  where
    by : (b : Bool) → is_number (if b then [] else []) ≡ false
    by true = refl
    by false = refl
no_number_behind c (x ∷ xs) = by (x == c) (no_number_behind c xs)
  where
    by : (b : Bool) → is_number (behind c (xs ++ 46 ∷ [])) ≡ false → is_number (if b then xs ++ 46 ∷ [] else behind c (xs ++ 46 ∷ [])) ≡ false
    by true rec = not_number xs
    by false rec = rec

not_signed : (xs : List ℕ) → is_signed (xs ++ 46 ∷ []) ≡ false
not_signed [] = refl
not_signed (x ∷ xs) = by (x == 45)
  where
    by : (b : Bool) → (if b then is_number (xs ++ 46 ∷ []) else is_number (x ∷ (xs ++ 46 ∷ []))) ≡ false
    by true = not_number xs
    by false = not_number (x ∷ xs)

period_there : (xs : List ℕ) → has_byte 46 (xs ++ 46 ∷ []) ≡ true
period_there [] = refl
period_there (x ∷ xs) = second_or (x == 46) (has_byte 46 (xs ++ 46 ∷ [])) (period_there xs)

-- after a colon, too, a period is the last byte, or nothing is left
behind_colon : (xs : List ℕ) → (behind 58 (xs ++ 46 ∷ []) ≡ []) ⊎ ((ys : List ℕ) × (behind 58 (xs ++ 46 ∷ []) ≡ ys ++ 46 ∷ []))
behind_colon [] = inl refl
behind_colon (x ∷ xs) = by (x == 58) (behind_colon xs)
  where
    by : (b : Bool) → ((behind 58 (xs ++ 46 ∷ []) ≡ []) ⊎ ((ys : List ℕ) × (behind 58 (xs ++ 46 ∷ []) ≡ ys ++ 46 ∷ [])))
        → ((if b then xs ++ 46 ∷ [] else behind 58 (xs ++ 46 ∷ [])) ≡ []) ⊎ ((ys : List ℕ) × ((if b then xs ++ 46 ∷ [] else behind 58 (xs ++ 46 ∷ [])) ≡ ys ++ 46 ∷ []))
    by true r = inr (xs, refl)
    by false r = r

-- a key is a name, a number, and what follows them
abbrev key_with : List ℕ → List ℕ → Bool
key_with whole rest = is_number (in_front 46 rest) && (if has_byte 46 rest then is_number (behind 46 rest) else true)

not_key : (xs : List ℕ) → key_with xs (behind 58 (xs ++ 46 ∷ [])) ≡ false
not_key xs = elim (behind_colon xs) [
  | inl e ↦ ap (key_with xs) e
  | inr e ↦ ap (key_with xs) e.1 ∙ ap (λ (b : Bool). is_number (in_front 46 (e.0 ++ 46 ∷ [])) && (if b then is_number (behind 46 (e.0 ++ 46 ∷ [])) else true)) (period_there e.0)
      ∙ ap (λ (b : Bool). is_number (in_front 46 (e.0 ++ 46 ∷ [])) && b) (no_number_behind 46 e.0) ∙ and_false (is_number (in_front 46 (e.0 ++ 46 ∷ [])))
]

-- NAMES

there : {X : Type 0} (word : List ℕ) (spelled : X → List ℕ) (i : ℕ) (xs : List X) → is_none (position_from (bytes_eq word) i (map spelled xs)) ≡ false → All (λ x. is_name (spelled x) ≡ true) xs → is_name word ≡ true
there word spelled i [] h all = absurd cc
there word spelled i (x ∷ xs) h all = by (bytes_eq word (spelled x)) refl h (λ g. there word spelled (i + 1) xs g (All-tail (λ y. is_name (spelled y) ≡ true) x xs all))
  where
    by : (b : Bool) → bytes_eq word (spelled x) ≡ b → is_none (cond b (Some i) (position_from (bytes_eq word) (i + 1) (map spelled xs))) ≡ false
        → (is_none (position_from (bytes_eq word) (i + 1) (map spelled xs)) ≡ false → is_name word ≡ true) → is_name word ≡ true
    by true e g rec = ap is_name ((bytes_eq-Decides word (spelled x)).0 e) ∙ All-head (λ y. is_name (spelled y) ≡ true) x xs all
    by false e g rec = rec g

not_name : (xs : List ℕ) → is_name (xs ++ 46 ∷ []) ≡ true → ⊥
not_name xs h =
    let bytes = (and_parts _ _ (and_parts _ _ (and_parts _ _ h).0).0).1 in
    true≢false (sym bytes ∙ not_all is_name_byte xs 46 refl)

named_one : (o : Option ℕ) (c : Cause) → first (when (is_none o) c) ≡ None → is_none o ≡ false
named_one None c h = absurd cc
named_one (Some n) c h = refl

-- THE LAST WORD

not_last : (schema : Lists) → IsNamed schema → (ws : List Labelled) (t : List ℕ) (k : Kind) (r : Role) → may_be_last k r ≡ true → fits k (plain (t ++ 46 ∷ [])) ≡ true → first (said schema ws (plain (t ++ 46 ∷ [])) r) ≡ None → ⊥
not_last schema named ws t (key k) r h g e =
    let same = (bytes_eq-Decides (t ++ 46 ∷ []) k).0 g in
    true≢false (sym (ends_at t 46 46) ∙ ap (ends_with 46) same ∙ off (ends_with 46 k) h)
not_last schema named ws t (other_than k) r h g e = true≢false (sym h)
not_last schema named ws t name AreaName h g e = not_name t (there (t ++ 46 ∷ []) (λ a. a.name) 0 schema.areas (named_one (place_of (t ++ 46 ∷ []) (map (λ a. a.name) schema.areas)) cause.UnknownArea e) named.areas)
not_last schema named ws t name TypeName h g e = not_name t (there (t ++ 46 ∷ []) (λ a. a.name) 0 schema.types (named_one (place_of (t ++ 46 ∷ []) (map (λ a. a.name) schema.types)) cause.UnknownRecordType e) named.types)
not_last schema named ws t name SetName h g e = not_name t (there (t ++ 46 ∷ []) (λ a. a.name) 0 schema.sets (named_one (place_of (t ++ 46 ∷ []) (map (λ a. a.name) schema.sets)) cause.UnknownSet e) named.sets)
not_last schema named ws t name SuppressSet h g e = not_name t (there (t ++ 46 ∷ []) (λ a. a.name) 0 schema.sets (named_one (place_of (t ++ 46 ∷ []) (map (λ a. a.name) schema.sets)) cause.UnknownSet e) named.sets)
not_last schema named ws t name r h g e = true≢false (sym h)
not_last schema named ws t equals_sign r h g e = true≢false (sym g)
not_last schema named ws t signed r h g e = true≢false (sym g ∙ not_signed t)
not_last schema named ws t keyed r h g e =
    let word = t ++ 46 ∷ [] in
    let after = behind 58 word in
    let spelled = if has_byte 46 after then is_number (behind 46 after) else true in
    let p = and_parts (nat_lt 0 (length (in_front 58 word)) && is_number (in_front 46 after)) spelled g in
    let q = and_parts (nat_lt 0 (length (in_front 58 word))) (is_number (in_front 46 after)) p.0 in
    true≢false (sym (and_from (is_number (in_front 46 after)) spelled q.1 p.1) ∙ not_key t)
not_last schema named ws t value r h g e = true≢false (sym g ∙ not_number t)

may_be_over : (b : Bool) (xs : List Cause) (c : Cause) → first (if b then xs else c ∷ []) ≡ None → b ≡ true
may_be_over true xs c h = refl
may_be_over false xs c h = absurd cc

pub no_period : (schema : Lists) → IsNamed schema → (ws : List Labelled) (w : Form) (front : List Token) (t : List ℕ) → ended w ≡ true → first (faults_from schema ws w (front ++ plain (t ++ 46 ∷ []) ∷ [])) ≡ None → ⊥
no_period schema named ws w [] t h e = by (start_with fits word (starts w)) refl e
  where
    word : Token
    word = plain (t ++ 46 ∷ [])

    by : (o : Option (Start Kind Role)) → start_with fits word (starts w) ≡ o
        → first (by_start o (λ s. said schema ws word s.role ++ faults_from schema (ws ++ labelled s.role word ∷ []) s.rest []) (at_other ws ∷ [])) ≡ None → ⊥
    by None q k = absurd cc
    by (Some s) q k =
        let after = ws ++ labelled s.role word ∷ [] in
        let over = may_be_over (may_end s.rest) (end_faults schema after) cause.UnexpectedWord (none_behind (said schema ws word s.role) (faults_from schema after s.rest []) k) in
        not_last schema named ws t s.kind s.role ((found Ends word (starts w) s q (end w h)).1 over) (found_fits word (starts w) s q) (none_front (said schema ws word s.role) (faults_from schema after s.rest []) k)
no_period schema named ws w (x ∷ front) t h e = by (start_with fits x (starts w)) refl e (λ s k n. no_period schema named (ws ++ labelled s.role x ∷ []) s.rest front t k n)
  where
    left : List Token
    left = front ++ plain (t ++ 46 ∷ []) ∷ []

    by : (o : Option (Start Kind Role)) → start_with fits x (starts w) ≡ o
        → first (by_start o (λ s. said schema ws x s.role ++ faults_from schema (ws ++ labelled s.role x ∷ []) s.rest left) (at_other ws ∷ [])) ≡ None
        → ((s : Start Kind Role) → ended s.rest ≡ true → first (faults_from schema (ws ++ labelled s.role x ∷ []) s.rest left) ≡ None → ⊥) → ⊥
    by None q k rec = absurd cc
    by (Some s) q k rec = rec s (found Ends x (starts w) s q (end w h)).0 (none_behind (said schema ws x s.role) (faults_from schema (ws ++ labelled s.role x ∷ []) s.rest left) k)
