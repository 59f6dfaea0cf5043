-- What the grammar of statements says of the signs and of the last word of an accepted line: a value follows each sign =, and a word
-- that may be any name is never the last.
use Rattle.std.proofs.Common.{◌≡◌, ℕ, suc, arith, Bool, true, false, not, ◌&&◌, ◌||◌, List, [], ◌∷◌, ◌++◌, map, Option, Some, None, refl, ap, subst, ◌∙◌}
use Rattle.std.specs.Prelude.{if◌then◌else◌, nat_lt}
use Rattle.std.proofs.lemmas.Bool.Decides.{nat_tests}
use Rattle.std.specs.List.{list_all}
use Rattle.std.proofs.lemmas.Bool.{and_from, and_parts}
use Rattle.dbtg_schema.specs.Lists.{Lists}
use Rattle.dbtg_schema.specs.Lookups.{first}
use Rattle.dbtg_schema.specs.Texts.Forms.{Start, nothing, one, both, either, many, by_start, followed, followed_by, labelled, may_end, start_with, starts}
use Rattle.dbtg_script.specs.declared.fault.Cause.{Cause}
use Rattle.dbtg_script.specs.declared.role.Role.{Role}
use Rattle.dbtg_script.specs.declared.role.Role.TheVariants.{AreaName, SetName, SuppressSet, TypeName}
use Rattle.dbtg_script.specs.Lines.{ends_with}
use Rattle.dbtg_script.specs.StatementFaults.{at_other, faults_from, said}
use Rattle.dbtg_script.specs.StatementGrammar.{Form, Kind, Labelled, key, other_than, name, equals_sign, signed, keyed, value, fits, is_equals, is_value}
use Rattle.dbtg_script.specs.Tokens.{Token, plain, equals, literal}

-- P holds of each start
abbrev pub Each : (Start Kind Role → Type 0) → List (Start Kind Role) → Type 0
Each P [] = Unit {0}
Each P (s ∷ ss) = P s × Each P ss

each_append : (P : Start Kind Role → Type 0) (xs ys : List (Start Kind Role)) → Each P xs → Each P ys → Each P (xs ++ ys)
each_append P [] ys a b = b
each_append P (x ∷ xs) ys a b = (a.0, each_append P xs ys a.1 b)

each_where : (P : Start Kind Role → Type 0) (b : Bool) (xs : List (Start Kind Role)) → Each P xs → Each P (if b then xs else [])
each_where P true xs a = a
each_where P false xs a = tt

pub off : (b : Bool) → not b ≡ true → b ≡ false
off true h = absurd cc
off false h = refl

pub some_bytes : (n : ℕ) → nat_lt 0 (suc n) ≡ true
some_bytes n = grind (arith, nat_tests)

-- A SIGN AND ITS VALUE

-- the form is the sign =
abbrev is_sign : Form → Bool
is_sign nothing = false
is_sign (one k r) = is_equals k
is_sign (both f g) = false
is_sign (either f g) = false
is_sign (many f) = false

-- a value must come here
abbrev pub wants_value : Form → Bool
wants_value w = not (may_end w) && list_all (λ (s : Start Kind Role). is_value s.kind) (starts w)

-- a value follows directly after each sign =
abbrev pub valued : Form → Bool
valued nothing = true
valued (one k r) = not (is_equals k)
valued (both f g) = valued g && (valued f || (is_sign f && wants_value g))
valued (either f g) = valued f && valued g
valued (many f) = valued f

-- the same holds after this start; and if the start is a sign =, a value must follow it
abbrev pub Keeps : Start Kind Role → Type 0
Keeps s = (valued s.rest ≡ true) × (is_equals s.kind ≡ true → wants_value s.rest ≡ true)

kinds_stay : (g : Form) (ss : List (Start Kind Role)) → list_all (λ (s : Start Kind Role). is_value s.kind) (map (followed_by g) ss ++ []) ≡ list_all (λ (s : Start Kind Role). is_value s.kind) ss
kinds_stay g [] = refl
kinds_stay g (s ∷ ss) = ap (λ (b : Bool). is_value s.kind && b) (kinds_stay g ss)

both_wants : (r g : Form) → wants_value r ≡ true → wants_value (both r g) ≡ true
both_wants r g h =
    let p = and_parts (not (may_end r)) (list_all (λ (s : Start Kind Role). is_value s.kind) (starts r)) h in
    rw (off (may_end r) p.0) (kinds_stay g (starts r) ∙ p.1)

followed_wants : (r g : Form) → wants_value r ≡ true → wants_value (followed r g) ≡ true
followed_wants nothing g h = absurd cc
followed_wants (one k r) g h = both_wants (one k r) g h
followed_wants (both f e) g h = both_wants (both f e) g h
followed_wants (either f e) g h = both_wants (either f e) g h
followed_wants (many f) g h = both_wants (many f) g h

both_valued : (r g : Form) → valued r ≡ true → valued g ≡ true → valued (both r g) ≡ true
both_valued r g h k = rw (h, k) refl

followed_valued : (r g : Form) → valued r ≡ true → valued g ≡ true → valued (followed r g) ≡ true
followed_valued nothing g h k = k
followed_valued (one kind r) g h k = both_valued (one kind r) g h k
followed_valued (both f e) g h k = both_valued (both f e) g h k
followed_valued (either f e) g h k = both_valued (either f e) g h k
followed_valued (many f) g h k = both_valued (many f) g h k

kept_behind : (g : Form) → valued g ≡ true → (ss : List (Start Kind Role)) → Each Keeps ss → Each Keeps (map (followed_by g) ss)
kept_behind g h [] all = tt
kept_behind g h (s ∷ ss) all = ((followed_valued s.rest g all.0.0 h, λ q. followed_wants s.rest g (all.0.1 q)), kept_behind g h ss all.1)

sign_first : (f g : Form) → valued g ≡ true → is_sign f ≡ true → wants_value g ≡ true → Each Keeps (map (followed_by g) (starts f))
sign_first nothing g h sign wants = absurd cc
sign_first (one k r) g h sign wants = ((h, λ q. wants), tt)
sign_first (both f e) g h sign wants = absurd cc
sign_first (either f e) g h sign wants = absurd cc
sign_first (many f) g h sign wants = absurd cc

in_front : (f g : Form) (b : Bool) → valued f ≡ b → valued g ≡ true → (b || (is_sign f && wants_value g)) ≡ true → (valued f ≡ true → Each Keeps (starts f)) → Each Keeps (map (followed_by g) (starts f))
in_front f g true e h k rec = kept_behind g h (starts f) (rec e)
in_front f g false e h k rec = let p = and_parts (is_sign f) (wants_value g) k in sign_first f g h p.0 p.1

pub keep : (w : Form) → valued w ≡ true → Each Keeps (starts w)
keep nothing h = tt
keep (one k r) h = ((refl, λ q. let none = off (is_equals k) h in absurd cc), tt)
keep (both f g) h =
    let p = and_parts (valued g) (valued f || (is_sign f && wants_value g)) h in
    each_append Keeps (map (followed_by g) (starts f)) (if may_end f then starts g else []) (in_front f g (valued f) refl p.0 p.1 (λ e. keep f e))
    (each_where Keeps (may_end f) (starts g) (keep g p.0))
keep (either f g) h = let p = and_parts (valued f) (valued g) h in each_append Keeps (starts f) (starts g) (keep f p.0) (keep g p.1)
keep (many f) h = kept_behind (many f) h (starts f) (keep f h)

-- THE LAST WORD

-- names that are looked for in the schema as they are met
abbrev is_looked_for : Role → Bool
is_looked_for AreaName = true
is_looked_for SetName = true
is_looked_for SuppressSet = true
is_looked_for TypeName = true
is_looked_for _ = false

-- a word of this kind and role may be the last: it ends in no period
abbrev pub may_be_last : Kind → Role → Bool
may_be_last (key k) r = not (ends_with 46 k)
may_be_last (other_than k) r = false
may_be_last name r = is_looked_for r
may_be_last equals_sign r = true
may_be_last signed r = true
may_be_last keyed r = true
may_be_last value r = true

-- each word that may come last may be the last
abbrev pub ended : Form → Bool
ended nothing = true
ended (one k r) = may_be_last k r
ended (both f g) = ended g && (ended f || not (may_end g))
ended (either f g) = ended f && ended g
ended (many f) = ended f

abbrev pub Ends : Start Kind Role → Type 0
Ends s = (ended s.rest ≡ true) × (may_end s.rest ≡ true → may_be_last s.kind s.role ≡ true)

both_ended : (r g : Form) → ended g ≡ true → (ended r || not (may_end g)) ≡ true → ended (both r g) ≡ true
both_ended r g h k = and_from (ended g) (ended r || not (may_end g)) h k

first_or : (a b : Bool) → a ≡ true → (a || b) ≡ true
first_or true b h = refl
first_or false b h = absurd cc

pub second_or : (a b : Bool) → b ≡ true → (a || b) ≡ true
second_or true b h = refl
second_or false b h = h

followed_ended : (r g : Form) → ended g ≡ true → (ended r || not (may_end g)) ≡ true → ended (followed r g) ≡ true
followed_ended nothing g h k = h
followed_ended (one kind r) g h k = both_ended (one kind r) g h k
followed_ended (both f e) g h k = both_ended (both f e) g h k
followed_ended (either f e) g h k = both_ended (either f e) g h k
followed_ended (many f) g h k = both_ended (many f) g h k

-- if a form followed by another may end, both may end
followed_ends : (r g : Form) → may_end (followed r g) ≡ true → (may_end r ≡ true) × (may_end g ≡ true)
followed_ends nothing g h = (refl, h)
followed_ends (one kind r) g h = absurd cc
followed_ends (both f e) g h = and_parts (may_end (both f e)) (may_end g) h
followed_ends (either f e) g h = and_parts (may_end (either f e)) (may_end g) h
followed_ends (many f) g h = (refl, h)

ends_behind : (g : Form) → ended g ≡ true → (ss : List (Start Kind Role)) → Each Ends ss → Each Ends (map (followed_by g) ss)
ends_behind g h [] all = tt
ends_behind g h (s ∷ ss) all =
    ((followed_ended s.rest g h (first_or (ended s.rest) (not (may_end g)) all.0.0), λ q. all.0.1 (followed_ends s.rest g q).0), ends_behind g h ss all.1)

goes_on : (g : Form) → ended g ≡ true → may_end g ≡ false → (ss : List (Start Kind Role)) → Each Ends (map (followed_by g) ss)
goes_on g h more [] = tt
goes_on g h more (s ∷ ss) =
    ((followed_ended s.rest g h (second_or (ended s.rest) (not (may_end g)) (ap not more)), λ q. let last = (followed_ends s.rest g q).1 in absurd cc), goes_on g h more ss)

ends_in_front : (f g : Form) (b : Bool) → ended f ≡ b → ended g ≡ true → (b || not (may_end g)) ≡ true → (ended f ≡ true → Each Ends (starts f)) → Each Ends (map (followed_by g) (starts f))
ends_in_front f g true e h k rec = ends_behind g h (starts f) (rec e)
ends_in_front f g false e h k rec = goes_on g h (off (may_end g) k) (starts f)

pub end : (w : Form) → ended w ≡ true → Each Ends (starts w)
end nothing h = tt
end (one k r) h = ((refl, λ q. h), tt)
end (both f g) h =
    let p = and_parts (ended g) (ended f || not (may_end g)) h in
    each_append Ends (map (followed_by g) (starts f)) (if may_end f then starts g else []) (ends_in_front f g (ended f) refl p.0 p.1 (λ e. end f e))
    (each_where Ends (may_end f) (starts g) (end g p.0))
end (either f g) h = let p = and_parts (ended f) (ended g) h in each_append Ends (starts f) (starts g) (end f p.0) (end g p.1)
end (many f) h = ends_behind (many f) h (starts f) (end f h)

-- THE START THAT A WORD FITS

pub found : (P : Start Kind Role → Type 0) (t : Token) (ss : List (Start Kind Role)) (s : Start Kind Role) → start_with fits t ss ≡ Some s → Each P ss → P s
found P t [] s e all = absurd cc
found P t (x ∷ ss) s e all = by (fits x.kind t) e (λ q. found P t ss s q all.1)
  where
    by : (b : Bool) → (if b then Some x else start_with fits t ss) ≡ Some s → (start_with fits t ss ≡ Some s → P s) → P s
    by true q rec = let same : x ≡ s = cc in subst P same all.0
    by false q rec = rec q

pub found_fits : (t : Token) (ss : List (Start Kind Role)) (s : Start Kind Role) → start_with fits t ss ≡ Some s → fits s.kind t ≡ true
found_fits t [] s e = absurd cc
found_fits t (x ∷ ss) s e = by (fits x.kind t) refl e (λ q. found_fits t ss s q)
  where
    by : (b : Bool) → fits x.kind t ≡ b → (if b then Some x else start_with fits t ss) ≡ Some s → (start_with fits t ss ≡ Some s → fits s.kind t ≡ true) → fits s.kind t ≡ true
    by true h q rec = let same : x ≡ s = cc in subst (λ (y : Start Kind Role). fits y.kind t ≡ true) same h
    by false h q rec = rec q

found_value : (t : Token) (ss : List (Start Kind Role)) (s : Start Kind Role) → start_with fits t ss ≡ Some s → list_all (λ (x : Start Kind Role). is_value x.kind) ss ≡ true → is_value s.kind ≡ true
found_value t [] s e all = absurd cc
found_value t (x ∷ ss) s e all =
    let p = and_parts (is_value x.kind) (list_all (λ (y : Start Kind Role). is_value y.kind) ss) all in
    by (fits x.kind t) e p.0 (λ q. found_value t ss s q p.1)
  where
    by : (b : Bool) → (if b then Some x else start_with fits t ss) ≡ Some s → is_value x.kind ≡ true → (start_with fits t ss ≡ Some s → is_value s.kind ≡ true) → is_value s.kind ≡ true
    by true q h rec = let same : x ≡ s = cc in subst (λ (y : Start Kind Role). is_value y.kind ≡ true) same h
    by false q h rec = rec q

-- WORDS OF AN ACCEPTED LINE

abbrev pub is_sign_word : Token → Bool
is_sign_word (plain t) = false
is_sign_word equals = true
is_sign_word (literal t) = false

-- a value follows each sign =; the flag says that a sign comes just before
abbrev pub clear : Bool → List Token → Bool
clear sign [] = true
clear sign (t ∷ ts) = (not sign || fits value t) && clear (is_sign_word t) ts

value_word : (k : Kind) (t : Token) → is_value k ≡ true → fits k t ≡ true → fits value t ≡ true
value_word (key k) t h g = absurd cc
value_word (other_than k) t h g = absurd cc
value_word name t h g = absurd cc
value_word equals_sign t h g = absurd cc
value_word signed t h g = absurd cc
value_word keyed t h g = absurd cc
value_word value t h g = g

sign_word : (k : Kind) (t : Token) → is_sign_word t ≡ true → fits k t ≡ true → is_equals k ≡ true
sign_word k (plain t) h g = absurd cc
sign_word k equals h g = g
sign_word k (literal t) h g = absurd cc

behind_sign : (b v : Bool) → (b ≡ true → v ≡ true) → (not b || v) ≡ true
behind_sign true v h = h refl
behind_sign false v h = refl

pub none_front : (xs ys : List Cause) → first (xs ++ ys) ≡ None → first xs ≡ None
none_front [] ys h = refl
none_front (x ∷ xs) ys h = absurd cc

pub none_behind : (xs ys : List Cause) → first (xs ++ ys) ≡ None → first ys ≡ None
none_behind [] ys h = h
none_behind (x ∷ xs) ys h = absurd cc

pub words_clear : (schema : Lists) (ws : List Labelled) (w : Form) (ts : List Token) (b : Bool) → valued w ≡ true → (b ≡ true → wants_value w ≡ true) → first (faults_from schema ws w ts) ≡ None → clear b ts ≡ true
words_clear schema ws w [] b h g e = refl
words_clear schema ws w (t ∷ ts) b h g e = by (start_with fits t (starts w)) refl e (λ s k m n. words_clear schema (ws ++ labelled s.role t ∷ []) s.rest ts (is_sign_word t) k m n)
  where
    by : (o : Option (Start Kind Role)) → start_with fits t (starts w) ≡ o
        → first (by_start o (λ s. said schema ws t s.role ++ faults_from schema (ws ++ labelled s.role t ∷ []) s.rest ts) (at_other ws ∷ [])) ≡ None
        → ((s : Start Kind Role) → valued s.rest ≡ true → (is_sign_word t ≡ true → wants_value s.rest ≡ true) → first (faults_from schema (ws ++ labelled s.role t ∷ []) s.rest ts) ≡ None → clear (is_sign_word t) ts ≡ true)
        → clear b (t ∷ ts) ≡ true
    by None q k rec = absurd cc
    by (Some s) q k rec =
        let kept = found Keeps t (starts w) s q (keep w h) in
        let fit = found_fits t (starts w) s q in
        let more = none_behind (said schema ws t s.role) (faults_from schema (ws ++ labelled s.role t ∷ []) s.rest ts) k in
        let is = λ (sign : b ≡ true). value_word s.kind t (found_value t (starts w) s q (and_parts (not (may_end w)) (list_all (λ (x : Start Kind Role). is_value x.kind) (starts w)) (g sign)).1) fit in
        and_from (not b || fits value t) (clear (is_sign_word t) ts) (behind_sign b (fits value t) is)
        (rec s kept.0 (λ sign. kept.1 (sign_word s.kind t sign fit)) more)
