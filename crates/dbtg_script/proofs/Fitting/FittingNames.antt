-- The names in a line without faults are known, and the statement with their numbers fits.
use Rattle.std.proofs.Common.{◌≡◌, ℕ, suc, ◌+◌, ◌<◌, Bool, true, false, cond, List, [], ◌∷◌, ◌++◌, length, map, Option, Some, None, refl, sym, ap, subst, ◌∙◌, append_assoc, arith}
use Rattle.std.specs.Prelude.{is_none, is_some, nat_lt, unwrap_or}
use Rattle.std.specs.List.{position_from}
use Rattle.std.specs.Str.{bytes_eq}
use Rattle.std.proofs.lemmas.Bool.Decides.{nat_tests}
use Rattle.std.proofs.lemmas.List.{append-nil, length-map}
use Rattle.dbtg_schema.specs.Texts.Forms.{starts, may_end, labelled, start_with, by_start, labels}
use Rattle.dbtg_schema.specs.Lists.{Lists}
use Rattle.dbtg_schema.specs.Lookups.{first}
use Rattle.dbtg_schema.specs.Structure.{place_of}
use Rattle.dbtg_schema.specs.WellFormed.{IsSchema}
use Rattle.dbtg_schema.proofs.Public.{some_from_none}
use Rattle.dbtg_unit.specs.Database.Statements.Fits.{is_area, is_set, is_type}
use Rattle.dbtg_script.specs.declared.fault.Cause.{Cause}
use Rattle.dbtg_script.specs.declared.fault.Cause.TheVariants.{UnexpectedWord, UnknownSet}
use Rattle.dbtg_script.specs.declared.role.Role.TheVariants as role
use Rattle.dbtg_script.specs.Labels.{has, named, text_of}
use Rattle.dbtg_script.specs.Lookups.{area_no, set_no, set_named, type_no}
use Rattle.dbtg_script.specs.StatementFaults.{at_other, end_faults, faults_from, said, set_in, when}
use Rattle.dbtg_script.specs.StatementGrammar.{Form, Labelled, fits}
use Rattle.dbtg_script.specs.Inside.StatementGrammar.{Start}
use Rattle.dbtg_script.specs.Tokens.{Token}
use Rattle.dbtg_script.proofs.Reading.Accepted.{none_rest}
use Rattle.dbtg_script.proofs.Fitting.Derivations.{named_last}

-- WORDS WITHOUT FAULTS

pub none_first : (xs ys : List Cause) → first (xs ++ ys) ≡ None → xs ≡ []
none_first [] ys h = refl
none_first (x ∷ xs) ys h = absurd cc

-- a fault that is not found has no cause
pub not_when : (b : Bool) (c : Cause) → when b c ≡ [] → b ≡ false
not_when true c h = absurd cc
not_when false c h = refl

-- after the words ws none of these words has a fault
abbrev pub EachSaid : Lists → List Labelled → List Labelled → Type 0
EachSaid schema ws [] = Unit {0}
EachSaid schema ws (l ∷ ls) = (said schema ws l.word l.role ≡ []) × EachSaid schema (ws ++ l ∷ []) ls

-- and there is none at the end
abbrev pub Clean : Lists → List Labelled → List Labelled → Type 0
Clean schema ws ls = EachSaid schema ws ls × (first (end_faults schema (ws ++ ls)) ≡ None)

clean_by : (schema : Lists) (t : Token) (left : List Token) (ws : List Labelled) (o : Option Start)
    → ((s : Start) → first (faults_from schema (ws ++ labelled s.role t ∷ []) s.rest left) ≡ None → Clean schema (ws ++ labelled s.role t ∷ []) (labels fits s.rest left))
    → first (by_start o (λ s. said schema ws t s.role ++ faults_from schema (ws ++ labelled s.role t ∷ []) s.rest left) (at_other ws ∷ [])) ≡ None
    → Clean schema ws (by_start o (λ s. labelled s.role t ∷ labels fits s.rest left) [])
clean_by schema t left ws None rest h = absurd cc
clean_by schema t left ws (Some s) rest h =
    let later = faults_from schema (ws ++ labelled s.role t ∷ []) s.rest left in
    let r = rest s (none_rest (said schema ws t s.role) later h) in
    ((none_first (said schema ws t s.role) later h, r.0), subst (λ (z : List Labelled). first (end_faults schema z) ≡ None) (append_assoc ws (labelled s.role t ∷ []) (labels fits s.rest left)) r.1)

at_stop : (b : Bool) (xs : List Cause) → first (cond b xs (UnexpectedWord ∷ [])) ≡ None → first xs ≡ None
at_stop true xs h = h
at_stop false xs h = absurd cc

pub clean : (left : List Token) (schema : Lists) (ws : List Labelled) (f : Form) → first (faults_from schema ws f left) ≡ None → Clean schema ws (labels fits f left)
clean [] schema ws f h = (tt, subst (λ (z : List Labelled). first (end_faults schema z) ≡ None) (sym (append-nil ws)) (at_stop (may_end f) (end_faults schema ws) h))
clean (t ∷ left) schema ws f h = clean_by schema t left ws (start_with fits t (starts f)) (λ s. clean left schema (ws ++ labelled s.role t ∷ []) s.rest) h

pub said_parts : (schema : Lists) (ws xs ys : List Labelled) → EachSaid schema ws (xs ++ ys) → EachSaid schema (ws ++ xs) ys
said_parts schema ws [] ys c = subst (λ (z : List Labelled). EachSaid schema z ys) (sym (append-nil ws)) c
said_parts schema ws (x ∷ xs) ys c = subst (λ (z : List Labelled). EachSaid schema z ys) (append_assoc ws (x ∷ []) xs) (said_parts schema (ws ++ x ∷ []) xs ys c.1)

-- NUMBERS

below : (n : List ℕ) (i : ℕ) (names : List (List ℕ)) (d : ℕ) → d < i + length names → unwrap_or (position_from (bytes_eq n) i names) d < i + length names
below n i [] d h = h
below n i (x ∷ names) d h = elim (bytes_eq n x) as (λ b. unwrap_or (cond b (Some i) (position_from (bytes_eq n) (i + 1) names)) d < i + suc (length names)) [
  | true ↦ omega arith
  | false ↦ let a : d < (i + 1) + length names = omega arith in let r = below n (i + 1) names d a in omega arith
]

pub number_below : {X : Type 0} (name : X → List ℕ) (n : List ℕ) (xs : List X) → 0 < length xs → nat_lt (unwrap_or (place_of n (map name xs)) 0) (length xs) ≡ true
number_below name n xs h =
    let e : length (map name xs) ≡ length xs = rw length-map refl in
    let b = below n 0 (map name xs) 0 (omega arith) in
    grind (arith, nat_tests)

-- a name that is known makes some names
known_some : (n : List ℕ) (i : ℕ) (names : List (List ℕ)) → is_some (position_from (bytes_eq n) i names) ≡ true → 0 < length names
known_some n i [] h = absurd cc
known_some n i (x ∷ names) h = omega arith

pub area_is : (schema : Lists) → IsSchema schema → (n : List ℕ) → is_area schema (area_no schema n) ≡ true
area_is schema sound n = number_below (λ a. a.name) n schema.areas sound.some_area

pub type_is : (schema : Lists) → IsSchema schema → (n : List ℕ) → is_type schema (type_no schema n) ≡ true
type_is schema sound n = number_below (λ r. r.name) n schema.types sound.some_type

pub set_is : (schema : Lists) (n : List ℕ) → is_none (set_named schema n) ≡ false → is_set schema (set_no schema n) ≡ true
set_is schema n h =
    let some = known_some n 0 (map (λ s. s.name) schema.sets) (some_from_none (set_named schema n) h) in
    let e : length (map (λ s. s.name) schema.sets) ≡ length schema.sets = rw length-map refl in
    number_below (λ s. s.name) n schema.sets (omega arith)

-- the set that stands before SET is known
pub set_before : (schema : Lists) (front : List Labelled) (o x k : Token) (rest : List Labelled) → EachSaid schema [] (front ++ labelled role.Plain o ∷ labelled role.Name x ∷ labelled role.KindSet k ∷ rest)
    → has role.Name rest ≡ false → is_set schema (set_in schema (front ++ labelled role.Plain o ∷ labelled role.Name x ∷ labelled role.KindSet k ∷ rest)) ≡ true
set_before schema front o x k rest c none =
    let before = front ++ labelled role.Plain o ∷ labelled role.Name x ∷ [] in
    let at_set = said_parts schema [] front (labelled role.Plain o ∷ labelled role.Name x ∷ labelled role.KindSet k ∷ rest) c in
    let cache = not_when (is_none (set_named schema (named role.Name ((front ++ labelled role.Plain o ∷ []) ++ labelled role.Name x ∷ [])))) UnknownSet at_set.1.1.0 in
    let here : named role.Name ((front ++ labelled role.Plain o ∷ []) ++ labelled role.Name x ∷ []) ≡ text_of x = named_last role.Name (front ++ labelled role.Plain o ∷ []) (labelled role.Name x) [] refl refl in
    let whole : named role.Name (front ++ labelled role.Plain o ∷ labelled role.Name x ∷ labelled role.KindSet k ∷ rest) ≡ text_of x =
    ap (named role.Name) (sym (append_assoc front (labelled role.Plain o ∷ []) (labelled role.Name x ∷ labelled role.KindSet k ∷ rest)))
    ∙ named_last role.Name (front ++ labelled role.Plain o ∷ []) (labelled role.Name x) (labelled role.KindSet k ∷ rest) refl none in
    ap (λ n. is_set schema (set_no schema n)) whole ∙ set_is schema (text_of x) (ap (λ n. is_none (set_named schema n)) (sym here) ∙ cache)
