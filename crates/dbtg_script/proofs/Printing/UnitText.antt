-- Units whose printed texts are the same.
use Rattle.std.proofs.Common.{◌≡◌, ℕ, zero, suc, ◌<◌, ◌^◌, Bool, true, false, not, ◌&&◌, ◌||◌, List, [], ◌∷◌, ◌++◌, map, length, Option, Some, None, refl, sym, ap, ◌∙◌, arith, eqb, append_assoc, inl, inr}
use Rattle.std.specs.Prelude.{decimal, codes, nat_lt, option_map, option_and_then, unwrap_or, slice_get, slice_index_or, IfSome, if◌then◌else◌, ◌==◌}
use Rattle.std.specs.List.{flat_map, list_all, All, AllByRecursion}
use Rattle.std.specs.Str.{bytes_eq}
use Rattle.std.proofs.lemmas.Fmt.{decimal_injective}
use Rattle.std.proofs.lemmas.Bool.{and_parts, cases_Bool, eqb-true, ltb-true, lt-ltb, or_parts}
use Rattle.std.proofs.lemmas.Grind.{flat_map-append}
use Rattle.std.proofs.lemmas.List.{append-nil, append_cancel_left, append_cancel_right}
use Rattle.std.proofs.lemmas.List.Elements.{All-head, All-tail}
use Rattle.std.proofs.lemmas.List.Sums.{AllPass-from_list_all}
use Rattle.dbtg_schema.specs.Lists.{Lists}
use Rattle.dbtg_schema.specs.Lookups.{at, some_and}
use Rattle.dbtg_schema.specs.Sound.{IsSound}
use Rattle.dbtg_schema.specs.Named.{IsNamed}
use Rattle.dbtg_schema.specs.Texts.Spelling.{among, is_name, is_name_byte}
use Rattle.dbtg_schema.specs.WellFormed.{distinct, IsSetType}
use Rattle.dbtg_schema.specs.declared.shape.RecordType.{RecordType}
use Rattle.dbtg_schema.specs.declared.shape.SetType.{SetType}
use Rattle.dbtg_schema.proofs.Public.{bytes_same, name_among_append, not_true}
use Rattle.dbtg_cells.specs.declared.key.DbKey.{DbKey}
use Rattle.dbtg_cells.specs.declared.key.Owner.{Owner}
use Rattle.dbtg_cells.specs.declared.key.Owner.TheVariants.{System, Rec}
use Rattle.dbtg_unit.specs.declared.unit.Place.{Place}
use Rattle.dbtg_unit.specs.declared.unit.Unit as unit
use Rattle.dbtg_unit.specs.Database.State.Belongs.{IsUnitOf, is_key_of, is_owner_in, is_place_in}
use Rattle.dbtg_unit.specs.Database.Statements.Fits.{if_named}
use Rattle.dbtg_script.specs.Printing.Spelling.{has_byte, in_front, behind}
use Rattle.dbtg_script.specs.Printing.Texts.{key_text, type_name, generation_text, owner_text, current_text, at_text, place_text, kept_entry, kept_text, unit_text}
use Rattle.dbtg_script.specs.Laws.{IsInRange, key_in_range, owner_in_range, UnitsPrintDifferently}
use Rattle.dbtg_script.proofs.Printing.KeyText.{clear_append, there, front_of, front_all, behind_of, no_digit, number_part, generation_of, generation_part}

-- NAMES

clear_name : (c : ℕ) (w : List ℕ) → is_name_byte c ≡ false → list_all is_name_byte w ≡ true → has_byte c w ≡ false
clear_name c [] other h = refl
clear_name c (b ∷ w) other h = let p = and_parts (is_name_byte b) (list_all is_name_byte w) h in elim (cases_Bool (eqb b c)) [
  | inl t ↦ absurd (let e = sym other ∙ ap is_name_byte (sym (eqb-true b c t)) ∙ p.0 in cc)
  | inr f ↦ rw f (clear_name c w other p.1)
]

clear_word : (c : ℕ) (w : List ℕ) → is_name_byte c ≡ false → is_name w ≡ true → has_byte c w ≡ false
clear_word c w other h = clear_name c w other (and_parts _ _ (and_parts _ _ (and_parts _ _ h).0).0).1

-- the name of the record type with this number
abbrev name_at : List RecordType → ℕ → List ℕ
name_at ts r = unwrap_or (option_map (λ r. r.name) (slice_get ts r)) []

abbrev names : List RecordType → List (List ℕ)
names ts = map (λ r. r.name) ts

is_named : (ts : List RecordType) (r : ℕ) → r < length ts → All (λ t. is_name t.name ≡ true) ts → is_name (name_at ts r) ≡ true
is_named [] r h all = absurd (omega (arith, h))
is_named (t ∷ ts) zero h all = All-head (λ (t : RecordType). is_name t.name ≡ true) t ts all
is_named (t ∷ ts) (suc r) h all = is_named ts r (omega (arith, h)) (All-tail (λ (t : RecordType). is_name t.name ≡ true) t ts all)

stands : (ts : List RecordType) (r : ℕ) → r < length ts → among (name_at ts r) (names ts) ≡ true
stands [] r h = absurd (omega (arith, h))
stands (t ∷ ts) zero h = ap (λ b. b || among t.name (names ts)) (bytes_same t.name)
stands (t ∷ ts) (suc r) h = behind_first (bytes_eq (name_at ts r) t.name) (among (name_at ts r) (names ts)) (stands ts r (omega (arith, h)))
  where
    behind_first : (a b : Bool) → b ≡ true → (a || b) ≡ true
    behind_first true b e = refl
    behind_first false b e = e

one_number : (ts : List RecordType) (i j : ℕ) → i < length ts → j < length ts → distinct bytes_eq (names ts) ≡ true → name_at ts i ≡ name_at ts j → i ≡ j
one_number [] i j hi hj d e = absurd (omega (arith, hi))
one_number (t ∷ ts) zero zero hi hj d e = refl
one_number (t ∷ ts) zero (suc j) hi hj d e =
    absurd (not_true (among t.name (names ts)) (and_parts _ _ d).0 (ap (λ n. among n (names ts)) e ∙ stands ts j (omega (arith, hj))))
one_number (t ∷ ts) (suc i) zero hi hj d e =
    absurd (not_true (among t.name (names ts)) (and_parts _ _ d).0 (ap (λ n. among n (names ts)) (sym e) ∙ stands ts i (omega (arith, hi))))
one_number (t ∷ ts) (suc i) (suc j) hi hj d e = ap suc (one_number ts i j (omega (arith, hi)) (omega (arith, hj)) (and_parts _ _ d).1 e)

distinct_front : (xs ys : List (List ℕ)) → distinct bytes_eq (xs ++ ys) ≡ true → distinct bytes_eq xs ≡ true
distinct_front [] ys d = refl
distinct_front (x ∷ xs) ys d = let p = and_parts (not (among x (xs ++ ys))) (distinct bytes_eq (xs ++ ys)) d in rw (fewer (among x xs) (among x ys) (ap not (sym (name_among_append x xs ys)) ∙ p.0), distinct_front xs ys p.1) refl
  where
    fewer : (a b : Bool) → not (a || b) ≡ true → not a ≡ true
    fewer true b h = absurd cc
    fewer false b h = refl

distinct_back : (xs ys : List (List ℕ)) → distinct bytes_eq (xs ++ ys) ≡ true → distinct bytes_eq ys ≡ true
distinct_back [] ys d = d
distinct_back (x ∷ xs) ys d = distinct_back xs ys (and_parts (not (among x (xs ++ ys))) (distinct bytes_eq (xs ++ ys)) d).1

type_once : (schema : Lists) → IsSound schema → (i j : ℕ) → i < length schema.types → j < length schema.types → type_name schema i ≡ type_name schema j → i ≡ j
type_once schema sound i j hi hj e =
    one_number schema.types i j hi hj (distinct_back (map (λ a. a.name) schema.areas) (names schema.types) (distinct_front (map (λ a. a.name) schema.areas ++ names schema.types) (map (λ s. s.name) schema.sets) sound.names)) e

-- KEYS

-- a key of the schema whose numbers are within their types
record IsKey (schema : Lists) (k : DbKey) : Type 0 where
  cache : k.rtype < length schema.types
  number : k.number < 2 ^ 64
  generation : k.generation < 2 ^ 64

module _ (schema : Lists) (named : IsNamed schema) where
  clear_type : (c : ℕ) (k : DbKey) → is_name_byte c ≡ false → IsKey schema k → has_byte c (type_name schema k.rtype) ≡ false
  clear_type c k other h = clear_word c (type_name schema k.rtype) other (is_named schema.types k.rtype h.cache named.types)

  -- what follows the colon
  abbrev numbers : DbKey → List ℕ
  numbers k = decimal k.number ++ generation_text k.generation

  shape : (k : DbKey) → key_text schema k ≡ type_name schema k.rtype ++ 58 ∷ numbers k
  shape k = append_assoc (type_name schema k.rtype) (58 ∷ decimal k.number) (generation_text k.generation)

  key_once : IsSound schema → (k j : DbKey) → IsKey schema k → IsKey schema j → key_text schema k ≡ key_text schema j → k ≡ j
  key_once sound k j hk hj e =
      let same = sym (shape k) ∙ e ∙ shape j in
      let name = sym (front_of 58 (type_name schema k.rtype) (numbers k) (clear_type 58 k refl hk)) ∙ ap (in_front 58) same ∙ front_of 58 (type_name schema j.rtype) (numbers j) (clear_type 58 j refl hj) in
      let rest = sym (behind_of 58 (type_name schema k.rtype) (numbers k) (clear_type 58 k refl hk)) ∙ ap (behind 58) same ∙ behind_of 58 (type_name schema j.rtype) (numbers j) (clear_type 58 j refl hj) in
      let number = decimal_injective k.number j.number hk.number hj.number (sym (number_part k.number k.generation hk.number) ∙ ap (in_front 46) rest ∙ number_part j.number j.generation hj.number) in
      let generation = sym (generation_part k.number k.generation hk.number hk.generation) ∙ ap (generation_of k.generation) rest ∙ generation_part j.number j.generation hj.number hj.generation in
      let rtype = type_once schema sound k.rtype j.rtype hk.cache hj.cache name in
      λ i. record { rtype = rtype i; number = number i; generation = generation i }

  -- a byte that stands in no name and no number, and is no colon and no period
  clear_key : (c : ℕ) → c < 48 → is_name_byte c ≡ false → has_byte c (58 ∷ 46 ∷ []) ≡ false → (k : DbKey) → IsKey schema k → has_byte c (key_text schema k) ≡ false
  clear_key c small other apart k h =
      let p = or_parts (eqb 58 c) (has_byte c (46 ∷ [])) apart in
      let colon = clear_append c (58 ∷ []) (decimal k.number) (ap (λ b. b || false) p.0) (no_digit c small k.number h.number) in
      clear_append c (type_name schema k.rtype ++ 58 ∷ decimal k.number) (generation_text k.generation) (clear_append c (type_name schema k.rtype) (58 ∷ decimal k.number) (clear_type c k other h) colon) (clear_generation (eqb k.generation 1) p.1)
    where
      clear_generation : (b : Bool) → has_byte c (46 ∷ []) ≡ false → has_byte c (if b then [] else 46 ∷ decimal k.generation) ≡ false
      clear_generation true q = refl
      clear_generation false q = clear_append c (46 ∷ []) (decimal k.generation) q (no_digit c small k.generation h.generation)

  with_colon : (k : DbKey) → IsKey schema k → has_byte 58 (key_text schema k) ≡ true
  with_colon k h = ap (has_byte 58) (shape k) ∙ there 58 (type_name schema k.rtype) (numbers k) (clear_type 58 k refl h)

  -- a key is no other word
  no_key : (w : List ℕ) (k : DbKey) → has_byte 58 w ≡ false → IsKey schema k → w ≡ key_text schema k → ⊥
  no_key w k none h e = let f = sym none ∙ ap (has_byte 58) e ∙ with_colon k h in absurd cc

-- WORDS

-- the words of a line, each after a space
abbrev joined : List (List ℕ) → List ℕ
joined ws = flat_map (λ w. 32 ∷ w) ws

abbrev Clear : List (List ℕ) → Type 0
Clear ws = AllByRecursion (λ w. has_byte 32 w ≡ false) ws

first_word : (w : List ℕ) (ws : List (List ℕ)) → has_byte 32 w ≡ false → in_front 32 (w ++ joined ws) ≡ w
first_word w [] h = ap (in_front 32) (append-nil w) ∙ front_all 32 w h
first_word w (v ∷ ws) h = front_of 32 w (v ++ joined ws) h

words_once : (ws vs : List (List ℕ)) → Clear ws → Clear vs → joined ws ≡ joined vs → ws ≡ vs
words_once [] [] c d e = refl
words_once [] (v ∷ vs) c d e = absurd cc
words_once (w ∷ ws) [] c d e = absurd cc
words_once (w ∷ ws) (v ∷ vs) c d e =
    let tail : w ++ joined ws ≡ v ++ joined vs = cc in
    let same : w ≡ v = sym (first_word w ws c.0) ∙ ap (in_front 32) tail ∙ first_word v vs d.0 in
    let rest = words_once ws vs c.1 d.1 (append_cancel_left v (joined ws) (joined vs) (sym (ap (λ z. z ++ joined ws) same) ∙ tail)) in
    λ i. same i ∷ rest i

clear_both : (ws vs : List (List ℕ)) → Clear ws → Clear vs → Clear (ws ++ vs)
clear_both [] vs c d = d
clear_both (w ∷ ws) vs c d = (c.0, clear_both ws vs c.1 d)

clear_each : {X : Type 0} (word : X → List ℕ) (Q : X → Type 0) → ((x : X) → Q x → has_byte 32 (word x) ≡ false) → (xs : List X) → AllByRecursion Q xs → Clear (map word xs)
clear_each word Q clear [] all = tt
clear_each word Q clear (x ∷ xs) all = (clear x all.0, clear_each word Q clear xs all.1)

-- words that each say what they are of
each_once : {X : Type 0} (word : X → List ℕ) (Q : X → Type 0) → ((x y : X) → Q x → Q y → word x ≡ word y → x ≡ y) → (xs ys : List X) → AllByRecursion Q xs → AllByRecursion Q ys → map word xs ≡ map word ys → xs ≡ ys
each_once word Q once [] [] a b e = refl
each_once word Q once [] (y ∷ ys) a b e = absurd cc
each_once word Q once (x ∷ xs) [] a b e = absurd cc
each_once word Q once (x ∷ xs) (y ∷ ys) a b e =
    let head : word x ≡ word y = cc in
    let tail : map word xs ≡ map word ys = cc in
    let same = once x y a.0 b.0 head in
    let rest = each_once word Q once xs ys a.1 b.1 tail in
    λ i. same i ∷ rest i

-- as many words in front
parted : {X : Type 0} (word : X → List ℕ) (xs ys : List X) (us vs : List (List ℕ)) → length xs ≡ length ys → map word xs ++ us ≡ map word ys ++ vs → (map word xs ≡ map word ys) × (us ≡ vs)
parted word [] [] us vs n e = (refl, e)
parted word [] (y ∷ ys) us vs n e = absurd (omega (arith, n))
parted word (x ∷ xs) [] us vs n e = absurd (omega (arith, n))
parted word (x ∷ xs) (y ∷ ys) us vs n e =
    let head : word x ≡ word y = cc in
    let tail : map word xs ++ us ≡ map word ys ++ vs = cc in
    let rest = parted word xs ys us vs (omega (arith, n)) tail in
    ((λ i. head i ∷ rest.0 i), rest.1)

-- THE WORDS OF A UNIT

abbrev current_word : Lists → Option DbKey → List ℕ
current_word schema None = codes "-"
current_word schema (Some k) = key_text schema k

abbrev place_word : Lists → Option Place → List ℕ
place_word schema None = codes "-"
place_word schema (Some p) = owner_text schema p.owner ++ 47 ∷ at_text schema p.at

abbrev kept_word : Lists → DbKey × ℕ → List ℕ
kept_word schema e = key_text schema e.0 ++ 47 ∷ decimal e.1

abbrev IsCurrent : Lists → Option DbKey → Type 0
IsCurrent schema None = Unit {0}
IsCurrent schema (Some k) = IsKey schema k

abbrev IsOwner : Lists → Owner → Type 0
IsOwner schema System = Unit {0}
IsOwner schema (Rec k) = IsKey schema k

abbrev IsPlace : Lists → Option Place → Type 0
IsPlace schema None = Unit {0}
IsPlace schema (Some p) = IsOwner schema p.owner × IsCurrent schema p.at

abbrev IsKept : Lists → DbKey × ℕ → Type 0
IsKept schema e = IsKey schema e.0 × (e.1 < 2 ^ 64)

module _ (schema : Lists) (named : IsNamed schema) where
  clear_current : (o : Option DbKey) → IsCurrent schema o → has_byte 32 (current_word schema o) ≡ false
  clear_current None h = refl
  clear_current (Some k) h = clear_key schema named 32 (omega arith) refl refl k h

  clear_owner : (c : ℕ) → c < 48 → is_name_byte c ≡ false → has_byte c (58 ∷ 46 ∷ []) ≡ false → has_byte c (codes "SYSTEM") ≡ false → (o : Owner) → IsOwner schema o → has_byte c (owner_text schema o) ≡ false
  clear_owner c small other apart system System h = system
  clear_owner c small other apart system (Rec k) h = clear_key schema named c small other apart k h

  clear_at : (o : Option DbKey) → IsCurrent schema o → has_byte 32 (at_text schema o) ≡ false
  clear_at None h = refl
  clear_at (Some k) h = clear_key schema named 32 (omega arith) refl refl k h

  clear_place : (o : Option Place) → IsPlace schema o → has_byte 32 (place_word schema o) ≡ false
  clear_place None h = refl
  clear_place (Some p) h = clear_append 32 (owner_text schema p.owner) (47 ∷ at_text schema p.at) (clear_owner 32 (omega arith) refl refl refl p.owner h.0) (clear_at p.at h.1)

  clear_kept : (e : DbKey × ℕ) → IsKept schema e → has_byte 32 (kept_word schema e) ≡ false
  clear_kept e h = clear_append 32 (key_text schema e.0) (47 ∷ decimal e.1) (clear_key schema named 32 (omega arith) refl refl e.0 h.0) (no_digit 32 (omega arith) e.1 h.1)

  module _ (sound : IsSound schema) where
    current_once : (o p : Option DbKey) → IsCurrent schema o → IsCurrent schema p → current_word schema o ≡ current_word schema p → o ≡ p
    current_once None None a b e = refl
    current_once None (Some j) a b e = absurd (no_key schema named (codes "-") j refl b e)
    current_once (Some k) None a b e = absurd (no_key schema named (codes "-") k refl a (sym e))
    current_once (Some k) (Some j) a b e = ap Some (key_once schema named sound k j a b e)

    at_once : (o p : Option DbKey) → IsCurrent schema o → IsCurrent schema p → at_text schema o ≡ at_text schema p → o ≡ p
    at_once None None a b e = refl
    at_once None (Some j) a b e = absurd (no_key schema named (codes "OWNER") j refl b e)
    at_once (Some k) None a b e = absurd (no_key schema named (codes "OWNER") k refl a (sym e))
    at_once (Some k) (Some j) a b e = ap Some (key_once schema named sound k j a b e)

    owner_once : (o p : Owner) → IsOwner schema o → IsOwner schema p → owner_text schema o ≡ owner_text schema p → o ≡ p
    owner_once System System a b e = refl
    owner_once System (Rec j) a b e = absurd (no_key schema named (codes "SYSTEM") j refl b e)
    owner_once (Rec k) System a b e = absurd (no_key schema named (codes "SYSTEM") k refl a (sym e))
    owner_once (Rec k) (Rec j) a b e = ap Rec (key_once schema named sound k j a b e)

    -- two words around a slash
    around : (o p xs ys : List ℕ) → has_byte 47 o ≡ false → has_byte 47 p ≡ false → o ++ 47 ∷ xs ≡ p ++ 47 ∷ ys → (o ≡ p) × (xs ≡ ys)
    around o p xs ys a b e = (sym (front_of 47 o xs a) ∙ ap (in_front 47) e ∙ front_of 47 p ys b, sym (behind_of 47 o xs a) ∙ ap (behind 47) e ∙ behind_of 47 p ys b)

    slash : (o : Owner) → IsOwner schema o → has_byte 47 (owner_text schema o) ≡ false
    slash = clear_owner 47 (omega arith) refl refl refl

    -- a place is no hyphen
    no_place : (p : Place) → IsPlace schema (Some p) → codes "-" ≡ place_word schema (Some p) → ⊥
    no_place p h e = let f = ap (has_byte 47) e ∙ there 47 (owner_text schema p.owner) (at_text schema p.at) (slash p.owner h.0) in absurd cc

    place_once : (o p : Option Place) → IsPlace schema o → IsPlace schema p → place_word schema o ≡ place_word schema p → o ≡ p
    place_once None None a b e = refl
    place_once None (Some q) a b e = absurd (no_place q b e)
    place_once (Some p) None a b e = absurd (no_place p a (sym e))
    place_once (Some p) (Some q) a b e =
        let two = around (owner_text schema p.owner) (owner_text schema q.owner) (at_text schema p.at) (at_text schema q.at) (slash p.owner a.0) (slash q.owner b.0) e in
        let owner = owner_once p.owner q.owner a.0 b.0 two.0 in
        let member = at_once p.at q.at a.1 b.1 two.1 in
        λ i. Some (record { owner = owner i; at = member i })

    kept_once : (e f : DbKey × ℕ) → IsKept schema e → IsKept schema f → kept_word schema e ≡ kept_word schema f → e ≡ f
    kept_once e f a b h =
        let two = around (key_text schema e.0) (key_text schema f.0) (decimal e.1) (decimal f.1) (clear_key schema named 47 (omega arith) refl refl e.0 a.0) (clear_key schema named 47 (omega arith) refl refl f.0 b.0) h in
        let key = key_once schema named sound e.0 f.0 a.0 b.0 two.0 in
        let version = decimal_injective e.1 f.1 a.1 b.1 two.1 in
        λ i. (key i, version i)

abbrev kept_words : Lists → List (DbKey × ℕ) → List (List ℕ)
kept_words schema [] = []
kept_words schema (e ∷ es) = codes "KEPT" ∷ map (kept_word schema) (e ∷ es)

abbrev from_areas : Lists → unit.Unit → List (List ℕ)
from_areas schema u = codes "AREA" ∷ (map (current_word schema) u.currency.areas ++ kept_words schema u.kept)

abbrev from_sets : Lists → unit.Unit → List (List ℕ)
from_sets schema u = codes "SET" ∷ (map (place_word schema) u.currency.sets ++ from_areas schema u)

abbrev unit_words : Lists → unit.Unit → List (List ℕ)
unit_words schema u = decimal u.number ∷ codes "RUN" ∷ current_word schema u.currency.run_unit ∷ codes "RECORD" ∷ (map (current_word schema) u.currency.types ++ from_sets schema u)

-- each text is its word after a space
each_spaced : {X : Type 0} (text word : X → List ℕ) → ((x : X) → text x ≡ 32 ∷ word x) → (xs : List X) → flat_map text xs ≡ joined (map word xs)
each_spaced text word same [] = refl
each_spaced text word same (x ∷ xs) = λ i. same x i ++ each_spaced text word same xs i

spaced_current : (schema : Lists) (o : Option DbKey) → current_text schema o ≡ 32 ∷ current_word schema o
spaced_current schema None = refl
spaced_current schema (Some k) = refl

spaced_place : (schema : Lists) (o : Option Place) → place_text schema o ≡ 32 ∷ place_word schema o
spaced_place schema None = refl
spaced_place schema (Some p) = refl

spaced_kept : (schema : Lists) (es : List (DbKey × ℕ)) → kept_text schema es ≡ joined (kept_words schema es)
spaced_kept schema [] = refl
spaced_kept schema (e ∷ es) = ap (λ z. codes " KEPT" ++ z) (each_spaced (kept_entry schema) (kept_word schema) (λ e. refl) (e ∷ es))

-- the parts of a line, grouped from its end
grouped : (n r t s a k : List ℕ)
    → codes "UNIT " ++ n ++ codes " RUN" ++ r ++ codes " RECORD" ++ t ++ codes " SET" ++ s ++ codes " AREA" ++ a ++ k ++ 10 ∷ []
    ≡ (codes "UNIT " ++ (n ++ (codes " RUN" ++ (r ++ (codes " RECORD" ++ (t ++ (codes " SET" ++ (s ++ (codes " AREA" ++ (a ++ k)))))))))) ++ 10 ∷ []
grouped n r t s a k = simp append_assoc refl

joined_words : (schema : Lists) (u : unit.Unit) → unit_text schema u ≡ (codes "UNIT" ++ joined (unit_words schema u)) ++ 10 ∷ []
joined_words schema u =
    let t = map (current_word schema) u.currency.types in
    let s = map (place_word schema) u.currency.sets in
    let a = map (current_word schema) u.currency.areas in
    let k = kept_words schema u.kept in
    let n = decimal u.number in
    let r = current_text schema u.currency.run_unit in
    grouped n r (flat_map (current_text schema) u.currency.types) (flat_map (place_text schema) u.currency.sets) (flat_map (current_text schema) u.currency.areas) (kept_text schema u.kept)
    ∙ (λ i. (codes "UNIT " ++ (n ++ (codes " RUN" ++ (spaced_current schema u.currency.run_unit i ++ (codes " RECORD" ++ (each_spaced (current_text schema) (current_word schema) (spaced_current schema) u.currency.types i
    ++ (codes " SET" ++ (each_spaced (place_text schema) (place_word schema) (spaced_place schema) u.currency.sets i ++ (codes " AREA" ++ (each_spaced (current_text schema) (current_word schema) (spaced_current schema) u.currency.areas i
    ++ spaced_kept schema u.kept i)))))))))) ++ 10 ∷ [])
    ∙ ap (λ z. (codes "UNIT " ++ (n ++ (codes " RUN" ++ ((32 ∷ current_word schema u.currency.run_unit) ++ (codes " RECORD" ++ z))))) ++ 10 ∷ [])
    (ap (λ z. joined t ++ (codes " SET" ++ (joined s ++ (codes " AREA" ++ z)))) (sym (flat_map-append (λ w. 32 ∷ w) a k))
    ∙ ap (λ z. joined t ++ (codes " SET" ++ z)) (sym (flat_map-append (λ w. 32 ∷ w) s (from_areas schema u))) ∙ sym (flat_map-append (λ w. 32 ∷ w) t (from_sets schema u)))

-- WHAT A UNIT OF THE SCHEMA HOLDS

module _ (schema : Lists) where
  is_key : (k : DbKey) → is_key_of schema k ≡ true → key_in_range k ≡ true → IsKey schema k
  is_key k h r =
      let p = and_parts (nat_lt k.number (2 ^ 32)) (nat_lt k.generation (2 ^ 8)) r in
      let n = ltb-true k.number (2 ^ 32) p.0 in
      let g = ltb-true k.generation (2 ^ 8) p.1 in
      record { cache = ltb-true k.rtype (length schema.types) h; number = omega (arith, n); generation = omega (arith, g) }

  is_current : (o : Option DbKey) → if_named (is_key_of schema) o ≡ true → if_named key_in_range o ≡ true → IsCurrent schema o
  is_current None h r = tt
  is_current (Some k) h r = is_key k h r

  -- the current of a record type is of a record type of the schema
  of_type : (t : ℕ) (o : Option DbKey) → t < length schema.types → if_named (λ k. k.rtype == t) o ≡ true → if_named (is_key_of schema) o ≡ true
  of_type t None h same = refl
  of_type t (Some k) h same = ap (λ r. nat_lt r (length schema.types)) (eqb-true k.rtype t same) ∙ lt-ltb t (length schema.types) h

  owner_in : (n t : ℕ) (o : Option ℕ) → IfSome o (λ o. o < n) → some_and (λ o. o == t) o ≡ true → t < n
  owner_in n t None low same = absurd cc
  owner_in n t (Some o) low same = let e = eqb-true o t same in omega (arith, low, e)

  owner_is_type : (sets : List SetType) (s t : ℕ) → All (IsSetType schema) sets → some_and (λ o. o == t) (option_and_then (λ set. set.owner) (slice_get sets s)) ≡ true → t < length schema.types
  owner_is_type [] s t all h = absurd cc
  owner_is_type (x ∷ xs) zero t all h = owner_in (length schema.types) t x.owner (All-head (IsSetType schema) x xs all).owner h
  owner_is_type (x ∷ xs) (suc s) t all h = owner_is_type xs s t (All-tail (IsSetType schema) x xs all) h

  module _ (sound : IsSound schema) where
    is_owner : (s : ℕ) (o : Owner) → is_owner_in schema s o ≡ true → owner_in_range o ≡ true → IsOwner schema o
    is_owner s System h r = tt
    is_owner s (Rec k) h r = is_key k (lt-ltb k.rtype (length schema.types) (owner_is_type schema.sets s k.rtype sound.limits.sets h)) r

    is_place : (s : ℕ) (o : Option Place) → if_named (is_place_in schema s) o ≡ true → if_named (λ p. owner_in_range p.owner && if_named key_in_range p.at) o ≡ true → IsPlace schema o
    is_place s None h r = tt
    is_place s (Some p) h r =
        let a = and_parts (is_owner_in schema s p.owner) (if_named (is_key_of schema) p.at) h in
        let b = and_parts (owner_in_range p.owner) (if_named key_in_range p.at) r in
        (is_owner s p.owner a.0 b.0, is_current p.at a.1 b.1)

    -- what a line of a unit holds
    record Holds (u : unit.Unit) : Type 0 where
      number : u.number < 2 ^ 64
      run_unit : IsCurrent schema u.currency.run_unit
      types : AllByRecursion (IsCurrent schema) u.currency.types
      sets : AllByRecursion (IsPlace schema) u.currency.sets
      areas : AllByRecursion (IsCurrent schema) u.currency.areas
      kept : AllByRecursion (IsKept schema) u.kept

    -- the same for each entry, by its number
    abbrev by_number : {X : Type 0} (Q : X → Type 0) (xs : List X) (d : X) → ((i : ℕ) → i < length xs → Q (slice_index_or xs i d)) → AllByRecursion Q xs
    by_number Q [] d each = tt
    by_number Q (x ∷ xs) d each = (each 0 (omega arith), by_number Q xs d (λ i h. each (suc i) (omega (arith, h))))

    in_list : {X : Type 0} (test : X → Bool) (xs : List X) (i : ℕ) (d : X) → list_all test xs ≡ true → i < length xs → test (slice_index_or xs i d) ≡ true
    in_list test xs i d all h = AllPass-from_list_all test xs all i d h

    holds : (u : unit.Unit) → IsUnitOf schema u → IsInRange u → Holds u
    holds u of range =
        let n = range.number in
        record {
          number = omega (arith, n);
          run_unit = is_current u.currency.run_unit of.run_unit range.run_unit;
          types = by_number (IsCurrent schema) u.currency.types None (λ i h. is_current (at u.currency.types i) (of_type i (at u.currency.types i) (let l = of.every_type in omega (arith, h, l)) (of.of_types i)) (in_list (if_named key_in_range) u.currency.types i None range.types h));
          sets = by_number (IsPlace schema) u.currency.sets None (λ i h. is_place i (at u.currency.sets i) (of.of_sets i) (in_list (if_named (λ p. owner_in_range p.owner && if_named key_in_range p.at)) u.currency.sets i None range.sets h));
          areas = by_number (IsCurrent schema) u.currency.areas None (λ i h. is_current (at u.currency.areas i) (of.of_areas i) (in_list (if_named key_in_range) u.currency.areas i None range.areas h));
          kept = all_kept u.kept of.kept_keys range.kept;
        }
      where
        all_kept : (es : List (DbKey × ℕ)) → list_all (λ e. is_key_of schema e.0) es ≡ true → list_all (λ e. key_in_range e.0 && nat_lt e.1 (2 ^ 64)) es ≡ true → AllByRecursion (IsKept schema) es
        all_kept [] h r = tt
        all_kept (e ∷ es) h r =
            let a = and_parts (is_key_of schema e.0) (list_all (λ e. is_key_of schema e.0) es) h in
            let b = and_parts (key_in_range e.0 && nat_lt e.1 (2 ^ 64)) (list_all (λ e. key_in_range e.0 && nat_lt e.1 (2 ^ 64)) es) r in
            let c = and_parts (key_in_range e.0) (nat_lt e.1 (2 ^ 64)) b.0 in
            ((is_key e.0 a.0 c.0, ltb-true e.1 (2 ^ 64) c.1), all_kept es a.1 b.1)

-- UNITS THAT PRINT THE SAME

module _ (schema : Lists) (named : IsNamed schema) (sound : IsSound schema) where
  clear_words : (u : unit.Unit) → Holds schema sound u → Clear (unit_words schema u)
  clear_words u h = (
    no_digit 32 (omega arith) u.number h.number,
    (
      refl,
      (
        clear_current schema named u.currency.run_unit h.run_unit,
        (
          refl,
          clear_both (map (current_word schema) u.currency.types) (from_sets schema u) (clear_each (current_word schema) (IsCurrent schema) (clear_current schema named) u.currency.types h.types) (
            refl,
            clear_both (map (place_word schema) u.currency.sets) (from_areas schema u) (clear_each (place_word schema) (IsPlace schema) (clear_place schema named) u.currency.sets h.sets) (
              refl,
              clear_both (map (current_word schema) u.currency.areas) (kept_words schema u.kept) (clear_each (current_word schema) (IsCurrent schema) (clear_current schema named) u.currency.areas h.areas) (clear_kept_words u.kept h.kept),
            ),
          ),
        ),
      ),
    ),
  )
    where
      clear_kept_words : (es : List (DbKey × ℕ)) → AllByRecursion (IsKept schema) es → Clear (kept_words schema es)
      clear_kept_words [] all = tt
      clear_kept_words (e ∷ es) all = (refl, clear_each (kept_word schema) (IsKept schema) (clear_kept schema named) (e ∷ es) all)

  kept_lists_once : (es fs : List (DbKey × ℕ)) → AllByRecursion (IsKept schema) es → AllByRecursion (IsKept schema) fs → kept_words schema es ≡ kept_words schema fs → es ≡ fs
  kept_lists_once [] [] a b e = refl
  kept_lists_once [] (f ∷ fs) a b e = absurd cc
  kept_lists_once (e ∷ es) [] a b h = absurd cc
  kept_lists_once (e ∷ es) (f ∷ fs) a b h =
      let tail : map (kept_word schema) (e ∷ es) ≡ map (kept_word schema) (f ∷ fs) = cc in
      each_once (kept_word schema) (IsKept schema) (kept_once schema named sound) (e ∷ es) (f ∷ fs) a b tail

  same_unit : (u v : unit.Unit) → IsUnitOf schema u → IsUnitOf schema v → Holds schema sound u → Holds schema sound v → unit_words schema u ≡ unit_words schema v → (u.number ≡ v.number) × (u.currency ≡ v.currency) × (u.kept ≡ v.kept)
  same_unit u v hu hv a b e =
      let number : decimal u.number ≡ decimal v.number = cc in
      let run : current_word schema u.currency.run_unit ≡ current_word schema v.currency.run_unit = cc in
      let rest : map (current_word schema) u.currency.types ++ from_sets schema u ≡ map (current_word schema) v.currency.types ++ from_sets schema v = cc in
      let t = parted (current_word schema) u.currency.types v.currency.types (from_sets schema u) (from_sets schema v) (hu.every_type ∙ sym hv.every_type) rest in
      let after : map (place_word schema) u.currency.sets ++ from_areas schema u ≡ map (place_word schema) v.currency.sets ++ from_areas schema v = (let z = t.1 in cc) in
      let s = parted (place_word schema) u.currency.sets v.currency.sets (from_areas schema u) (from_areas schema v) (hu.every_set ∙ sym hv.every_set) after in
      let last : map (current_word schema) u.currency.areas ++ kept_words schema u.kept ≡ map (current_word schema) v.currency.areas ++ kept_words schema v.kept = (let z = s.1 in cc) in
      let r = parted (current_word schema) u.currency.areas v.currency.areas (kept_words schema u.kept) (kept_words schema v.kept) (hu.every_area ∙ sym hv.every_area) last in
      let same_run = current_once schema named sound u.currency.run_unit v.currency.run_unit a.run_unit b.run_unit run in
      let same_types = each_once (current_word schema) (IsCurrent schema) (current_once schema named sound) u.currency.types v.currency.types a.types b.types t.0 in
      let same_sets = each_once (place_word schema) (IsPlace schema) (place_once schema named sound) u.currency.sets v.currency.sets a.sets b.sets s.0 in
      let same_areas = each_once (current_word schema) (IsCurrent schema) (current_once schema named sound) u.currency.areas v.currency.areas a.areas b.areas r.0 in (
        decimal_injective u.number v.number a.number b.number number,
        (λ i. record { run_unit = same_run i; types = same_types i; areas = same_areas i; sets = same_sets i }),
        kept_lists_once u.kept v.kept a.kept b.kept r.1,
      )

pub printed_unit : UnitsPrintDifferently
printed_unit schema sound named u v hu hv ru rv e =
    let a = holds schema sound u hu ru in
    let b = holds schema sound v hv rv in
    let line = append_cancel_right (codes "UNIT" ++ joined (unit_words schema u)) (codes "UNIT" ++ joined (unit_words schema v)) (10 ∷ []) (sym (joined_words schema u) ∙ e ∙ joined_words schema v) in
    let words = words_once (unit_words schema u) (unit_words schema v) (clear_words schema named sound u a) (clear_words schema named sound v b) (append_cancel_left (codes "UNIT") (joined (unit_words schema u)) (joined (unit_words schema v)) line) in
    same_unit schema named sound u v hu hv a b words
