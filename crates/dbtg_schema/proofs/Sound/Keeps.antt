-- A schema that is read keeps to what it must.
use Rattle.std.proofs.Common.{◌≡◌, ℕ, zero, suc, ◌+◌, ◌<◌, ◌≤◌, Bool, true, false, cond, not, ◌&&◌, ◌||◌, List, [], ◌∷◌, length, map, Option, Some, None, refl, arith}
use Rattle.std.specs.Prelude.{filter, unwrap_or, IfSome, nat_le, ◌==◌}
use Rattle.std.specs.List.{list_any, list_all, All, AllByRecursion, position_from}
use Rattle.std.specs.Str.{bytes_eq}
use Rattle.std.proofs.lemmas.List.{length-map}
use Rattle.std.proofs.lemmas.List.Elements.{All-nil, All-cons}
use Rattle.std.proofs.lemmas.Bool.Decides.{nat_tests}
use Rattle.dbtg_schema.specs.declared.fault.Cause.TheVariants.{NoItems}
use Rattle.dbtg_schema.specs.declared.role.Role.{Role}
use Rattle.dbtg_schema.specs.declared.role.Role.TheVariants as role
use Rattle.dbtg_schema.specs.declared.shape.Picture.{Picture}
use Rattle.dbtg_schema.specs.declared.shape.Picture.TheVariants.{Number, Text}
use Rattle.dbtg_schema.specs.declared.shape.Area.{Area}
use Rattle.dbtg_schema.specs.declared.shape.Item.{Item}
use Rattle.dbtg_schema.specs.declared.shape.RecordType.{RecordType}
use Rattle.dbtg_schema.specs.declared.shape.Member.{Member}
use Rattle.dbtg_schema.specs.Lists.{Lists}
use Rattle.dbtg_schema.specs.Texts.Spelling.{spelled_picture, sized, of_size, in_parentheses}
use Rattle.dbtg_schema.specs.Texts.Forms.{Derives, labels}
use Rattle.dbtg_schema.specs.Texts.SchemaGrammar.{Labelled, fits, schema}
use Rattle.dbtg_schema.specs.Texts.Labels.{is, count_of, named, until, entries, first_named}
use Rattle.dbtg_schema.specs.Texts.SchemaFaults.{when, fault, calc_faults}
use Rattle.dbtg_schema.specs.Texts.SchemaLists.{has, number_of, area_from, areas_from, item_from, items_from, calc_items_from, calc_from, record_type_from, types_from, items_at, key_from, type_named, member_from, owner_from, set_from, schema_of}
use Rattle.dbtg_schema.specs.Texts.Words.{Word}
use Rattle.dbtg_schema.specs.Inside.Reading.{WithinLimits, verdict}
use Rattle.dbtg_schema.proofs.Forms.Accepted.{derived}
use Rattle.dbtg_schema.proofs.Forms.Walks.{clean}
use Rattle.dbtg_schema.specs.WellFormed.{IsPicture, IsCalc, IsRecordType, IsSetType, IsSchema}
use Rattle.dbtg_schema.proofs.Indexes.Places.{length_mapped}
use Rattle.dbtg_schema.proofs.Sound.Limits.{both_nil, not_when, within_limits}
use Rattle.dbtg_schema.proofs.Sound.Closings.{Closed, each_ends, ends_well}
use Rattle.dbtg_schema.proofs.Forms.Grammar.{some_area, some_type, some_members, HasMember}

-- what follows from the entry holds of what is made of it
pub all_made : {X : Type 0} (P : X → Type 0) (Q : List Labelled → Type 0) (f : List Labelled → X) (es : List (List Labelled)) → ((e : List Labelled) → Q e → P (f e)) → AllByRecursion Q es → All P (map f es)
all_made P Q f [] each h = All-nil P
all_made P Q f (e ∷ es) each h = All-cons P (f e) (map f es) (each e h.0) (all_made P Q f es each h.1)

all_of : {X Y : Type 0} (P : Y → Type 0) (f : X → Y) (xs : List X) → ((x : X) → P (f x)) → All P (map f xs)
all_of P f [] each = All-nil P
all_of P f (x ∷ xs) each = All-cons P (f x) (map f xs) (each x) (all_of P f xs each)

two : (P Q : List Labelled → Type 0) (es : List (List Labelled)) → AllByRecursion P es → AllByRecursion Q es → AllByRecursion (λ e. P e × Q e) es
two P Q [] p q = tt
two P Q (e ∷ es) p q = ((p.0, q.0), two P Q es p.1 q.1)

found_below : (t : List ℕ → Bool) (i : ℕ) (names : List (List ℕ)) (n : ℕ) → n < i + length names → unwrap_or (position_from t i names) n < i + length names
found_below t i [] n h = h
found_below t i (x ∷ names) n h = elim (t x) as (λ b. unwrap_or (cond b (Some i) (position_from t (i + 1) names)) n < i + suc (length names)) [
  | true ↦ omega arith
  | false ↦ let a : n < (i + 1) + length names = omega arith in let r = found_below t (i + 1) names n a in omega arith
]

-- a number of a name is below the number of names, where there are some
number_below : {X : Type 0} (name : X → List ℕ) (n : List ℕ) (xs : List X) → 0 < length xs → number_of n (map name xs) < length xs
number_below name n xs h =
    let e : length (map name xs) ≡ length xs = rw length-map refl in
    let a : 0 < 0 + length (map name xs) = omega arith in
    let b = found_below (bytes_eq n) 0 (map name xs) 0 a in
    omega arith

of_size_ok : (c n : ℕ) → IfSome (of_size c n) IsPicture
of_size_ok c n = by_tests (c == 57 && nat_le 1 n && nat_le n 18) (c == 88 && nat_le 1 n && nat_le n 64) refl refl
  where
    by_tests : (a b : Bool) → (c == 57 && nat_le 1 n && nat_le n 18) ≡ a → (c == 88 && nat_le 1 n && nat_le n 64) ≡ b → IfSome (cond a (Some (Number n)) (cond b (Some (Text n)) None)) IsPicture
    by_tests true b h k = below (c == 57) (nat_le 1 n) (nat_le n 18) h refl refl
      where
        below : (x y z : Bool) → (x && y && z) ≡ true → nat_le 1 n ≡ y → nat_le n 18 ≡ z → (1 ≤ n) × (n ≤ 18)
        below true true true h p q = (grind (arith, nat_tests), grind (arith, nat_tests))
        below true true false h p q = absurd cc
        below true false z h p q = absurd cc
        below false y z h p q = absurd cc
    by_tests false true h k = below (c == 88) (nat_le 1 n) (nat_le n 64) k refl refl
      where
        below : (x y z : Bool) → (x && y && z) ≡ true → nat_le 1 n ≡ y → nat_le n 64 ≡ z → (1 ≤ n) × (n ≤ 64)
        below true true true h p q = (grind (arith, nat_tests), grind (arith, nat_tests))
        below true true false h p q = absurd cc
        below true false z h p q = absurd cc
        below false y z h p q = absurd cc
    by_tests false false h k = tt

spelled_ok : (w : List ℕ) → IfSome (spelled_picture w) IsPicture
spelled_ok [] = tt
spelled_ok (c ∷ w) = elim (in_parentheses w) as (λ o. IfSome (sized c w o) IsPicture) [
  | Some n ↦ of_size_ok c n
  | None ↦ elim (list_all (λ b. b == c) w) as (λ b. IfSome (cond b (of_size c (length w + 1)) None) IsPicture) [ true ↦ of_size_ok c (length w + 1) | false ↦ tt ]
]

item_ok : (e : List Labelled) → IsPicture (item_from e).picture
item_ok e = picture (spelled_picture (first_named role.Picture e)) (spelled_ok (first_named role.Picture e))
  where
    picture : (o : Option Picture) → IfSome o IsPicture → IsPicture (unwrap_or o (Number 1))
    picture None h = (omega arith, omega arith)
    picture (Some p) h = h

any_counted : (r : Role) (ws : List Labelled) → list_any (is r) ws ≡ true → 0 < count_of r ws
any_counted r [] h = absurd cc
any_counted r (w ∷ ws) h = step (is r w) (list_any (is r) ws) h (λ k. any_counted r ws k)
  where
    step : (a b : Bool) → (a || b) ≡ true → (b ≡ true → 0 < length (filter (is r) ws)) → 0 < length (cond a (w ∷ filter (is r) ws) (filter (is r) ws))
    step true b h k = omega arith
    step false b h k = k h

count_more : (r : Role) (w : Labelled) (ws : List Labelled) → count_of r ws ≤ count_of r (w ∷ ws)
count_more r w ws = elim (is r w) as (λ b. count_of r ws ≤ length (cond b (w ∷ filter (is r) ws) (filter (is r) ws))) [ true ↦ omega arith | false ↦ omega arith ]

-- a record type that is closed has items
some_item : (e : List Labelled) → Closed e → 0 < count_of role.ItemEntry e
some_item [] h = absurd h
some_item (w ∷ ws) h =
    let p = both_nil (when (not (list_any (is role.ItemEntry) ws)) (fault NoItems w.word.line)) (calc_faults (named role.ItemName ws) [] (filter (is role.CalcItem) ws)) h in
    let q = any_counted role.ItemEntry ws (was_true (list_any (is role.ItemEntry) ws) (not_when (not (list_any (is role.ItemEntry) ws)) (fault NoItems w.word.line) p.0)) in
    let m = count_more role.ItemEntry w ws in
    omega arith
  where
    was_true : (b : Bool) → not b ≡ false → b ≡ true
    was_true true h = refl
    was_true false h = absurd cc

calc_ok : (items : List Item) (e : List Labelled) → 0 < length items → count_of role.CalcItem e ≤ 4 → IfSome (calc_from items e) (λ c. IsCalc (length items) c)
calc_ok items e some few = by_case (has role.CalcItem e) refl
  where
    by_case : (b : Bool) → has role.CalcItem e ≡ b → IfSome (cond b (Some (record { items = calc_items_from items e; duplicates_allowed = not (has role.Unique e) })) None) (λ c. IsCalc (length items) c)
    by_case true h =
        let n : length (calc_items_from items e) ≡ count_of role.CalcItem e = rw (length-map, length-map) refl in
        let m = any_counted role.CalcItem e h in
        record {
          some_item = omega arith;
          items_limit = omega arith;
          in_range = all_of (λ i. i < length items) (λ n. number_of n (map (λ i. i.name) items)) (named role.CalcItem e) (λ n. number_below (λ (i : Item). i.name) n items some);
        }
    by_case false h = tt

abbrev TypeFacts : List Labelled → Type 0
TypeFacts e = (count_of role.ItemEntry e ≤ 16) × ((count_of role.CalcItem e ≤ 4) × Closed e)

type_ok : (s : Lists) (e : List Labelled) → 0 < length s.areas → TypeFacts e → IsRecordType s (record_type_from s.areas e)
type_ok s e areas h =
    let n = length_mapped item_from role.ItemEntry e in
    let m = some_item e h.1.1 in
    let some : 0 < length (items_from e) = omega arith in
    record {
      area = number_below (λ (a : Area). a.name) (first_named role.WithinArea e) s.areas areas;
      some_item = some;
      items_limit = let k = h.0 in omega arith;
      pictures = all_of (λ (i : Item). IsPicture i.picture) item_from (entries role.ItemEntry e) item_ok;
      calc = calc_ok (items_from e) e some h.1.0;
    }

items_some : (types : List RecordType) (t : ℕ) → All (λ r. 0 < length r.items) types → t < length types → 0 < length (items_at types t)
items_some [] t all lt = absurd (omega arith)
items_some (r ∷ types) zero all lt = all 0 r (omega arith)
items_some (r ∷ types) (suc t) all lt = items_some types t (λ k d h. all (suc k) d (omega arith)) (omega arith)

key_ok : (types : List RecordType) (t : ℕ) (e : List Labelled) → 0 < length (items_at types t) → IfSome (key_from types t e) (λ i. i < length (items_at types t))
key_ok types t e some = elim (has role.KeyItem e) as (λ b. IfSome (cond b (Some (number_of (first_named role.KeyItem e) (map (λ i. i.name) (items_at types t)))) None) (λ i. i < length (items_at types t))) [
  | true ↦ number_below (λ (i : Item). i.name) (first_named role.KeyItem e) (items_at types t) some
  | false ↦ tt
]

owner_ok : (types : List RecordType) (e : List Labelled) → 0 < length types → IfSome (owner_from types e) (λ o. o < length types)
owner_ok types e some = elim (has role.OwnerName e) as (λ b. IfSome (cond b (Some (type_named types role.OwnerName e)) None) (λ o. o < length types)) [
  | true ↦ number_below (λ (r : RecordType). r.name) (first_named role.OwnerName e) types some
  | false ↦ tt
]

abbrev SetFacts : List Labelled → Type 0
SetFacts e = (count_of role.MemberEntry e ≤ 4) × HasMember e

set_ok : (s : Lists) (e : List Labelled) → 0 < length s.types → All (λ r. 0 < length r.items) s.types → SetFacts e → IsSetType s (set_from s.types e)
set_ok s e some items h =
    let n = length_mapped (member_from s.types) role.MemberEntry e in
    let below = λ (m : List Labelled). number_below (λ (r : RecordType). r.name) (first_named role.MemberName m) s.types some in
    record {
      owner = owner_ok s.types e some;
      some_member = let k = h.1 in omega arith;
      members_limit = let k = h.0 in omega arith;
      member_types = all_of (λ (m : Member). m.rtype < length s.types) (member_from s.types) (entries role.MemberEntry e) below;
      key_items = all_of (λ (m : Member). IfSome m.key (λ i. i < length (items_at s.types m.rtype))) (member_from s.types) (entries role.MemberEntry e)
          (λ m. key_ok s.types (type_named s.types role.MemberName m) m (items_some s.types (type_named s.types role.MemberName m) items (below m)));
    }

-- the schema of words that are derived, are within the limits, and have record types at whose ends nothing is wrong
pub is_schema : (ws : List Labelled) → Derives fits schema ws → WithinLimits ws → AllByRecursion Closed (entries role.RecordEntry (until role.SetEntry ws)) → IsSchema (schema_of ws)
is_schema ws d h closed =
    let na = length_mapped area_from role.AreaEntry ws in
    let nt = length_mapped (record_type_from (areas_from ws)) role.RecordEntry (until role.SetEntry ws) in
    let ns = length_mapped (set_from (types_from (areas_from ws) ws)) role.SetEntry ws in
    let a = some_area ws d in
    let t = some_type ws d in
    let la = h.areas in
    let lt = h.types in
    let ls = h.sets in
    let areas : 0 < length (areas_from ws) = omega arith in
    let types : 0 < length (types_from (areas_from ws) ws) = omega arith in
    let facts = two (λ e. count_of role.ItemEntry e ≤ 16) (λ e. (count_of role.CalcItem e ≤ 4) × Closed e) (entries role.RecordEntry (until role.SetEntry ws)) h.items
    (two (λ e. count_of role.CalcItem e ≤ 4) Closed (entries role.RecordEntry (until role.SetEntry ws)) h.calc closed) in
    let items = all_made (λ (r : RecordType). 0 < length r.items) Closed (record_type_from (areas_from ws)) (entries role.RecordEntry (until role.SetEntry ws))
    (λ e c. let n = length_mapped item_from role.ItemEntry e in let m = some_item e c in omega arith) closed in
    record {
      some_area = areas;
      areas_limit = omega arith;
      some_type = types;
      types_limit = omega arith;
      sets_limit = omega arith;
      types = all_made (IsRecordType (schema_of ws)) TypeFacts (record_type_from (areas_from ws)) (entries role.RecordEntry (until role.SetEntry ws)) (λ e f. type_ok (schema_of ws) e areas f) facts;
      sets = all_made (IsSetType (schema_of ws)) SetFacts (set_from (types_from (areas_from ws) ws)) (entries role.SetEntry ws) (λ e f. set_ok (schema_of ws) e types items f)
          (two (λ e. count_of role.MemberEntry e ≤ 4) HasMember (entries role.SetEntry ws) h.members (some_members ws d));
    }

-- the schema of a text without faults
pub accepted_is_schema : (left : List Word) (end : ℕ) → verdict end [] schema left ≡ None → IsSchema (schema_of (labels fits schema left))
accepted_is_schema left end h =
    let c = clean left end [] schema h in
    is_schema (labels fits schema left) (derived left end [] schema h) (within_limits (labels fits schema left) c) (each_ends [] (labels fits schema left) refl c (ends_well left end [] schema h))
