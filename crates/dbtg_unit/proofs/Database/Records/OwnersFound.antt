-- Whose list has a record: what `owner_of` finds in a legal database.
use Rattle.std.proofs.Common.{◌≡◌, refl, sym, ◌∙◌, ap, subst, ℕ, zero, suc, ◌+◌, ◌<◌, ◌≤◌, Bool, true, false, cond, List, [], ◌∷◌, Option, Some, None, map, length, arith, eqb, inl, inr, ◌⊎◌, ⊎_elim}
use Rattle.std.specs.Prelude.{is_none, slice_get, option_and_then, is_some, option_map, unwrap_or, filter}
use Rattle.std.specs.List.{find, range_with_len}
use Rattle.std.proofs.lemmas.Bool.{false_from_ne_true, cases_lt, and_parts, cases_Bool, eqb-true, false≢true}
use Rattle.dbtg_schema.specs.Lists.{Lists}
use Rattle.dbtg_schema.specs.Lookups.{some_and}
use Rattle.dbtg_schema.specs.Structure.{is_system, owner_type, owns}
use Rattle.dbtg_cells.specs.declared.key.DbKey.{DbKey}
use Rattle.dbtg_cells.specs.declared.key.Owner.{Owner}
use Rattle.dbtg_cells.specs.declared.key.Owner.TheVariants.{System, Rec}
use Rattle.dbtg_cells.proofs.Public.{index_within}
use Rattle.dbtg_unit.specs.Database.State.Base.{Database, is_live, key_at, live_keys, owners, members_of, is_member, owner_of}
use Rattle.dbtg_unit.specs.Database.State.Legal.{Legal, has_occurrence}
use Rattle.dbtg_unit.specs.Database.State.Cells.{owner_at}
use Rattle.dbtg_unit.specs.Database.State.CellNames.{place_of}

-- an element of a list
abbrev pub Has : {X : Type 0} → X → List X → Type 0
Has x [] = ⊥
Has x (y ∷ ys) = (x ≡ y) ⊎ Has x ys

pub has_map : {X Y : Type 0} (f : X → Y) (x : X) (xs : List X) → Has x xs → Has (f x) (map f xs)
has_map f x [] h = h
has_map f x (y ∷ ys) (inl h) = inl (ap f h)
has_map f x (y ∷ ys) (inr h) = inr (has_map f x ys h)

pub has_filter : {X : Type 0} (p : X → Bool) (x : X) (xs : List X) → p x ≡ true → Has x xs → Has x (filter p xs)
has_filter p x [] passes h = h
has_filter p x (y ∷ ys) passes (inl h) = subst (λ b. Has x (cond b (y ∷ filter p ys) (filter p ys))) (sym (ap p (sym h) ∙ passes)) (inl h)
has_filter p x (y ∷ ys) passes (inr h) =
    elim (p y) as (λ b. Has x (cond b (y ∷ filter p ys) (filter p ys))) [
      | true ↦ inr (has_filter p x ys passes h)
      | false ↦ has_filter p x ys passes h
    ]

-- the first element that passes is found where one passes, and passes
pub find_passes : {X : Type 0} (p : X → Bool) (x : X) (xs : List X) → Has x xs → p x ≡ true → (y : X) × (find p xs ≡ Some y) × (p y ≡ true)
find_passes p x [] h passes = absurd h
find_passes p x (y ∷ ys) (inl h) passes = (y, subst (λ b. cond b (Some y) (find p ys) ≡ Some y) (sym (ap p (sym h) ∙ passes)) refl, ap p (sym h) ∙ passes)
find_passes p x (y ∷ ys) (inr h) passes =
    elim (cases_Bool (p y)) [
      | inl e ↦ (y, subst (λ b. cond b (Some y) (find p ys) ≡ Some y) (sym e) refl, e)
      | inr e ↦
          let found = find_passes p x ys h passes in
          (found.0, ap (λ b. cond b (Some y) (find p ys)) e ∙ found.1, found.2)
    ]

pub find_none : {X : Type 0} (p : X → Bool) (xs : List X) → ((x : X) → p x ≡ false) → find p xs ≡ None
find_none p [] h = refl
find_none p (x ∷ xs) h = ap (λ b. cond b (Some x) (find p xs)) (h x) ∙ find_none p xs h

has_range : (from count n : ℕ) → from ≤ n → n < from + count → Has n (range_with_len from count)
has_range from zero n low high = absurd (omega (arith, low, high))
has_range from (suc count) n low high =
    ⊎_elim
    (λ h. inr (has_range (from + 1) count n (omega (arith, h)) (omega (arith, high))))
    (λ h. inl (omega (arith, h, low)))
    (cases_lt from n)

-- a live key is its number's latest, and among the live keys of its type
pub latest : (schema : Lists) (capacity : ℕ) (db : Database) → Legal schema capacity db → (k : DbKey) → is_live db k ≡ true → key_at db k.rtype k.number ≡ k
latest schema capacity db legal k live = λ i. record { rtype = k.rtype; number = k.number; generation = sym (legal.keys k live).4 i }

pub has_live : (schema : Lists) (capacity : ℕ) (db : Database) → Legal schema capacity db → (k : DbKey) → is_live db k ≡ true → Has k (live_keys capacity db k.rtype)
has_live schema capacity db legal k live =
    let range = legal.keys k live in
    has_filter (is_live db) k (map (key_at db k.rtype) (range_with_len 1 capacity)) live
    (subst (λ x. Has x (map (key_at db k.rtype) (range_with_len 1 capacity))) (latest schema capacity db legal k live)
    (has_map (key_at db k.rtype) k.number (range_with_len 1 capacity) (has_range 1 capacity k.number (omega (arith, range.1)) (omega (arith, range.2)))))

-- a set with an owner type is no SYSTEM set
pub owner_type_system : (schema : Lists) (s t : ℕ) → owns schema s t ≡ true → (is_system schema s ≡ false) × (owner_type schema s ≡ Some t)
owner_type_system schema s t h =
    elim (slice_get schema.sets s) as (λ o. some_and (λ owner. eqb owner t) (option_and_then (λ set. set.owner) o) ≡ true → (some_and (λ set. is_none set.owner) o ≡ false) × (option_and_then (λ set. set.owner) o ≡ Some t)) [
      | None ↦ λ h. absurd (false≢true h)
      | Some set ↦ elim set.owner as (λ o. some_and (λ owner. eqb owner t) o ≡ true → (is_none o ≡ false) × (o ≡ Some t)) [
        | None ↦ λ h. absurd (false≢true h)
        | Some u ↦ λ h. (refl, ap Some (eqb-true u t h))
      ]
    ] h

-- an owner with a list is among the owners of the set
pub has_owner : (schema : Lists) (capacity : ℕ) (db : Database) → Legal schema capacity db → (s : ℕ) (o : Owner) → has_occurrence schema db s o ≡ true → Has o (owners schema capacity db s)
has_owner schema capacity db legal s System h = subst (λ b. Has System (cond b (System ∷ []) (unwrap_or (option_map (λ t. map Rec (live_keys capacity db t)) (owner_type schema s)) []))) (sym h) (inl refl)
has_owner schema capacity db legal s (Rec k) h =
    let hs = and_parts _ _ h in
    let set = owner_type_system schema s k.rtype hs.0 in
    subst (λ b. Has (Rec k) (cond b (System ∷ []) (unwrap_or (option_map (λ t. map Rec (live_keys capacity db t)) (owner_type schema s)) []))) (sym set.0)
    (subst (λ o. Has (Rec k) (unwrap_or (option_map (λ t. map Rec (live_keys capacity db t)) o) [])) (sym set.1)
    (has_map Rec k (live_keys capacity db k.rtype) (has_live schema capacity db legal k hs.1)))

-- a list that has a member is there
pub member_has_list : (l : Option (List DbKey)) (m : DbKey) → is_member m (unwrap_or l []) ≡ true → is_some l ≡ true
member_has_list None m h = absurd (false≢true h)
member_has_list (Some list) m h = refl

-- the owner of a member
pub member_owner_found : (schema : Lists) (capacity : ℕ) (db : Database) → Legal schema capacity db → (s : ℕ) (o : Owner) (m : DbKey) → is_member m (members_of db s o) ≡ true → owner_of schema capacity db s m ≡ Some o
member_owner_found schema capacity db legal s o m h =
    let there = has_owner schema capacity db legal s o (sym (legal.pairs s o) ∙ member_has_list (db.lists s o) m h) in
    let found = find_passes (λ p. is_member m (members_of db s p)) o (owners schema capacity db s) there h in
    found.1 ∙ ap Some (legal.in_one s found.0 o m found.2 h)

-- the owner that is found has the member
pub owner_has_member : (schema : Lists) (capacity : ℕ) (db : Database) (s : ℕ) (o : Owner) (m : DbKey) → owner_of schema capacity db s m ≡ Some o → is_member m (members_of db s o) ≡ true
owner_has_member schema capacity db s o m h = found_passes (owners schema capacity db s) h where
  found_passes : (xs : List Owner) → find (λ p. is_member m (members_of db s p)) xs ≡ Some o → is_member m (members_of db s o) ≡ true
  found_passes [] h = absurd (cc (h))
  found_passes (x ∷ xs) h =
      elim (cases_Bool (is_member m (members_of db s x))) [
        | inl e ↦
            let same : Some x ≡ Some o = sym (ap (λ b. cond b (Some x) (find (λ p. is_member m (members_of db s p)) xs)) e) ∙ h in
            subst (λ p. is_member m (members_of db s p) ≡ true) (ap (λ q. unwrap_or q x) same) e
        | inr e ↦ found_passes xs (sym (ap (λ b. cond b (Some x) (find (λ p. is_member m (members_of db s p)) xs)) e) ∙ h)
      ]

-- a record without an owner is in no list
pub no_owner : (schema : Lists) (capacity : ℕ) (db : Database) → Legal schema capacity db → (s : ℕ) (m : DbKey) → owner_of schema capacity db s m ≡ None → (o : Owner) → is_member m (members_of db s o) ≡ false
no_owner schema capacity db legal s m h o = false_from_ne_true _ (λ has. absurd (none_some (sym h ∙ member_owner_found schema capacity db legal s o m has))) where
  none_some : {X : Type 0} {x : X} → None ≡ Some x → ⊥
  none_some h = cc

-- an owner with an occurrence stands at the place that names it
pub owner_stands_at_place : (schema : Lists) (capacity : ℕ) (db : Database) → Legal schema capacity db → (s : ℕ) (o : Owner) → has_occurrence schema db s o ≡ true → owner_at db (place_of o) ≡ o
owner_stands_at_place schema capacity db legal s System h = refl
owner_stands_at_place schema capacity db legal s (Rec k) h = ap Rec (latest schema capacity db legal k (and_parts _ _ h).1)

-- in two legal databases, a record that is in the same lists of a set has the same owner there
pub owner_of_by_members : (schema : Lists) (capacity : ℕ) (db new : Database) → Legal schema capacity db → Legal schema capacity new → (s : ℕ) (x : DbKey)
    → ((o : Owner) → is_member x (members_of new s o) ≡ is_member x (members_of db s o)) → owner_of schema capacity new s x ≡ owner_of schema capacity db s x
owner_of_by_members schema capacity db new legal legal_new s x same = known (owner_of schema capacity db s x) refl where
  known : (found : Option Owner) → owner_of schema capacity db s x ≡ found → owner_of schema capacity new s x ≡ owner_of schema capacity db s x
  known None h = find_none (λ o. is_member x (members_of new s o)) _ (λ o. same o ∙ no_owner schema capacity db legal s x h o) ∙ sym h
  known (Some o) h = member_owner_found schema capacity new legal_new s o x (same o ∙ owner_has_member schema capacity db s o x h) ∙ sym h

-- a set with an owner type is a set of the schema
pub set_within : (schema : Lists) (s t : ℕ) → owns schema s t ≡ true → s < length schema.sets
set_within schema s t h =
    index_within schema.sets s (elim (slice_get schema.sets s) as (λ o. some_and (λ owner. eqb owner t) (option_and_then (λ set. set.owner) o) ≡ true → is_some o ≡ true) [
      | None ↦ λ h. absurd (false≢true h)
      | Some set ↦ λ h. refl
    ] h)
