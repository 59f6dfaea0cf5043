-- The sets of a record type, found one after another; a type that is not there has none.
use Rattle.std.proofs.Common.{◌≡◌, ℕ, zero, suc, ◌+◌, ◌<◌, ◌≤◌, ◌==◌, Bool, false, cond, List, [], ◌∷◌, ◌++◌, Option, None, Some, length, refl, sym, ap, subst, ◌∙◌, inl, inr, arith, add-one}
use Rattle.std.specs.Prelude.{filter, slice_get, option_and_then, option_map, IfSome, IfNone}
use Rattle.std.specs.List.{range_with_len, find, All}
use Rattle.std.proofs.lemmas.Bool.{ne_eqb}
use Rattle.std.proofs.lemmas.List.Elements.{filter-append, All-tail}
use Rattle.std.proofs.lemmas.Option.{get_or_from_slice_get, slice_get_cases, slice_get_within}
use Rattle.dbtg_schema.specs.Inside.Connecting.{connects_in}
use Rattle.dbtg_schema.specs.Lists.{Lists}
use Rattle.dbtg_schema.specs.Lookups.{some_and}
use Rattle.dbtg_schema.specs.Inside.SetsOfTypes.{sets_alone, owned_sets, AreSetsOf, AreSetsOfEach}
use Rattle.dbtg_schema.specs.Structure.{automatic_sets, is_automatic, owns, set_numbers}
use Rattle.dbtg_schema.specs.WellFormed.{IsSchema, IsSetType}
use Rattle.dbtg_schema.specs.declared.shape.Member.{Member}
use Rattle.dbtg_schema.specs.declared.shape.SetType.{SetType}
use Rattle.dbtg_schema.specs.declared.sets_of_type.SetsOfType.{SetsOfType}
use Rattle.dbtg_schema.proofs.Indexes.EachAt.{one_at}
use Rattle.dbtg_schema.proofs.Indexes.Erasings.{filter_none}

range_more : (i n : ℕ) → range_with_len i (suc n) ≡ range_with_len i n ++ (i + n) ∷ []
range_more i zero = let e : i ≡ i + 0 = omega arith in ap (λ (k : ℕ). k ∷ []) e
range_more i (suc n) =
    let e : (i + 1) + n ≡ i + suc n = omega arith in
    ap (λ (ks : List ℕ). i ∷ ks) (range_more (i + 1) n ∙ ap (λ (k : ℕ). range_with_len (i + 1) n ++ k ∷ []) e)

filter_more : (p : ℕ → Bool) (n : ℕ) → filter p (range_with_len 0 (n + 1)) ≡ filter p (range_with_len 0 n) ++ cond (p n) (n ∷ []) []
filter_more p n =
    let e : 0 + n ≡ n = omega arith in
    ap (λ (k : ℕ). filter p (range_with_len 0 k)) (add-one n)
    ∙ ap (filter p) (range_more 0 n ∙ ap (λ (k : ℕ). range_with_len 0 n ++ k ∷ []) e)
    ∙ filter-append p (range_with_len 0 n) (n ∷ [])

-- a number that is listed where its test passes
pub one_more_tested : (p : ℕ → Bool) (n number : ℕ) (passed : Bool) (row new : List ℕ) → number ≡ n → p n ≡ passed → row ≡ filter p (range_with_len 0 n) → new ≡ row ++ cond passed (number ∷ []) [] → new ≡ filter p (range_with_len 0 (n + 1))
one_more_tested p n number passed row new same_number tested same listed =
    listed ∙ ap (λ (k : ℕ). row ++ cond passed (k ∷ []) []) same_number ∙ ap (λ (ks : List ℕ). ks ++ cond passed (n ∷ []) []) same
    ∙ sym (filter_more p n ∙ ap (λ b. filter p (range_with_len 0 n) ++ cond b (n ∷ []) []) tested)

-- a type for which nothing is kept has none
none_kept : (each : List SetsOfType) (types : ℕ) (sets : List SetType) (t : ℕ) → AreSetsOfEach each types sets → slice_get each t ≡ None → types ≤ t
none_kept each types sets t kept none =
    let many = kept.many in
    elim (slice_get_cases each t).1 [ inl w ↦ (let both = sym none ∙ w.2 in absurd cc) | inr w ↦ (let past = w.0 in omega (arith, many, past)) ]

module _ (schema : Lists) (limits : IsSchema schema) (t : ℕ) (past : length schema.types ≤ t) where
  other : (u : ℕ) → u < length schema.types → (u == t) ≡ false
  other u within = ne_eqb u t (λ e. omega (arith, e, within, past))

  no_clause : (ms : List Member) → All (λ m. m.rtype < length schema.types) ms → find (λ member. member.rtype == t) ms ≡ None
  no_clause [] known = refl
  no_clause (m ∷ ms) known =
      ap (λ b. cond b (Some m) (find (λ member. member.rtype == t) ms)) (other m.rtype (known 0 m (omega arith)))
      ∙ no_clause ms (All-tail (λ m. m.rtype < length schema.types) m ms known)

  set_of : (s : ℕ) (set : SetType) → slice_get schema.sets s ≡ Some set → IsSetType schema set
  set_of s set is =
      subst (IsSetType schema) (get_or_from_slice_get schema.sets s set set is) (limits.sets s set (slice_get_within schema.sets s set is))

  connects_none : (s : ℕ) (o : Option SetType) → slice_get schema.sets s ≡ o
      → some_and (λ m. is_automatic m.class) (option_and_then (λ set. find (λ member. member.rtype == t) set.members) o) ≡ false
  connects_none s None is = refl
  connects_none s (Some set) is = ap (some_and (λ m. is_automatic m.class)) (no_clause set.members (set_of s set is).member_types)

  no_owner : (owner : Option ℕ) → IfSome owner (λ o. o < length schema.types) → some_and (λ o. o == t) owner ≡ false
  no_owner None known = refl
  no_owner (Some o) known = other o known

  owns_none : (s : ℕ) (o : Option SetType) → slice_get schema.sets s ≡ o → some_and (λ o. o == t) (option_and_then (λ set. set.owner) o) ≡ false
  owns_none s None is = refl
  owns_none s (Some set) is = no_owner set.owner (set_of s set is).owner

  -- STORE connects no record of a type that is not there
  none_automatic : automatic_sets schema t ≡ []
  none_automatic = filter_none (λ s. connects_in schema s t) (set_numbers schema) (λ s. connects_none s (slice_get schema.sets s) refl)

  -- such a type owns no set
  none_owned : owned_sets schema t ≡ []
  none_owned = filter_none (λ s. owns schema s t) (set_numbers schema) (λ s. owns_none s (slice_get schema.sets s) refl)

module _ (schema : Lists) (limits : IsSchema schema) (each : List SetsOfType) (t : ℕ) (kept : AreSetsOfEach each (length schema.types) schema.sets) {B : Type 0} (now : B → SetsOfType) where
  -- the sets that are found for a type are its sets
  pub found_are_sets_of : (o : Option B) → option_map now o ≡ slice_get each t → IfSome o (λ b. AreSetsOf schema t (now b))
  found_are_sets_of None is = tt
  found_are_sets_of (Some b) is = one_at (AreSetsOf (sets_alone schema.sets)) each t (now b) kept.right (sym is)

  -- a type for which nothing is found has none
  pub none_found_is_none : (o : Option B) → option_map now o ≡ slice_get each t → IfNone o (AreSetsOf schema t (record { automatic = []; owned = [] }))
  none_found_is_none None is =
      let past = none_kept each (length schema.types) schema.sets t kept (sym is) in
      (sym (none_automatic schema limits t past), sym (none_owned schema limits t past))
  none_found_is_none (Some b) is = tt
