-- The sort keys of a sorted set are all of one picture, so that they can be compared.
use Rattle.std.proofs.Common.{◌≡◌, refl, sym, ◌∙◌, ap, subst, ℕ, ◌<◌, true, List, [], ◌∷◌, length, Option, Some, None, eqb, arith}
use Rattle.std.specs.Prelude.{is_some, option_map, option_and_then, slice_get, slice_index_or, unwrap_or, IfSome}
use Rattle.std.specs.List.{find, All, position_or_len}
use Rattle.std.proofs.lemmas.Bool.{false≢true, eqb-true}
use Rattle.std.proofs.lemmas.List.Folds.{find_at}
use Rattle.std.proofs.lemmas.Option.{slice_get_within, get_or_from_slice_get, slice_get-map, slice_get-get_or}
use Rattle.dbtg_schema.specs.Lists.{Lists}
use Rattle.dbtg_schema.specs.Sound.{IsSound, IsSoundSet}
use Rattle.dbtg_schema.specs.WellFormed.{IsSetType, is_sorted, key_picture_of}
use Rattle.dbtg_schema.specs.declared.shape.Item.{Item}
use Rattle.dbtg_schema.specs.declared.shape.Member.{Member}
use Rattle.dbtg_schema.specs.declared.shape.SetType.{SetType}
use Rattle.dbtg_schema.specs.declared.shape.Picture.{Picture}
use Rattle.dbtg_schema.specs.declared.shape.Order.{Order}
use Rattle.dbtg_schema.specs.declared.shape.Order.TheVariants.{First, Last, Next, Prior, Sorted}
use Rattle.dbtg_schema.specs.Lookups.{some_and}
use Rattle.dbtg_schema.specs.Structure.{item_list, member_clause, order_of, picture_of, pictures}
use Rattle.dbtg_schema.proofs.Public.{some_is}
use Rattle.dbtg_cells.specs.declared.key.Value.{Value}
use Rattle.dbtg_cells.specs.declared.key.Value.TheVariants.{Num}
use Rattle.dbtg_unit.specs.Database.State.Base.{key_item}
use Rattle.dbtg_unit.specs.Database.Statements.Fits.{value_fits, values_fit}
use Rattle.dbtg_unit.specs.Database.Laws.Placing.{comparable, compares}
use Rattle.dbtg_unit.proofs.Database.Records.ValuesOfPictures.{comparable_from, fits_at}
use Rattle.dbtg_unit.proofs.Lists.Membership.{find_element}

-- what holds of each holds of the one that a look-up gives
pub all_at_entry : {X : Type 0} (P : X → Type 0) (xs : List X) (i : ℕ) (x : X) → All P xs → slice_get xs i ≡ Some x → P x
all_at_entry P xs i x all h = subst P (get_or_from_slice_get xs i x x h) (all i x (slice_get_within xs i x h))

-- nothing is not something
pub none_some : {X : Type 0} {x : X} → None ≡ Some x → ⊥
none_some h = cc

module _ (schema : Lists) (good : IsSound schema) (s : ℕ) (set : SetType) (is : slice_get schema.sets s ≡ Some set) where
  abbrev clause_for : ℕ → Option Member
  clause_for t = find (λ member. eqb member.rtype t) set.members

  clause_at : (t : ℕ) → is_some (member_clause schema s t) ≡ true → (m : Member) × (clause_for t ≡ Some m)
  clause_at t h = some_is (clause_for t) (subst (λ (o : Option SetType). is_some (option_and_then (λ x. find (λ member. eqb member.rtype t) x.members) o) ≡ true) is h)

  for_clause : (P : Member → Type 0) (t : ℕ) (m : Member) → clause_for t ≡ Some m → All P set.members → P m
  for_clause P t m h all = all_at_entry P set.members (position_or_len (λ member. eqb member.rtype t) set.members) m all (sym (find_at (λ member. eqb member.rtype t) set.members) ∙ h)

  key_item_is : (t : ℕ) (its : List Value) (m : Member) → clause_for t ≡ Some m → key_item schema s t its ≡ option_map (λ i. slice_index_or its i (Num 0)) m.key
  key_item_is t its m h =
      ap (λ (o : Option SetType). option_and_then (λ (c : Member). option_map (λ i. slice_index_or its i (Num 0)) c.key) (option_and_then (λ x. find (λ member. eqb member.rtype t) x.members) o)) is
      ∙ ap (option_and_then (λ (c : Member). option_map (λ i. slice_index_or its i (Num 0)) c.key)) h

  key_of_picture : (t : ℕ) (its : List Value) (m : Member) (p : Picture) → clause_for t ≡ Some m → key_picture_of schema m ≡ Some p → values_fit (pictures schema t) its ≡ true → some_and (value_fits p) (key_item schema s t its) ≡ true
  key_of_picture t its m p h g fit =
      let type_is : m.rtype ≡ t = eqb-true m.rtype t (find_element (λ member. eqb member.rtype t) set.members m h).1 in
      ap (some_and (value_fits p)) (key_item_is t its m h) ∙ at_key m.key (subst (λ u. option_and_then (λ i. picture_of schema u i) m.key ≡ Some p) type_is g) where
        at_key : (key : Option ℕ) → option_and_then (λ i. picture_of schema t i) key ≡ Some p → some_and (value_fits p) (option_map (λ i. slice_index_or its i (Num 0)) key) ≡ true
        at_key None g = absurd (none_some g)
        at_key (Some i) g = fits_at (pictures schema t) its i p fit g

  has_picture : (t : ℕ) (m : Member) → clause_for t ≡ Some m → is_sorted set.order ≡ true → (p : Picture) × (key_picture_of schema m ≡ Some p)
  has_picture t m h sorted =
      let its = all_at_entry (IsSoundSet schema) schema.sets s set good.sets is in
      let in_limits = all_at_entry (IsSetType schema) schema.sets s set good.limits.sets is in
      at_key m.key (for_clause (λ c. is_some c.key ≡ is_sorted set.order) t m h its.keys ∙ sorted) (for_clause (λ c. IfSome c.key (λ i. i < length (item_list schema c.rtype))) t m h in_limits.key_items) where
        in_list : (xs : List Item) (i : ℕ) → i < length xs → is_some (slice_get xs i) ≡ true
        in_list [] i low = absurd (omega arith)
        in_list (x ∷ xs) i low = ap is_some (slice_get-get_or (x ∷ xs) i x low)

        at_key : (key : Option ℕ) → is_some key ≡ true → IfSome key (λ i. i < length (item_list schema m.rtype)) → (p : Picture) × (option_and_then (λ i. picture_of schema m.rtype i) key ≡ Some p)
        at_key None h low = absurd (false≢true h)
        at_key (Some i) h low =
            let e = some_is (slice_get (item_list schema m.rtype) i) (in_list (item_list schema m.rtype) i low) in
            (e.0.picture, slice_get-map (λ (x : Item). x.picture) (item_list schema m.rtype) i ∙ ap (option_map (λ (x : Item). x.picture)) e.1)

  keys_of_set : (t u : ℕ) (its jts : List Value) → is_sorted set.order ≡ true → is_some (member_clause schema s t) ≡ true → is_some (member_clause schema s u) ≡ true
      → values_fit (pictures schema t) its ≡ true → values_fit (pictures schema u) jts ≡ true → comparable (key_item schema s t its) (key_item schema s u jts) ≡ true
  keys_of_set t u its jts sorted ht hu fit git =
      let m = clause_at t ht in
      let n = clause_at u hu in
      let p = has_picture t m.0 m.1 sorted in
      let its_set = all_at_entry (IsSoundSet schema) schema.sets s set good.sets is in
      let same = for_clause (λ c. key_picture_of schema m.0 ≡ key_picture_of schema c) u n.0 n.1 (for_clause (λ c. All (λ d. key_picture_of schema c ≡ key_picture_of schema d) set.members) t m.0 m.1 its_set.key_pictures) in
      comparable_from p.0 (key_item schema s t its) (key_item schema s u jts) (key_of_picture t its m.0 p.0 m.1 p.1 fit) (key_of_picture u jts n.0 p.0 n.1 (sym same ∙ p.1) git)

  pub set_compares : (t u : ℕ) (its jts : List Value) → is_some (member_clause schema s t) ≡ true → is_some (member_clause schema s u) ≡ true
      → values_fit (pictures schema t) its ≡ true → values_fit (pictures schema u) jts ≡ true → (order : Order) → set.order ≡ order → compares order (key_item schema s t its) (key_item schema s u jts) ≡ true
  set_compares t u its jts ht hu fit git (Sorted up duplicates) e = keys_of_set t u its jts (ap is_sorted e) ht hu fit git
  set_compares t u its jts ht hu fit git First e = refl
  set_compares t u its jts ht hu fit git Last e = refl
  set_compares t u its jts ht hu fit git Next e = refl
  set_compares t u its jts ht hu fit git Prior e = refl

-- the keys of two records that can be members of a set can be compared, where it is sorted
pub keys_compare : (schema : Lists) → IsSound schema → (s t u : ℕ) (its jts : List Value) → is_some (member_clause schema s t) ≡ true → is_some (member_clause schema s u) ≡ true
    → values_fit (pictures schema t) its ≡ true → values_fit (pictures schema u) jts ≡ true → compares (order_of schema s) (key_item schema s t its) (key_item schema s u jts) ≡ true
keys_compare schema good s t u its jts ht hu fit git = go (slice_get schema.sets s) refl where
  go : (set : Option SetType) → slice_get schema.sets s ≡ set → compares (order_of schema s) (key_item schema s t its) (key_item schema s u jts) ≡ true
  go None is = ap (λ (o : Option SetType). compares (unwrap_or (option_map (λ x. x.order) o) Last) (key_item schema s t its) (key_item schema s u jts)) is
  go (Some set) is =
      ap (λ (o : Option SetType). compares (unwrap_or (option_map (λ x. x.order) o) Last) (key_item schema s t its) (key_item schema s u jts)) is
      ∙ set_compares schema good s set is t u its jts ht hu fit git set.order refl
