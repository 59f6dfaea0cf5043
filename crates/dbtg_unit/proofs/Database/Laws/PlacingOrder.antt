-- Placing keeps a list in its order.
use Rattle.std.proofs.Common.{◌≡◌, refl, sym, ◌∙◌, ap, subst, Bool, true, false, cond, not, ◌&&◌, ◌||◌, List, [], ◌∷◌, ◌++◌, Option, Some, None, inl, inr}
use Rattle.std.specs.Prelude.{filter}
use Rattle.std.specs.List.{list_any, list_all}
use Rattle.std.proofs.lemmas.Bool.{and_parts, and_from, or_parts, or_from, or_left, or_right, cases_Bool, false≢true, false_from_ne_true, not_from_false, not-true, not-false}
use Rattle.dbtg_schema.specs.declared.shape.Order.{Order}
use Rattle.dbtg_schema.specs.declared.shape.Order.TheVariants.{First, Last, Next, Prior, Sorted}
use Rattle.dbtg_schema.specs.declared.shape.Duplicates.{Duplicates}
use Rattle.dbtg_schema.specs.declared.shape.Duplicates.TheVariants.{NotAllowed, First as FirstAmongEqual, Last as LastAmongEqual}
use Rattle.dbtg_schema.specs.Lookups.{behind, in_front}
use Rattle.dbtg_cells.specs.declared.key.DbKey.{DbKey}
use Rattle.dbtg_cells.specs.declared.key.Value.{Value}
use Rattle.dbtg_cells.specs.Keys.{key_eq}
use Rattle.dbtg_cells.specs.Placed.{After, Before, placed}
use Rattle.dbtg_cells.proofs.Public.{key_eq_refl}
use Rattle.dbtg_unit.specs.Database.State.Base.{is_member}
use Rattle.dbtg_unit.specs.Database.Statements.Effect.{spot, refuses_equal, option_value_eq, comes_before, sort_key_below, after_position, before_position}
use Rattle.dbtg_unit.specs.Database.State.Legal.{pairwise, keys_in_order}
use Rattle.dbtg_unit.specs.Database.Laws.Placing.{comparable, compares, has_equal, stand_in_order, StandsRight, IsPlaced}
use Rattle.dbtg_unit.proofs.Lists.Listing.{any_placed, any_parts}
use Rattle.dbtg_unit.proofs.Lists.WithANewMember.{all_kept, all_weaker, all_both, length_placed, less_placed, divides, pairwise_among, placed_after, placed_before}
use Rattle.dbtg_unit.proofs.Database.Records.ValueOrder.{key_below_trans, key_below_irrefl, key_below_asym, key_below_either, same_option_value}

-- what holds of each pair of elements that pass a test
pub pairwise_weaker : {X : Type 0} (r s : X → X → Bool) (p : X → Bool) (xs : List X) → ((x y : X) → p x ≡ true → p y ≡ true → r x y ≡ true → s x y ≡ true) → list_all p xs ≡ true → pairwise r xs ≡ true → pairwise s xs ≡ true
pairwise_weaker r s p [] f h g = refl
pairwise_weaker r s p (x ∷ xs) f h g =
    let hs = and_parts _ _ h in
    let gs = and_parts _ _ g in
    and_from _ _ (all_both p (r x) (s x) xs (λ y a b. f x y hs.0 a b) hs.1 gs.0) (pairwise_weaker r s p xs f hs.1 gs.1)

pub none_from_all : {X : Type 0} (p : X → Bool) (xs : List X) → list_all (λ x. not (p x)) xs ≡ true → list_any p xs ≡ false
none_from_all p [] h = refl
none_from_all p (x ∷ xs) h = let hs = and_parts _ _ h in or_from _ _ (not-true _ hs.0) (none_from_all p xs hs.1)

pub all_from_none : {X : Type 0} (p : X → Bool) (xs : List X) → list_any p xs ≡ false → list_all (λ x. not (p x)) xs ≡ true
all_from_none p [] h = refl
all_from_none p (x ∷ xs) h = let hs = or_parts _ _ h in and_from _ _ (not_from_false _ hs.0) (all_from_none p xs hs.1)

pub behind_it : {X : Type 0} (is : X → Bool) (m : X) (xs ys : List X) → is m ≡ true → list_any is xs ≡ false → behind is (xs ++ m ∷ ys) ≡ ys
behind_it is m [] ys h none = ap (λ b. cond b ys (behind is ys)) h
behind_it is m (x ∷ xs) ys h none = let ns = or_parts _ _ none in ap (λ b. cond b (xs ++ m ∷ ys) (behind is (xs ++ m ∷ ys))) ns.0 ∙ behind_it is m xs ys h ns.1

pub in_front_of_it : {X : Type 0} (is : X → Bool) (m : X) (xs ys : List X) → is m ≡ true → list_any is xs ≡ false → in_front is (xs ++ m ∷ ys) ≡ xs
in_front_of_it is m [] ys h none = ap (λ b. cond b [] (m ∷ in_front is ys)) h
in_front_of_it is m (x ∷ xs) ys h none = let ns = or_parts _ _ none in ap (λ b. cond b [] (x ∷ in_front is (xs ++ m ∷ ys))) ns.0 ∙ ap (λ zs. x ∷ zs) (in_front_of_it is m xs ys h ns.1)

clash : {X : Type 0} {b : Bool} → b ≡ false → b ≡ true → X
clash h g = absurd (false≢true (sym h ∙ g))

-- EACH RULE FOR EQUAL KEYS

-- a test that is false, since it would be a contradiction
not_so : (b : Bool) → (b ≡ true → ⊥) → not b ≡ true
not_so b h = not_from_false b (false_from_ne_true b h)

-- a new member is on its side of each
side_of : (up : Bool) (duplicates : Duplicates) (x m : Option Value) → comparable x m ≡ true → (refuses_equal (Sorted up duplicates) && option_value_eq x m) ≡ false
    → cond (comes_before up duplicates x m) (keys_in_order (Sorted up duplicates) x m) (keys_in_order (Sorted up duplicates) m x) ≡ true
side_of up LastAmongEqual x m k e =
    elim (cases_Bool (sort_key_below up m x)) [
      | inl h ↦ ap (λ t. cond (not t) (not t) (not (sort_key_below up x m))) h ∙ not_from_false _ (key_below_asym up m x h)
      | inr h ↦ ap (λ t. cond (not t) (not t) (not (sort_key_below up x m))) h
    ]
side_of up FirstAmongEqual x m k e =
    elim (cases_Bool (sort_key_below up x m)) [
      | inl h ↦ ap (λ t. cond t (not (sort_key_below up m x)) (not t)) h ∙ not_from_false _ (key_below_asym up x m h)
      | inr h ↦ ap (λ t. cond t (not (sort_key_below up m x)) (not t)) h
    ]
side_of up NotAllowed x m k e =
    elim (cases_Bool (sort_key_below up x m)) [
      | inl h ↦ ap (λ t. cond t t (sort_key_below up m x)) h
      | inr h ↦ ap (λ t. cond t t (sort_key_below up m x)) h ∙ key_below_either up x m k e h
    ]

-- two on either side of a new member are in order
across : (up : Bool) (duplicates : Duplicates) (x y m : Option Value) → comes_before up duplicates x m ≡ true → comes_before up duplicates y m ≡ false
    → keys_in_order (Sorted up duplicates) x m ≡ true → keys_in_order (Sorted up duplicates) m y ≡ true → keys_in_order (Sorted up duplicates) x y ≡ true
across up LastAmongEqual x y m c d h g = not_so _ (λ l. clash (not-true _ c) (key_below_trans up m y x (not-false _ d) l))
across up FirstAmongEqual x y m c d h g = not_so _ (λ l. clash d (key_below_trans up y x m l c))
across up NotAllowed x y m c d h g = key_below_trans up x m y h g

-- in a list in order, those that come before a new member stand before the others
pub divided_by_new_member : (up : Bool) (duplicates : Duplicates) (x y m : Option Value) → comparable x m ≡ true → comparable y m ≡ true → keys_in_order (Sorted up duplicates) x y ≡ true
    → (comes_before up duplicates x m || not (comes_before up duplicates y m)) ≡ true
divided_by_new_member up LastAmongEqual x y m j k h =
    elim (cases_Bool (sort_key_below up m x)) [
      | inl l ↦ elim (cases_Bool (sort_key_below up m y)) [
        | inl n ↦ or_right _ _ (ap (λ t. not (not t)) n)
        | inr n ↦ elim (cases_Bool (option_value_eq y m)) [
          | inl e ↦ clash (not-true _ h) (subst (λ (z : Option Value). sort_key_below up z x ≡ true) (sym (same_option_value y m e)) l)
          | inr e ↦ clash (not-true _ h) (key_below_trans up y m x (other_side y m k e n) l)
        ]
      ]
      | inr l ↦ or_left _ _ (not_from_false _ l)
    ] where
      -- y is not m and m is not below y
      other_side : (y m : Option Value) → comparable y m ≡ true → option_value_eq y m ≡ false → sort_key_below up m y ≡ false → sort_key_below up y m ≡ true
      other_side y m k e n = elim (cases_Bool (sort_key_below up y m)) [ inl t ↦ t | inr t ↦ clash n (key_below_either up y m k e t) ]
divided_by_new_member up FirstAmongEqual x y m j k h =
    elim (cases_Bool (sort_key_below up x m)) [
      | inl l ↦ or_left _ _ l
      | inr l ↦ or_right _ _ (not_so _ (λ n. elim (cases_Bool (option_value_eq x m)) [
        | inl e ↦ clash (not-true _ h) (subst (λ (z : Option Value). sort_key_below up y z ≡ true) (sym (same_option_value x m e)) n)
        | inr e ↦ clash (not-true _ h) (key_below_trans up y m x n (key_below_either up x m j e l))
      ]))
    ]
divided_by_new_member up NotAllowed x y m j k h =
    elim (cases_Bool (sort_key_below up x m)) [
      | inl l ↦ or_left _ _ l
      | inr l ↦ or_right _ _ (not_so _ (λ n. clash l (key_below_trans up x y m h n)))
    ]

-- THE LAW

module _ (position : Option DbKey) (key : DbKey → Option Value) (m : DbKey) (list : List DbKey) (fresh : is_member m list ≡ false) where
  -- what holds of every spot that divides the list
  placed_at : (order : Order) → divides (spot order position key m) list ≡ true → stand_in_order order key (placed (spot order position key m) m list) ≡ true
      → StandsRight order position key m list (placed (spot order position key m) m list) → IsPlaced order position key m list (placed (spot order position key m) m list)
  placed_at order divided_by_new_member in_order right =
      record {
        members = λ x. any_placed (key_eq x) (spot order position key m) m list;
        longer = length_placed (spot order position key m) m list;
        less = less_placed (key_eq m) (spot order position key m) m list (key_eq_refl m) fresh divided_by_new_member;
        in_order = in_order;
        right = right;
      }

  unordered : (xs : List DbKey) → pairwise (λ x y. true) xs ≡ true
  unordered [] = refl
  unordered (x ∷ xs) = and_from _ _ (all_true xs) (unordered xs) where
    all_true : (xs : List DbKey) → list_all (λ y. true) xs ≡ true
    all_true [] = refl
    all_true (x ∷ xs) = all_true xs

  low_part : (c : DbKey → Bool) → list_any (key_eq m) (filter c list) ≡ false
  low_part c = (or_parts _ _ (any_parts (key_eq m) c list ∙ fresh)).0

  sorted_at : (up : Bool) (duplicates : Duplicates) → list_all (λ x. comparable (key x) (key m)) list ≡ true → (refuses_equal (Sorted up duplicates) && has_equal key m list) ≡ false
      → stand_in_order (Sorted up duplicates) key list ≡ true → StandsRight (Sorted up duplicates) position key m list (placed (spot (Sorted up duplicates) position key m) m list)
      → IsPlaced (Sorted up duplicates) position key m list (placed (spot (Sorted up duplicates) position key m) m list)
  sorted_at up duplicates kinds apart in_order right =
      placed_at (Sorted up duplicates)
      (pairwise_weaker (λ x y. keys_in_order (Sorted up duplicates) (key x) (key y)) _ (λ x. comparable (key x) (key m)) list (λ x y j k h. divided_by_new_member up duplicates (key x) (key y) (key m) j k h) kinds in_order)
      (pairwise_among (λ x y. keys_in_order (Sorted up duplicates) (key x) (key y)) (λ x. comes_before up duplicates (key x) (key m)) m list
      (λ x y c d h g. across up duplicates (key x) (key y) (key m) c d h g)
      (all_both (λ x. comparable (key x) (key m)) (λ x. not (refuses_equal (Sorted up duplicates) && option_value_eq (key x) (key m))) _ list (λ x k e. side_of up duplicates (key x) (key m) k (not-true _ e)) kinds (none_equal duplicates apart))
      in_order)
      right where
        all_true : (xs : List DbKey) → list_all (λ y. true) xs ≡ true
        all_true [] = refl
        all_true (x ∷ xs) = all_true xs

        none_equal : (duplicates : Duplicates) → (refuses_equal (Sorted up duplicates) && has_equal key m list) ≡ false → list_all (λ x. not (refuses_equal (Sorted up duplicates) && option_value_eq (key x) (key m))) list ≡ true
        none_equal NotAllowed apart = all_from_none _ list apart
        none_equal FirstAmongEqual apart = all_true list
        none_equal LastAmongEqual apart = all_true list

  divides_after : (p : Option DbKey) → divides (after_position p) list ≡ true
  divides_after None = refl
  divides_after (Some p) = refl

  divides_before : (p : Option DbKey) → divides (before_position p) list ≡ true
  divides_before None = refl
  divides_before (Some p) = refl

  right_after : (p : Option DbKey) → StandsRight Next p key m list (placed (after_position p) m list)
  right_after None = refl
  right_after (Some p) = λ xs ys e h. ap (placed (After (key_eq p)) m) e ∙ placed_after (key_eq p) p m xs ys (key_eq_refl p) h

  right_before : (p : Option DbKey) → StandsRight Prior p key m list (placed (before_position p) m list)
  right_before None = refl
  right_before (Some p) = λ xs ys e h. ap (placed (Before (key_eq p)) m) e ∙ placed_before (key_eq p) p m xs ys (key_eq_refl p) h

  pub placing_keeps_order : (order : Order) → list_all (λ x. compares order (key x) (key m)) list ≡ true → (refuses_equal order && has_equal key m list) ≡ false
      → stand_in_order order key list ≡ true → IsPlaced order position key m list (placed (spot order position key m) m list)
  placing_keeps_order First kinds apart in_order = placed_at First refl (unordered (placed (spot First position key m) m list)) refl
  placing_keeps_order Last kinds apart in_order = placed_at Last refl (unordered (placed (spot Last position key m) m list)) refl
  placing_keeps_order Next kinds apart in_order = placed_at Next (divides_after position) (unordered (placed (spot Next position key m) m list)) (right_after position)
  placing_keeps_order Prior kinds apart in_order = placed_at Prior (divides_before position) (unordered (placed (spot Prior position key m) m list)) (right_before position)
  placing_keeps_order (Sorted up FirstAmongEqual) kinds apart in_order =
      let before_m : DbKey → Bool = λ x. sort_key_below up (key x) (key m) in
      sorted_at up FirstAmongEqual kinds apart in_order
      (ap (has_equal key m) (in_front_of_it (key_eq m) m (filter before_m list) _ (key_eq_refl m) (low_part before_m))
      ∙ none_from_all _ (filter before_m list) (all_weaker before_m _ (filter before_m list) (λ x l. not_so _ (λ e. key_below_irrefl up (key m) (subst (λ (z : Option Value). sort_key_below up z (key m) ≡ true) (same_option_value (key x) (key m) e) l))) (all_kept before_m list)))
  placing_keeps_order (Sorted up LastAmongEqual) kinds apart in_order =
      let before_m : DbKey → Bool = λ x. not (sort_key_below up (key m) (key x)) in
      let after_m : DbKey → Bool = λ x. not (not (sort_key_below up (key m) (key x))) in
      sorted_at up LastAmongEqual kinds apart in_order
      (ap (has_equal key m) (behind_it (key_eq m) m (filter before_m list) _ (key_eq_refl m) (low_part before_m))
      ∙ none_from_all _ (filter after_m list) (all_weaker after_m _ (filter after_m list) (λ x l. not_so _ (λ e. key_below_irrefl up (key m) (subst (λ (z : Option Value). sort_key_below up (key m) z ≡ true) (same_option_value (key x) (key m) e) (not-false _ (not-true _ l))))) (all_kept after_m list)))
  placing_keeps_order (Sorted up NotAllowed) kinds apart in_order = sorted_at up NotAllowed kinds apart in_order apart
