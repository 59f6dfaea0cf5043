-- How the lists of a legal database change: a part of each kept, or a new member placed.
use Rattle.std.proofs.Common.{◌≡◌, refl, sym, ◌∙◌, ap, subst, ℕ, Bool, true, false, cond, ◌&&◌, ◌||◌, List, [], ◌∷◌, Option, Some, None, inl, inr, ⊎_elim, ◌⊎◌}
use Rattle.std.specs.Prelude.{is_some, unwrap_or, option_map, filter}
use Rattle.std.specs.List.{list_all}
use Rattle.std.proofs.lemmas.Bool.{and_parts, and_from, or_cases, or_left, or_right, cases_Bool, false≢true, not_from_false, not-true, cond_both, false_from_ne_true}
use Rattle.dbtg_schema.specs.Lists.{Lists}
use Rattle.dbtg_schema.specs.Structure.{member_clause, order_of, pictures}
use Rattle.dbtg_cells.specs.declared.key.DbKey.{DbKey}
use Rattle.dbtg_cells.specs.declared.key.Owner.{Owner}
use Rattle.dbtg_cells.specs.Keys.{key_eq}
use Rattle.dbtg_cells.specs.Placed.{Spot, placed}
use Rattle.dbtg_unit.specs.Database.State.Base.{is_member}
use Rattle.dbtg_unit.specs.Database.Statements.Effect.{spot, refuses_equal}
use Rattle.dbtg_unit.specs.Database.State.Legal.{pairwise, differ, keys_in_order}
use Rattle.dbtg_unit.proofs.Lists.Listing.{any_placed}
use Rattle.dbtg_unit.proofs.Lists.WithANewMember.{pairwise_filter, pairwise_placed}
use Rattle.dbtg_unit.proofs.Database.Laws.PlacingOrder.{all_from_none, pairwise_weaker, placing_keeps_order}
use Rattle.dbtg_unit.proofs.Database.Records.SortKeysCompare.{keys_compare}
use Rattle.dbtg_unit.specs.Database.Laws.Placing.{compares, has_equal}
use Rattle.dbtg_unit.specs.Database.Statements.Fits.{values_fit}
use Rattle.dbtg_schema.specs.Sound.{IsSound}
use Rattle.dbtg_cells.proofs.Public.{key_eq_refl, same_key}
use Rattle.dbtg_unit.proofs.Database.Legal.LegalParts.{Living, Items, Rows, members_in, key_in, ordered, has_list, Rings}

-- KEYS AND MEMBERS

pub key_swap : (a b : DbKey) → key_eq a b ≡ true → key_eq b a ≡ true
key_swap a b h = subst (λ (c : DbKey). key_eq c a ≡ true) (same_key a b h) (key_eq_refl a)

pub differ_swap : (a b : DbKey) → differ a b ≡ true → differ b a ≡ true
differ_swap a b h = not_from_false _ (false_from_ne_true _ (λ e. false≢true (sym (not-true _ h) ∙ key_swap b a e)))

pub member_kept : (x : DbKey) (t : DbKey → Bool) (xs : List DbKey) → is_member x (filter t xs) ≡ true → (is_member x xs ≡ true) × (t x ≡ true)
member_kept x t [] h = absurd (false≢true h)
member_kept x t (y ∷ ys) h =
    elim (cases_Bool (t y)) [
      | inl e ↦
          ⊎_elim
          (λ same. (or_left _ _ same, subst (λ (z : DbKey). t z ≡ true) (sym (same_key x y same)) e))
          (λ rest. let r = member_kept x t ys rest in (or_right _ _ r.0, r.1))
          (or_cases (key_eq x y) (is_member x (filter t ys)) (subst (λ b. is_member x (cond b (y ∷ filter t ys) (filter t ys)) ≡ true) e h))
      | inr e ↦ let r = member_kept x t ys (subst (λ b. is_member x (cond b (y ∷ filter t ys) (filter t ys)) ≡ true) e h) in (or_right _ _ r.0, r.1)
    ]

pub keeps_member : (x : DbKey) (t : DbKey → Bool) (xs : List DbKey) → is_member x xs ≡ true → t x ≡ true → is_member x (filter t xs) ≡ true
keeps_member x t [] h g = h
keeps_member x t (y ∷ ys) h g =
    ⊎_elim
    (λ same. let e : t y ≡ true = subst (λ (z : DbKey). t z ≡ true) (same_key x y same) g in subst (λ b. is_member x (cond b (y ∷ filter t ys) (filter t ys)) ≡ true) (sym e) (or_left _ _ same))
    (λ rest. cond_both (t y) _ _ (λ zs. is_member x zs ≡ true) (λ e. or_right _ _ (keeps_member x t ys rest g)) (λ e. keeps_member x t ys rest g))
    (or_cases _ _ h)

-- a list with a member is there
pub member_has_a_list : (k : DbKey) (list : Option (List DbKey)) → is_member k (unwrap_or list []) ≡ true → is_some list ≡ true
member_has_a_list k None h = absurd (false≢true h)
member_has_a_list k (Some list) h = refl

-- all are kept
pub filter_true : (xs : List DbKey) → xs ≡ filter (λ x. true) xs
filter_true [] = refl
filter_true (x ∷ xs) = ap (λ ys. x ∷ ys) (filter_true xs)

pub all_members : (q : DbKey → Bool) (xs : List DbKey) → ((x : DbKey) → is_member x xs ≡ true → q x ≡ true) → list_all q xs ≡ true
all_members q [] w = refl
all_members q (x ∷ xs) w = and_from _ _ (w x (or_left _ _ (key_eq_refl x))) (all_members q xs (λ y h. w y (or_right _ _ h)))

pub member_passes : (q : DbKey → Bool) (xs : List DbKey) (x : DbKey) → list_all q xs ≡ true → is_member x xs ≡ true → q x ≡ true
member_passes q [] x h g = absurd (false≢true g)
member_passes q (y ∷ ys) x h g =
    let hs = and_parts _ _ h in
    ⊎_elim (λ same. subst (λ (z : DbKey). q z ≡ true) (sym (same_key x y same)) hs.0) (λ rest. member_passes q ys x hs.1 rest) (or_cases _ _ g)

-- A PART OF EACH LIST

module _ (schema : Lists) (live live' : Living) (items items' : Items) (lists lists' : Rows) where
  pub rings_kept : Rings schema live items lists
      → ((s : ℕ) (o : Owner) → is_some (lists' s o) ≡ has_list schema live' s o)
      → ((s : ℕ) (o : Owner) → (t : DbKey → Bool) × (members_in lists' s o ≡ filter t (members_in lists s o)))
      → ((s : ℕ) (o : Owner) (x : DbKey) → is_member x (members_in lists' s o) ≡ true → (live' x ≡ true) × (key_in schema items' s x ≡ key_in schema items s x))
      → Rings schema live' items' lists'
  rings_kept rings pairs thin still =
      record {
        pairs = pairs;
        members = λ s o m h. ((still s o m h).0, (rings.members s o m (old s o m h)).1);
        in_one = λ s o p m ho hp. rings.in_one s o p m (old s o m ho) (old s p m hp);
        once = λ s o. subst (λ list. pairwise differ list ≡ true) (sym (thin s o).1) (pairwise_filter differ (thin s o).0 (members_in lists s o) (rings.once s o));
        sorted = λ s o. pairwise_weaker (ordered schema items s) (ordered schema items' s) (λ x. is_member x (members_in lists' s o)) (members_in lists' s o)
            (λ x y hx hy h. read s x y (still s o x hx).1 (still s o y hy).1 ∙ h)
            (all_members (λ x. is_member x (members_in lists' s o)) (members_in lists' s o) (λ x h. h))
            (subst (λ list. pairwise (ordered schema items s) list ≡ true) (sym (thin s o).1) (pairwise_filter (ordered schema items s) (thin s o).0 (members_in lists s o) (rings.sorted s o)));
      } where
        old : (s : ℕ) (o : Owner) (m : DbKey) → is_member m (members_in lists' s o) ≡ true → is_member m (members_in lists s o) ≡ true
        old s o m h = (member_kept m (thin s o).0 (members_in lists s o) (subst (λ list. is_member m list ≡ true) (thin s o).1 h)).0

        read : (s : ℕ) (x y : DbKey) → key_in schema items' s x ≡ key_in schema items s x → key_in schema items' s y ≡ key_in schema items s y → ordered schema items' s x y ≡ ordered schema items s x y
        read s x y ex ey = λ i. keys_in_order (order_of schema s) (ex i) (ey i)

-- A NEW MEMBER

module _ (schema : Lists) (live : Living) (items : Items) (lists : Rows) (m : DbKey) (into : ℕ → Owner → Bool) (spots : ℕ → Spot DbKey) where
  -- the lists with m placed in those that it joins
  abbrev pub with_placed : Rows
  with_placed s o = cond (into s o) (option_map (placed (spots s) m) (lists s o)) (lists s o)

  pub member_with_placed : (s : ℕ) (o : Owner) (x : DbKey) → is_member x (members_in with_placed s o) ≡ ((into s o && is_some (lists s o) && key_eq x m) || is_member x (members_in lists s o))
  member_with_placed s o x =
      elim (into s o) as (λ b. is_member x (unwrap_or (cond b (option_map (placed (spots s) m) (lists s o)) (lists s o)) []) ≡ ((b && is_some (lists s o) && key_eq x m) || is_member x (unwrap_or (lists s o) []))) [
        | true ↦ elim (lists s o) as (λ l. is_member x (unwrap_or (option_map (placed (spots s) m) l) []) ≡ ((is_some l && key_eq x m) || is_member x (unwrap_or l []))) [
          | None ↦ refl
          | Some list ↦ any_placed (key_eq x) (spots s) m list
        ]
        | false ↦ refl
      ]

  -- what holds of a list with the new member in it, and of no members, holds of it here
  at_placed : (P : List DbKey → Type 0) (s : ℕ) (o : Owner) → P [] → (into s o ≡ true → P (placed (spots s) m (members_in lists s o))) → P (members_in lists s o) → P (members_in with_placed s o)
  at_placed P s o none new old =
      elim (into s o) as (λ b. (b ≡ true → P (placed (spots s) m (members_in lists s o))) → P (unwrap_or (cond b (option_map (placed (spots s) m) (lists s o)) (lists s o)) [])) [
        | true ↦ λ w. (elim (lists s o) as (λ l. P (placed (spots s) m (unwrap_or l [])) → P (unwrap_or (option_map (placed (spots s) m) l) [])) [ None ↦ λ h. none | Some list ↦ λ h. h ]) (w refl)
        | false ↦ λ w. old
      ] new

module _ (schema : Lists) (live : Living) (items : Items) (lists : Rows) (m : DbKey) (into : ℕ → Owner → Bool) (positions : ℕ → Option DbKey) where
  -- where the order of each set places m, from its position
  abbrev pub spot_at : ℕ → Spot DbKey
  spot_at s = spot (order_of schema s) (positions s) (key_in schema items s) m

  pub rings_placed : IsSound schema → ((x : DbKey) → live x ≡ true → values_fit (pictures schema x.rtype) (items x) ≡ true)
      → Rings schema live items lists → live m ≡ true
      → ((s : ℕ) (o : Owner) → into s o ≡ true → is_some (member_clause schema s m.rtype) ≡ true)
      → ((s : ℕ) (o p : Owner) → into s o ≡ true → is_member m (members_in lists s p) ≡ false)
      → ((s : ℕ) (o p : Owner) → into s o ≡ true → into s p ≡ true → o ≡ p)
      → ((s : ℕ) (o : Owner) → into s o ≡ true → (refuses_equal (order_of schema s) && has_equal (key_in schema items s) m (members_in lists s o)) ≡ false)
      → Rings schema live items (with_placed schema live items lists m into spot_at)
  rings_placed good typed rings alive clause absent one owner_differs =
      record {
        pairs = λ s o. kept s o ∙ rings.pairs s o;
        members = λ s o x h. ⊎_elim
            (λ new. let same = same_key x m new.1 in (subst (λ (y : DbKey). live y ≡ true) (sym same) alive, subst (λ (y : DbKey). is_some (member_clause schema s y.rtype) ≡ true) (sym same) (clause s o new.0)))
            (λ old. rings.members s o x old)
            (parts s o x h);
        in_one = λ s o p x ho hp. ⊎_elim
            (λ a. ⊎_elim
            (λ b. one s o p a.0 b.0)
            (λ old. absurd (false≢true (sym (absent s o p a.0) ∙ subst (λ (y : DbKey). is_member y (members_in lists s p) ≡ true) (same_key x m a.1) old)))
            (parts s p x hp))
            (λ old. ⊎_elim
            (λ b. absurd (false≢true (sym (absent s p o b.0) ∙ subst (λ (y : DbKey). is_member y (members_in lists s o) ≡ true) (same_key x m b.1) old)))
            (λ old2. rings.in_one s o p x old old2)
            (parts s p x hp))
            (parts s o x ho);
        once = λ s o. at_placed schema live items lists m into spot_at (λ list. pairwise differ list ≡ true) s o refl
            (λ h. pairwise_placed differ differ_swap (spot_at s) m (members_in lists s o) (all_from_none (key_eq m) (members_in lists s o) (absent s o o h)) (rings.once s o))
            (rings.once s o);
        sorted = λ s o. at_placed schema live items lists m into spot_at (λ list. pairwise (ordered schema items s) list ≡ true) s o refl (in_its_place s o) (rings.sorted s o);
      } where
        kept : (s : ℕ) (o : Owner) → is_some (with_placed schema live items lists m into spot_at s o) ≡ is_some (lists s o)
        kept s o =
            elim (into s o) as (λ b. is_some (cond b (option_map (placed (spot_at s) m) (lists s o)) (lists s o)) ≡ is_some (lists s o)) [
              | true ↦ elim (lists s o) as (λ l. is_some (option_map (placed (spot_at s) m) l) ≡ is_some l) [ None ↦ refl | Some list ↦ refl ]
              | false ↦ refl
            ]

        parts : (s : ℕ) (o : Owner) (x : DbKey) → is_member x (members_in (with_placed schema live items lists m into spot_at) s o) ≡ true → ((into s o ≡ true) × (key_eq x m ≡ true)) ⊎ (is_member x (members_in lists s o) ≡ true)
        parts s o x h =
            ⊎_elim
            (λ new. let ns = and_parts (into s o && is_some (lists s o)) (key_eq x m) new in inl ((and_parts (into s o) (is_some (lists s o)) ns.0).0, ns.1))
            (λ old. inr old)
            (or_cases (into s o && is_some (lists s o) && key_eq x m) (is_member x (members_in lists s o)) (sym (member_with_placed schema live items lists m into spot_at s o x) ∙ h))

        in_its_place : (s : ℕ) (o : Owner) → into s o ≡ true → pairwise (ordered schema items s) (placed (spot_at s) m (members_in lists s o)) ≡ true
        in_its_place s o j =
            (placing_keeps_order (positions s) (key_in schema items s) m (members_in lists s o) (absent s o o j) (order_of schema s)
            (all_members (λ x. compares (order_of schema s) (key_in schema items s x) (key_in schema items s m)) (members_in lists s o)
            (λ x h. let r = rings.members s o x h in keys_compare schema good s x.rtype m.rtype (items x) (items m) r.1 (clause s o j) (typed x r.0) (typed m alive)))
            (owner_differs s o j) (rings.sorted s o)).in_order
