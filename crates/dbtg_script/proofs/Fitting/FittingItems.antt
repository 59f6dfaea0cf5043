-- Items that a line without faults names: each is one of the record type's, none twice, and its value is of its picture.
use Rattle.std.proofs.Common.{◌≡◌, ℕ, suc, ◌+◌, ◌*◌, ◌<◌, ◌^◌, Bool, true, false, cond, not, ◌&&◌, ◌||◌, List, [], ◌∷◌, ◌++◌, length, map, Option, Some, None, refl, sym, ap, subst, ◌∙◌, append_assoc, arith, ◌⊎◌, inl, inr, true≢false}
use Rattle.std.specs.Prelude.{filter, is_none, nat_lt, option_map, option_and_then, slice_get, unwrap_or, ◌==◌}
use Rattle.std.specs.List.{list_all, list_any, position_from, AllByRecursion}
use Rattle.std.specs.Str.{bytes_eq}
use Rattle.std.proofs.Math.Nat.{pow-succ'}
use Rattle.std.proofs.lemmas.Bool.{cases_Bool, eqb-true, and_parts, or_parts}
use Rattle.std.proofs.lemmas.Bool.Decides.{nat_tests}
use Rattle.std.proofs.lemmas.List.{append-nil, map-append}
use Rattle.std.proofs.lemmas.List.Elements.{filter-append}
use Rattle.std.proofs.lemmas.Option.{slice_get-map}
use Rattle.dbtg_schema.specs.declared.shape.Item.{Item}
use Rattle.dbtg_schema.specs.declared.shape.Picture.TheVariants.{Number}
use Rattle.dbtg_schema.specs.declared.shape.SetType.{SetType}
use Rattle.dbtg_schema.specs.Lists.{Lists}
use Rattle.dbtg_schema.specs.Lookups.{some_and}
use Rattle.dbtg_schema.specs.Texts.Spelling.{among}
use Rattle.dbtg_schema.specs.Structure.{item_list, picture_of}
use Rattle.dbtg_schema.specs.WellFormed.{distinct}
use Rattle.dbtg_unit.specs.declared.statement.Change.{Change}
use Rattle.dbtg_unit.specs.Database.Statements.Fits.{change_fits, distinct_items, value_fits, values_fit}
use Rattle.dbtg_script.specs.declared.fault.Cause.TheVariants.{ItemTwice, UnknownItem}
use Rattle.dbtg_script.specs.declared.role.Role.{Role}
use Rattle.dbtg_script.specs.declared.role.Role.TheVariants as role
use Rattle.dbtg_script.specs.Labels.{given, has, is, text_of, texts}
use Rattle.dbtg_script.specs.Lookups.{item_named, item_no}
use Rattle.dbtg_script.specs.StatementFaults.{item_faults, said, type_in, when}
use Rattle.dbtg_script.specs.StatementGrammar.{Labelled}
use Rattle.dbtg_script.specs.Statements.{change_of, set_bits, values_of}
use Rattle.dbtg_script.specs.Values.{value_for}
use Rattle.dbtg_script.proofs.Reading.Roles.{role_is}
use Rattle.dbtg_script.proofs.Fitting.Derivations.{neither}
use Rattle.dbtg_script.proofs.Fitting.FittingNames.{EachSaid, not_when}
use Rattle.dbtg_script.proofs.Fitting.FittingValues.{all_sound, given_sound, made_fits}
use Rattle.dbtg_schema.proofs.Public.{both_nil, bytes_same, distinct_behind, one_name}

-- THE ITEMS OF A STORE

pub stored_fit : (ws : List Labelled) (items : List Item) → all_sound ws ≡ true → values_fit (map (λ i. i.picture) items) (values_of ws items) ≡ true
stored_fit ws [] h = refl
stored_fit ws (i ∷ items) h = (λ k. made_fits i.picture (given i.name ws) (given_sound i.name ws h) k && stored_fit ws items h k)

-- SUPPRESSED SETS

bits_below : (ws : List Labelled) (sets : List SetType) → set_bits ws sets < 2 ^ length sets
bits_below ws [] = omega arith
bits_below ws (set ∷ sets) = one_bit (has role.SuppressAll ws || among set.name (texts role.SuppressSet ws)) (set_bits ws sets) (bits_below ws sets)
  where
    one_bit : (b : Bool) (x : ℕ) → x < 2 ^ length sets → cond b 1 0 + 2 * x < 2 ^ suc (length sets)
    one_bit true x h = let e : 2 ^ suc (length sets) ≡ 2 * 2 ^ length sets = pow-succ' 2 (length sets) in omega arith
    one_bit false x h = let e : 2 ^ suc (length sets) ≡ 2 * 2 ^ length sets = pow-succ' 2 (length sets) in omega arith

pub bits_fit : (ws : List Labelled) (sets : List SetType) → nat_lt (set_bits ws sets) (2 ^ length sets) ≡ true
bits_fit ws sets = let h = bits_below ws sets in grind (arith, nat_tests)

-- THE ITEMS OF A MODIFY

texts_append : (r : Role) (xs ys : List Labelled) → texts r (xs ++ ys) ≡ texts r xs ++ texts r ys
texts_append r xs ys = ap (map (λ (w : Labelled). text_of w.word)) (filter-append (is r) xs ys) ∙ map-append (λ (w : Labelled). text_of w.word) (filter (is r) xs) (filter (is r) ys)

one_text : (r : Role) (xs : List Labelled) (l : Labelled) → is r l ≡ true → texts r (xs ++ l ∷ []) ≡ texts r xs ++ text_of l.word ∷ []
one_text r xs l h = texts_append r xs (l ∷ []) ∙ ap (λ b. texts r xs ++ map (λ (w : Labelled). text_of w.word) (cond b (l ∷ []) [])) h

no_text : (r : Role) (xs : List Labelled) (l : Labelled) → is r l ≡ false → texts r (xs ++ l ∷ []) ≡ texts r xs
no_text r xs l h = texts_append r xs (l ∷ []) ∙ ap (λ b. texts r xs ++ map (λ (w : Labelled). text_of w.word) (cond b (l ∷ []) [])) h ∙ append-nil (texts r xs)

module _ (schema : Lists) (r : ℕ) where
  abbrev pub AllItems : List (List ℕ) → Type 0
  AllItems names = AllByRecursion (λ n. is_none (item_named schema r n) ≡ false) names

  one_item_more : (names : List (List ℕ)) (n : List ℕ) → AllItems names → is_none (item_named schema r n) ≡ false → AllItems (names ++ n ∷ [])
  one_item_more [] n all h = (h, tt)
  one_item_more (m ∷ names) n all h = (all.0, one_item_more names n all.1 h)

  module _ (front : List Labelled) (same_type : (xs : List Labelled) → has role.TypeName xs ≡ false → type_in schema (front ++ xs) ≡ r) (no_items : texts role.ItemName front ≡ []) where
    -- after the words that name the record type
    pub items_known : (xs ls : List Labelled) → EachSaid schema (front ++ xs) ls → has role.TypeName xs ≡ false → has role.TypeName ls ≡ false
        → AllItems (texts role.ItemName xs) → distinct bytes_eq (texts role.ItemName xs) ≡ true → AllItems (texts role.ItemName (xs ++ ls)) × (distinct bytes_eq (texts role.ItemName (xs ++ ls)) ≡ true)
    items_known xs [] c h k all d = (subst (λ (z : List Labelled). AllItems (texts role.ItemName z)) (sym (append-nil xs)) all, subst (λ (z : List Labelled). distinct bytes_eq (texts role.ItemName z) ≡ true) (sym (append-nil xs)) d)
    items_known xs (l ∷ ls) c h k all d =
        let two = or_parts (is role.TypeName l) (has role.TypeName ls) k in
        let further = neither role.TypeName xs (l ∷ []) h (λ i. two.0 i || false) in
        let next = subst (λ (z : List Labelled). EachSaid schema z ls) (append_assoc front xs (l ∷ [])) c.1 in
        let facts = here (cases_Bool (is role.ItemName l)) in
        subst (λ (z : List Labelled). AllItems (texts role.ItemName z) × (distinct bytes_eq (texts role.ItemName z) ≡ true)) (append_assoc xs (l ∷ []) ls)
        (items_known (xs ++ l ∷ []) ls next further two.1 facts.0 facts.1)
      where
        here : (is role.ItemName l ≡ true) ⊎ (is role.ItemName l ≡ false) → AllItems (texts role.ItemName (xs ++ l ∷ [])) × (distinct bytes_eq (texts role.ItemName (xs ++ l ∷ [])) ≡ true)
        here (inl t) =
            let n = text_of l.word in
            let faults : item_faults schema (front ++ xs) n ≡ [] = subst (λ (q : Role). said schema (front ++ xs) l.word q ≡ []) (role_is role.ItemName l t) c.0 in
            let parts = both_nil (when (is_none (item_named schema (type_in schema (front ++ xs)) n)) UnknownItem) (when (among n (texts role.ItemName (front ++ xs))) ItemTwice) faults in
            let cache : is_none (item_named schema r n) ≡ false = ap (λ t. is_none (item_named schema t n)) (sym (same_type xs h)) ∙ not_when (is_none (item_named schema (type_in schema (front ++ xs)) n)) UnknownItem parts.0 in
            let new : among n (texts role.ItemName xs) ≡ false =
            ap (among n) (sym (texts_append role.ItemName front xs ∙ ap (λ z. z ++ texts role.ItemName xs) no_items)) ∙ not_when (among n (texts role.ItemName (front ++ xs))) ItemTwice parts.1 in
            (subst AllItems (sym (one_text role.ItemName xs l t)) (one_item_more (texts role.ItemName xs) n all cache), subst (λ z. distinct bytes_eq z ≡ true) (sym (one_text role.ItemName xs l t)) (distinct_behind (texts role.ItemName xs) n d new))
        here (inr f) = (subst AllItems (sym (no_text role.ItemName xs l f)) all, subst (λ z. distinct bytes_eq z ≡ true) (sym (no_text role.ItemName xs l f)) d)

  -- CHANGES

  standing : (n : List ℕ) (i : ℕ) (items : List Item) (p : ℕ) → position_from (bytes_eq n) i (map (λ x. x.name) items) ≡ Some p → (k : ℕ) × (p ≡ i + k) × (item : Item) × (slice_get items k ≡ Some item)
  standing n i [] p h = absurd cc
  standing n i (x ∷ items) p h = elim (cases_Bool (bytes_eq n x.name)) [
    | inl t ↦ (0, (let e : Some i ≡ Some p = sym (ap (λ b. cond b (Some i) (position_from (bytes_eq n) (i + 1) (map (λ x. x.name) items))) t) ∙ h in let s : i ≡ p = cc in omega arith), x, refl)
    | inr f ↦
        let q = standing n (i + 1) items p (sym (ap (λ b. cond b (Some i) (position_from (bytes_eq n) (i + 1) (map (λ x. x.name) items))) f) ∙ h) in
        (suc q.0, (let e = q.1 in omega arith), q.2, q.3)
  ]

  change_of_item : (ws : List Labelled) (n : List ℕ) (o : Option ℕ) → item_named schema r n ≡ o → is_none o ≡ false → all_sound ws ≡ true → change_fits schema r (change_of schema r ws n) ≡ true
  change_of_item ws n None e h s = absurd cc
  change_of_item ws n (Some p) e h s =
      let q = standing n 0 (item_list schema r) p e in
      let picture : picture_of schema r p ≡ Some q.2.picture =
      ap (picture_of schema r) (q.1 ∙ omega arith) ∙ slice_get-map (λ (x : Item). x.picture) (item_list schema r) q.0 ∙ ap (option_map (λ (x : Item). x.picture)) q.3 in
      (λ i. some_and (λ t. value_fits t (value_for (unwrap_or (option_and_then (λ k. picture_of schema r k) (e i)) (Number 0)) (given n ws))) (picture_of schema r (unwrap_or (e i) 0)))
      ∙ (λ i. some_and (λ t. value_fits t (value_for (unwrap_or (picture i) (Number 0)) (given n ws))) (picture i)) ∙ made_fits q.2.picture (given n ws) (given_sound n ws s)

  pub changes_fit : (ws : List Labelled) (names : List (List ℕ)) → all_sound ws ≡ true → AllItems names → list_all (change_fits schema r) (map (change_of schema r ws) names) ≡ true
  changes_fit ws [] s all = refl
  changes_fit ws (n ∷ names) s all = (λ i. change_of_item ws n (item_named schema r n) refl all.0 s i && changes_fit ws names s all.1 i)

  is_among : (n : List ℕ) (i : ℕ) (names : List (List ℕ)) → is_none (position_from (bytes_eq n) i names) ≡ false → among n names ≡ true
  is_among n i [] h = absurd cc
  is_among n i (x ∷ names) h = step (bytes_eq n x) h (λ k. is_among n (i + 1) names k)
    where
      step : (b : Bool) → is_none (cond b (Some i) (position_from (bytes_eq n) (i + 1) names)) ≡ false → (is_none (position_from (bytes_eq n) (i + 1) names) ≡ false → among n names ≡ true) → (b || among n names) ≡ true
      step true h k = refl
      step false h k = k h

  pub changes_differ : (ws : List Labelled) (names : List (List ℕ)) → AllItems names → distinct bytes_eq names ≡ true → distinct_items (map (change_of schema r ws) names) ≡ true
  changes_differ ws [] all d = refl
  changes_differ ws (n ∷ names) all d =
      let two = and_parts (not (among n names)) (distinct bytes_eq names) d in
      (λ i. not (apart names all.1 (was_false (among n names) two.0) i) && changes_differ ws names all.1 two.1 i)
    where
      was_false : (b : Bool) → not b ≡ true → b ≡ false
      was_false true h = absurd cc
      was_false false h = refl

      apart : (ms : List (List ℕ)) → AllItems ms → among n ms ≡ false → list_any (λ (c : Change). c.item == item_no schema r n) (map (change_of schema r ws) ms) ≡ false
      apart [] all a = refl
      apart (m ∷ ms) all' a =
          let two = or_parts (bytes_eq n m) (among n ms) a in
          (λ i. other m all'.0 two.0 i || apart ms all'.1 two.1 i)
        where
          other : (m : List ℕ) → is_none (item_named schema r m) ≡ false → bytes_eq n m ≡ false → (item_no schema r m == item_no schema r n) ≡ false
          other m cache differs = elim (cases_Bool (item_no schema r m == item_no schema r n)) [
            | inl e ↦ absurd (true≢false (sym (bytes_same n) ∙ ap (bytes_eq n) (sym (one_name m n (map (λ x. x.name) (item_list schema r)) (is_among m 0 (map (λ x. x.name) (item_list schema r)) cache) (is_among n 0 (map (λ x. x.name) (item_list schema r)) all.0) (eqb-true _ _ e))) ∙ differs))
            | inr f ↦ f
          ]
