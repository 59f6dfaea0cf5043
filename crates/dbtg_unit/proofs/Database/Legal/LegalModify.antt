-- MODIFY keeps a database legal.
use Rattle.std.proofs.Common.{◌≡◌, refl, sym, ◌∙◌, ap, subst, ℕ, Bool, true, false, cond, not, ◌&&◌, ◌||◌, List, [], ◌∷◌, Some, None, inl, inr, map}
use Rattle.std.specs.Prelude.{is_some, option_map, option_and_then, unwrap_or, filter}
use Rattle.std.specs.List.{list_any, list_all}
use Rattle.std.proofs.lemmas.Bool.{and_parts, and_from, or_right, or_left, cases_Bool, false≢true, false_from_ne_true, not_from_false, not-true}
use Rattle.dbtg_schema.specs.Lists.{Lists}
use Rattle.dbtg_schema.specs.Sound.{IsSound}
use Rattle.dbtg_schema.specs.Lookups.{some_and}
use Rattle.dbtg_schema.specs.Structure.{order_of, picture_of, owns, pictures, rekeyed_sets}
use Rattle.dbtg_cells.specs.declared.key.DbKey.{DbKey}
use Rattle.dbtg_cells.specs.declared.key.Owner.{Owner}
use Rattle.dbtg_cells.specs.declared.key.Owner.TheVariants.{System, Rec}
use Rattle.dbtg_cells.specs.declared.key.Value.{Value}
use Rattle.dbtg_cells.specs.Placed.{Spot, placed}
use Rattle.dbtg_cells.specs.Keys.{key_eq, values_eq}
use Rattle.dbtg_cells.proofs.Public.{key_eq_refl, same_key}
use Rattle.dbtg_unit.specs.declared.statement.Change.{Change}
use Rattle.dbtg_unit.specs.declared.unit.Unit.{Unit}
use Rattle.dbtg_unit.specs.Database.State.Base.{Database, Record, is_live, items_of, is_member, members_of, calc_items, key_item, sort_key}
use Rattle.dbtg_unit.specs.Database.State.Units.{place_in}
use Rattle.dbtg_unit.specs.Database.Statements.Fits.{value_fits, values_fit}
use Rattle.dbtg_unit.specs.Database.Statements.Conditions.{calc_taken, changed_items, names_calc, refuses_equal, sort_key_taken}
use Rattle.dbtg_unit.specs.Database.Statements.Effect.{modified, option_value_eq, with_items, with_its_items, without, joined}
use Rattle.dbtg_unit.specs.Database.Statements.StoredFacts.{whole}
use Rattle.dbtg_unit.specs.Database.State.Legal.{Legal}
use Rattle.dbtg_unit.proofs.Database.Records.ValuesOfPictures.{values_swap}
use Rattle.dbtg_unit.proofs.Database.Legal.LegalParts.{Rows, Rings, Sound, Stock, has_list, unique_calc, members_in, key_in, sound_of, uses_of, legal_raised}
use Rattle.dbtg_unit.proofs.Database.Legal.ListsChanged.{filter_true, keeps_member, key_swap, member_kept, member_with_placed, rings_kept, rings_placed, spot_at, member_has_a_list, with_placed}
use Rattle.dbtg_unit.proofs.Database.Records.LiveKeys.{owner_of_member}
use Rattle.dbtg_unit.proofs.Database.Legal.PassedChecks.{has_number}
use Rattle.dbtg_unit.proofs.Database.Records.NoCalcKey.{not_taken}
use Rattle.dbtg_unit.proofs.Database.Records.ItemsAfterModify.{changed_fit, same_calc_items, same_key_item}

-- what the checks of a MODIFY guarantee: each value has its picture, and no other record has the new CALC key, or a new sort key that would be refused
pub record CanChange (schema : Lists) (capacity : ℕ) (db : Database) (changes : List Change) (k : DbKey) : Type 0 where
  pub fit : list_all (λ c. some_and (λ p. value_fits p c.value) (picture_of schema k.rtype c.item)) changes ≡ true
  pub calc_free : (names_calc schema k.rtype changes && calc_taken schema (whole schema capacity db) k.rtype (changed_items changes (items_of db k)) (Some k)) ≡ false
  pub key_free : (s : ℕ) → has_number s (rekeyed_sets schema k.rtype (map (λ c. c.item) changes)) ≡ true
      → (refuses_equal (order_of schema s) && sort_key_taken schema (whole schema capacity db) k (changed_items changes (items_of db k)) s) ≡ false

module _ (schema : Lists) (capacity : ℕ) (db : Database) (unit : Unit) (changes : List Change) (k : DbKey) (legal : Legal schema capacity db) (live : is_live db k ≡ true) where
  abbrev items : List Value
  items = changed_items changes (items_of db k)

  abbrev after : Database
  after = with_items db k items

  abbrev sets : List ℕ
  sets = rekeyed_sets schema k.rtype (map (λ c. c.item) changes)

  -- a list of these sets that has the record
  abbrev again : ℕ → Owner → Bool
  again s o = has_number s sets && is_member k (members_of db s o)

  abbrev lists_less : Rows
  lists_less s o = cond (again s o) (option_map (without k) (db.lists s o)) (db.lists s o)

  abbrev spot_again : ℕ → Spot DbKey
  spot_again = spot_at schema (is_live after) (items_of after) lists_less k again (λ s. option_and_then (λ place. place.at) (place_in schema unit s))

  live_after : (x : DbKey) → is_live after x ≡ is_live db x
  live_after x = elim (key_eq k x) as (λ b. is_some (cond b (option_map (with_its_items items) (db.records x)) (db.records x)) ≡ is_some (db.records x)) [
    | true ↦ elim (db.records x) as (λ r. is_some (option_map (with_its_items items) r) ≡ is_some r) [ None ↦ refl | Some r ↦ refl ]
    | false ↦ refl
  ]

  was_live : (x : DbKey) → is_live after x ≡ true → is_live db x ≡ true
  was_live x h = sym (live_after x) ∙ h

  items_other : (x : DbKey) → key_eq k x ≡ false → items_of after x ≡ items_of db x
  items_other x other = ap (λ b. unwrap_or (option_map (λ (r : Record). r.items) (cond b (option_map (with_its_items items) (db.records x)) (db.records x))) []) other

  items_own : items_of after k ≡ items
  items_own =
      ap (λ b. unwrap_or (option_map (λ (r : Record). r.items) (cond b (option_map (with_its_items items) (db.records k)) (db.records k))) []) (key_eq_refl k)
      ∙ (elim (db.records k) as (λ r. is_some r ≡ true → unwrap_or (option_map (λ (q : Record). q.items) (option_map (with_its_items items) r)) [] ≡ items) [
        | None ↦ λ h. absurd (false≢true h)
        | Some r ↦ λ h. refl
      ]) live

  items_same : (x : DbKey) → key_eq k x ≡ true → items_of after x ≡ items
  items_same x same = ap (items_of after) (sym (same_key k x same)) ∙ items_own

  stock_after : CanChange schema capacity db changes k → Stock schema capacity (is_live after) (items_of after) db.last
  stock_after can =
      record {
        keys = λ x h. legal.keys x (was_live x h);
        typed = λ x h. elim (cases_Bool (key_eq k x)) [
          | inl same ↦ subst (λ (its : List Value). values_fit (pictures schema x.rtype) its ≡ true) (sym (items_same x same))
              (subst (λ (y : DbKey). values_fit (pictures schema y.rtype) items ≡ true) (same_key k x same) (changed_fit schema k.rtype changes (items_of db k) can.fit (legal.items k live)))
          | inr other ↦ subst (λ (its : List Value). values_fit (pictures schema x.rtype) its ≡ true) (sym (items_other x other)) (legal.items x (was_live x h))
        ];
        generations = legal.generations;
        no_number = legal.no_number;
        calc = λ i j hi hj same unique eq. elim (cases_Bool (key_eq k i)) [
          | inl a ↦ elim (cases_Bool (key_eq k j)) [
            | inl b ↦ sym (same_key k i a) ∙ same_key k j b
            | inr b ↦ sym (same_key k i a) ∙ clash j b (was_live j hj) (sym same ∙ type_of i a) (subst (λ u. unique_calc schema u ≡ true) (type_of i a) unique)
                (values_swap _ (calc_items schema j.rtype (items_of db j)) (sym (λ d. values_eq (calc_items schema (type_of i a d) (items_same i a d)) (calc_items schema j.rtype (items_other j b d))) ∙ eq))
          ]
          | inr a ↦ elim (cases_Bool (key_eq k j)) [
            | inl b ↦ sym (clash i a (was_live i hi) (same ∙ type_of j b) (subst (λ u. unique_calc schema u ≡ true) (same ∙ type_of j b) unique)
                (sym (λ d. values_eq (calc_items schema i.rtype (items_other i a d)) (calc_items schema (type_of j b d) (items_same j b d))) ∙ eq)) ∙ same_key k j b
            | inr b ↦ legal.calc i j (was_live i hi) (was_live j hj) same unique (sym (λ d. values_eq (calc_items schema i.rtype (items_other i a d)) (calc_items schema j.rtype (items_other j b d))) ∙ eq)
          ]
        ];
      } where
        type_of : (x : DbKey) → key_eq k x ≡ true → x.rtype ≡ k.rtype
        type_of x same = ap (λ (y : DbKey). y.rtype) (sym (same_key k x same))

        and_free : (a b : Bool) → (a && b) ≡ false → (a ≡ true → b ≡ false)
        and_free true b h g = h
        and_free false b h g = absurd (false≢true g)

        -- an old record with the new CALC key
        clash : (j : DbKey) → key_eq k j ≡ false → is_live db j ≡ true → j.rtype ≡ k.rtype → unique_calc schema k.rtype ≡ true → values_eq (calc_items schema j.rtype (items_of db j)) (calc_items schema k.rtype items) ≡ true → k ≡ j
        clash j other live_j same unique eq =
            elim (cases_Bool (names_calc schema k.rtype changes)) [
              | inl named ↦
                  absurd (false≢true (sym (not_taken schema capacity db k.rtype items (Some k) legal (and_free _ _ can.calc_free named) unique j live_j same other) ∙ (λ d. values_eq (calc_items schema (sym same d) (items_of db j)) (calc_items schema k.rtype items)) ∙ eq))
              | inr unnamed ↦
                  legal.calc k j live live_j (sym same) unique
                  (values_swap (calc_items schema j.rtype (items_of db j)) (calc_items schema k.rtype (items_of db k)) ((λ d. values_eq (calc_items schema j.rtype (items_of db j)) (sym (same_calc_items schema k.rtype changes (items_of db k) unnamed) d)) ∙ eq))
            ]

  -- THE LISTS WITHOUT THE RECORD

  thin : (s : ℕ) (o : Owner) → (p : DbKey → Bool) × (members_in lists_less s o ≡ filter p (members_in db.lists s o))
  thin s o =
      elim (again s o) as (λ b. (p : DbKey → Bool) × (unwrap_or (cond b (option_map (without k) (db.lists s o)) (db.lists s o)) [] ≡ filter p (unwrap_or (db.lists s o) []))) [
        | true ↦ (λ x. not (key_eq k x), elim (db.lists s o) as (λ l. unwrap_or (option_map (without k) l) [] ≡ filter (λ x. not (key_eq k x)) (unwrap_or l [])) [ None ↦ refl | Some list ↦ refl ])
        | false ↦ (λ x. true, filter_true (unwrap_or (db.lists s o) []))
      ]

  was_member : (s : ℕ) (o : Owner) (x : DbKey) → is_member x (members_in lists_less s o) ≡ true → is_member x (members_in db.lists s o) ≡ true
  was_member s o x h = (member_kept x (thin s o).0 (members_in db.lists s o) (subst (λ list. is_member x list ≡ true) (thin s o).1 h)).0

  same_there : (s : ℕ) (o : Owner) → is_some (lists_less s o) ≡ is_some (db.lists s o)
  same_there s o =
      elim (again s o) as (λ b. is_some (cond b (option_map (without k) (db.lists s o)) (db.lists s o)) ≡ is_some (db.lists s o)) [
        | true ↦ elim (db.lists s o) as (λ l. is_some (option_map (without k) l) ≡ is_some l) [ None ↦ refl | Some list ↦ refl ]
        | false ↦ refl
      ]

  list_again : (s : ℕ) (o : Owner) → again s o ≡ true → members_in lists_less s o ≡ without k (members_of db s o)
  list_again s o h =
      ap (λ b. unwrap_or (cond b (option_map (without k) (db.lists s o)) (db.lists s o)) []) h
      ∙ (elim (db.lists s o) as (λ l. unwrap_or (option_map (without k) l) [] ≡ without k (unwrap_or l [])) [ None ↦ refl | Some list ↦ refl ])

  list_else : (s : ℕ) (o : Owner) → again s o ≡ false → members_in lists_less s o ≡ members_of db s o
  list_else s o h = ap (λ b. unwrap_or (cond b (option_map (without k) (db.lists s o)) (db.lists s o)) []) h

  -- the record is in no list of these sets
  gone : (s : ℕ) (o : Owner) → has_number s sets ≡ true → is_member k (members_in lists_less s o) ≡ false
  gone s o h = false_from_ne_true _ (λ g.
      let member_has_a_list = and_from _ _ h (was_member s o k g) in
      let kept = member_kept k (λ x. not (key_eq k x)) (members_of db s o) (subst (λ list. is_member k list ≡ true) (list_again s o member_has_a_list) g) in
      false≢true (sym (not-true _ kept.1) ∙ key_eq_refl k))

  same_key_in : (s : ℕ) (o : Owner) (x : DbKey) → is_member x (members_in lists_less s o) ≡ true → key_in schema (items_of after) s x ≡ key_in schema (items_of db) s x
  same_key_in s o x h =
      elim (cases_Bool (key_eq k x)) [
        | inl same ↦
            let own = subst (λ (y : DbKey). is_member y (members_in lists_less s o) ≡ true) (sym (same_key k x same)) h in
            let none : has_number s sets ≡ false = false_from_ne_true _ (λ g. false≢true (sym (gone s o g) ∙ own)) in
            subst (λ (y : DbKey). key_in schema (items_of after) s y ≡ key_in schema (items_of db) s y) (same_key k x same) (ap (key_item schema s k.rtype) items_own ∙ same_key_item schema s k.rtype changes (items_of db k) none)
        | inr other ↦ ap (key_item schema s x.rtype) (items_other x other)
      ]

  rings_less : Rings schema (is_live after) (items_of after) lists_less
  rings_less =
      let sound = sound_of schema capacity db legal in
      rings_kept schema (is_live db) (is_live after) (items_of db) (items_of after) db.lists lists_less sound.rings
      (λ s o. same_there s o ∙ sound.rings.pairs s o ∙ same_list s o)
      thin
      (λ s o x h. (live_after x ∙ (sound.rings.members s o x (was_member s o x h)).0, same_key_in s o x h)) where
        same_list : (s : ℕ) (o : Owner) → has_list schema (is_live db) s o ≡ has_list schema (is_live after) s o
        same_list s System = refl
        same_list s (Rec j) = ap (λ b. owns schema s j.rtype && b) (sym (live_after j))

  -- THE RECORD PLACED AGAIN

  abbrev lists_again : Rows
  lists_again = with_placed schema (is_live after) (items_of after) lists_less k again spot_again

  -- where an equal key is refused, no other member has the new one
  free_again : CanChange schema capacity db changes k → (s : ℕ) (o : Owner) → again s o ≡ true
      → (refuses_equal (order_of schema s) && list_any (λ x. option_value_eq (sort_key schema after s x) (sort_key schema after s k)) (members_in lists_less s o)) ≡ false
  free_again can s o h =
      let hs = and_parts _ _ h in
      let owner = owner_of_member schema capacity db legal s o k hs.1 in
      let taken : list_any equal (members_in lists_less s o) ≡ sort_key_taken schema (whole schema capacity db) k items s
      = ap (list_any equal) (list_again s o h) ∙ as_before (members_of db s o) ∙ ap (some_and (λ p. list_any has_new (members_of db s p))) (sym owner) in
      ap (λ b. refuses_equal (order_of schema s) && b) taken ∙ can.key_free s hs.0 where
        equal : DbKey → Bool
        equal x = option_value_eq (sort_key schema after s x) (sort_key schema after s k)

        has_new : DbKey → Bool
        has_new x = not (key_eq k x) && option_value_eq (sort_key schema db s x) (key_item schema s k.rtype items)

        same : (x : DbKey) → key_eq k x ≡ false → equal x ≡ option_value_eq (sort_key schema db s x) (key_item schema s k.rtype items)
        same x other = λ d. option_value_eq (key_item schema s x.rtype (items_other x other d)) (key_item schema s k.rtype (items_own d))

        -- the others have the sort keys that they had
        as_before : (list : List DbKey) → list_any equal (without k list) ≡ list_any has_new list
        as_before [] = refl
        as_before (x ∷ list) = elim (cases_Bool (key_eq k x)) [
          | inl own ↦ ap (λ b. list_any equal (cond (not b) (x ∷ without k list) (without k list))) own ∙ as_before list
              ∙ sym (ap (λ b. (not b && option_value_eq (sort_key schema db s x) (key_item schema s k.rtype items)) || list_any has_new list) own)
          | inr other ↦ ap (λ b. list_any equal (cond (not b) (x ∷ without k list) (without k list))) other ∙ (λ d. same x other d || as_before list d)
              ∙ sym (ap (λ b. (not b && option_value_eq (sort_key schema db s x) (key_item schema s k.rtype items)) || list_any has_new list) other)
        ]

  rings_again : CanChange schema capacity db changes k → IsSound schema → Stock schema capacity (is_live after) (items_of after) db.last → Rings schema (is_live after) (items_of after) lists_again
  rings_again can good stock =
      rings_placed schema (is_live after) (items_of after) lists_less k again (λ s. option_and_then (λ place. place.at) (place_in schema unit s)) good stock.typed rings_less (live_after k ∙ live)
      (λ s o h. (legal.members s o k (and_parts _ _ h).1).1)
      (λ s o p h. gone s p (and_parts _ _ h).0)
      (λ s o p h g. legal.in_one s o p k (and_parts _ _ h).1 (and_parts _ _ g).1)
      (free_again can)

  -- a member is a member again
  member_again : (s : ℕ) (o : Owner) (m : DbKey) → is_member m (members_of db s o) ≡ true → is_member m (members_in lists_again s o) ≡ true
  member_again s o m h =
      let is = member_with_placed schema (is_live after) (items_of after) lists_less k again spot_again s o m in
      elim (cases_Bool (again s o)) [
        | inl a ↦ elim (cases_Bool (key_eq k m)) [
          | inl same ↦ is ∙ or_left _ _ (and_from _ _ (and_from _ _ a (same_there s o ∙ member_has_a_list m (db.lists s o) h)) (key_swap k m same))
          | inr other ↦ is ∙ or_right _ _ (subst (λ list. is_member m list ≡ true) (sym (list_again s o a)) (keeps_member m (λ x. not (key_eq k x)) (members_of db s o) h (not_from_false _ other)))
        ]
        | inr n ↦ is ∙ or_right _ _ (subst (λ list. is_member m list ≡ true) (sym (list_else s o n)) h)
      ]

  -- the lists of the effect are these
  abbrev lists_modified : Rows
  lists_modified s o = cond (again s o) (option_map (λ list. joined schema after unit s k (without k list)) (db.lists s o)) (db.lists s o)

  same_lists : lists_again ≡ lists_modified
  same_lists = λ i s o. at s o i where
    at : (s : ℕ) (o : Owner) → lists_again s o ≡ lists_modified s o
    at s o =
        elim (again s o) as (λ b. cond b (option_map (placed (spot_again s) k) (cond b (option_map (without k) (db.lists s o)) (db.lists s o))) (cond b (option_map (without k) (db.lists s o)) (db.lists s o))
        ≡ cond b (option_map (λ list. joined schema after unit s k (without k list)) (db.lists s o)) (db.lists s o)) [
          | true ↦ elim (db.lists s o) as (λ l. option_map (placed (spot_again s) k) (option_map (without k) l) ≡ option_map (λ list. joined schema after unit s k (without k list)) l) [ None ↦ refl | Some list ↦ refl ]
          | false ↦ refl
        ]

  pub modify_legal : IsSound schema → CanChange schema capacity db changes k → Legal schema capacity (modified schema capacity db unit changes k).database
  modify_legal good can =
      let stock = stock_after can in
      legal_raised schema capacity (key_eq k) (record after { lists = lists_modified })
      (subst (λ (lists : Rows). Sound schema capacity (is_live after) (items_of after) lists db.last) same_lists (record {
        stock = stock;
        rings = rings_again can good stock;
        fixed = λ s m h fix. let r = legal.mandatory_automatic s m (was_live m h) fix in (r.0, member_again s r.0 m r.1);
      }))
      (uses_of schema capacity db legal)
