-- STORE keeps a database legal.
use Rattle.dbtg_unit.specs.Database.Statements.StoredFacts.{whole}
use Rattle.std.proofs.Common.{Bool, ◌≡◌, refl, sym, ◌∙◌, ap, subst, ℕ, ◌+◌, ◌<◌, ◌≤◌, true, false, cond, ◌&&◌, ◌||◌, List, [], length, Option, Some, None, inl, inr, ⊎_elim, ◌⊎◌, eqb, arith}
use Rattle.std.specs.Prelude.{is_some, is_none, option_map, option_and_then, unwrap_or, slice_get}
use Rattle.std.specs.List.{find, list_any}
use Rattle.std.proofs.lemmas.Bool.{and_parts, and_from, and_right, or_right, or_left, cases_Bool, cond_both, false≢true, eqb-true, eq-eqb, false_from_ne_true}
use Rattle.std.proofs.lemmas.Option.{slice_get_within}
use Rattle.dbtg_schema.specs.Lists.{Lists}
use Rattle.dbtg_schema.specs.Sound.{IsSound}
use Rattle.dbtg_schema.specs.declared.shape.Member.{Member}
use Rattle.dbtg_schema.specs.declared.shape.SetType.{SetType}
use Rattle.dbtg_schema.specs.Lookups.{some_and}
use Rattle.dbtg_schema.specs.Structure.{automatic_sets, order_of, is_automatic, is_mandatory, member_clause, owns, pictures, set_numbers}
use Rattle.dbtg_cells.specs.declared.key.DbKey.{DbKey}
use Rattle.dbtg_cells.specs.declared.key.Owner.{Owner}
use Rattle.dbtg_cells.specs.declared.key.Owner.TheVariants.{System, Rec}
use Rattle.dbtg_cells.specs.declared.key.Value.{Value}
use Rattle.dbtg_cells.specs.Keys.{key_eq, owner_eq, values_eq}
use Rattle.dbtg_cells.proofs.Public.{key_eq_refl, same_key, same_owner}
use Rattle.dbtg_unit.specs.declared.unit.Unit.{Unit}
use Rattle.dbtg_unit.specs.Database.State.Base.{Database, Record, is_live, items_of, key_at, is_member, members_of, key_item, sort_key, calc_items}
use Rattle.dbtg_unit.specs.Database.State.Units.{place_in}
use Rattle.dbtg_unit.specs.Database.Statements.Fits.{values_fit}
use Rattle.dbtg_unit.specs.Database.Statements.Effect.{calc_taken, connected_in, is_current_owner, new_key, option_value_eq, refuses_equal, with_new}
use Rattle.dbtg_unit.specs.Database.State.Legal.{Legal}
use Rattle.dbtg_unit.proofs.Database.Records.ValuesOfPictures.{values_swap}
use Rattle.dbtg_unit.proofs.Database.Legal.LegalParts.{Rings, Stock, unique_calc, is_fixed, members_in, key_in, has_list, sound_of, uses_of, legal_from}
use Rattle.dbtg_unit.proofs.Database.Legal.ListsChanged.{rings_kept, member_with_placed, filter_true}
use Rattle.dbtg_unit.proofs.Database.Legal.PassedChecks.{has_number, number_passes, number_kept, number_in}
use Rattle.dbtg_unit.proofs.Database.Records.NoCalcKey.{any_member, member_of_any, not_taken}
use Rattle.dbtg_unit.proofs.Database.Legal.LegalConnect.{CanJoin, connected_rings, joins, spot_in, place_owner}

-- a number of a type that no live record has and that is not spent, and items of that type
pub record IsFresh (schema : Lists) (capacity : ℕ) (db : Database) (t n : ℕ) (its : List Value) : Type 0 where
  pub in_schema : t < length schema.types
  pub low : 0 < n
  pub high : n ≤ capacity
  pub unused : is_live db (key_at db t n) ≡ false
  pub unspent : db.last t n < 255
  pub fit : values_fit (pictures schema t) its ≡ true

module _ (schema : Lists) (capacity : ℕ) (db : Database) (t n : ℕ) (its : List Value) (legal : Legal schema capacity db) (new : IsFresh schema capacity db t n its) where
  abbrev pub k : DbKey
  k = new_key db t n

  abbrev pub after : Database
  after = with_new schema db k its

  not_yet : is_live db k ≡ false
  not_yet = false_from_ne_true _ (λ h. let g = (legal.keys k h).4 in absurd (omega arith))

  live_after : (x : DbKey) → key_eq k x ≡ false → is_live after x ≡ is_live db x
  live_after x other = ap (λ b. is_some (cond b (Some (record { items = its; version = 1 })) (db.records x))) other

  pub live_new : (x : DbKey) → key_eq k x ≡ true → is_live after x ≡ true
  live_new x same = ap (λ b. is_some (cond b (Some (record { items = its; version = 1 })) (db.records x))) same

  items_after : (x : DbKey) → key_eq k x ≡ false → items_of after x ≡ items_of db x
  items_after x other = ap (λ b. unwrap_or (option_map (λ (r : Record). r.items) (cond b (Some (record { items = its; version = 1 })) (db.records x))) []) other

  items_new : (x : DbKey) → key_eq k x ≡ true → items_of after x ≡ its
  items_new x same = ap (λ b. unwrap_or (option_map (λ (r : Record). r.items) (cond b (Some (record { items = its; version = 1 })) (db.records x))) []) same

  -- a key that was live differs from the new one
  other_key : (x : DbKey) → is_live db x ≡ true → key_eq k x ≡ false
  other_key x h = false_from_ne_true _ (λ same. false≢true (sym not_yet ∙ subst (λ (y : DbKey). is_live db y ≡ true) (sym (same_key k x same)) h))

  still_live : (x : DbKey) → is_live db x ≡ true → is_live after x ≡ true
  still_live x h = live_after x (other_key x h) ∙ h

  -- a live key is the new one or was live
  new_or_old : (x : DbKey) → is_live after x ≡ true → (key_eq k x ≡ true) ⊎ ((key_eq k x ≡ false) × (is_live db x ≡ true))
  new_or_old x h = elim (cases_Bool (key_eq k x)) [ inl e ↦ inl e | inr e ↦ inr (e, sym (live_after x e) ∙ h) ]

  -- no live record has the number
  other_number : (x : DbKey) → is_live db x ≡ true → (eqb x.rtype t && eqb x.number n) ≡ false
  other_number x h = false_from_ne_true _ (λ e.
      let es = and_parts (eqb x.rtype t) (eqb x.number n) e in
      let et = eqb-true x.rtype t es.0 in
      let en = eqb-true x.number n es.1 in
      let g = (legal.keys x h).4 in
      let at : x ≡ key_at db t n = λ i. record { rtype = et i; number = en i; generation = (g ∙ (λ j. db.last (et j) (en j))) i } in
      false≢true (sym new.unused ∙ subst (λ (y : DbKey). is_live db y ≡ true) at h))

  stock_after : calc_taken schema (whole schema capacity db) t its None ≡ false → Stock schema capacity (is_live after) (items_of after) after.last
  stock_after free =
      record {
        keys = λ x h. ⊎_elim (λ same. subst (λ (y : DbKey). (y.rtype < length schema.types) × (0 < y.number) × (y.number ≤ capacity) × (0 < y.generation) × (y.generation ≡ after.last y.rtype y.number)) (same_key k x same) key_new) (λ old. key_old x old.1) (new_or_old x h);
        typed = λ x h. ⊎_elim
            (λ same. subst (λ (its' : List Value). values_fit (pictures schema x.rtype) its' ≡ true) (sym (items_new x same)) (subst (λ (y : DbKey). values_fit (pictures schema y.rtype) its ≡ true) (same_key k x same) new.fit))
            (λ old. subst (λ (its' : List Value). values_fit (pictures schema x.rtype) its' ≡ true) (sym (items_after x old.0)) (legal.items x old.1))
            (new_or_old x h);
        generations = λ u m. cond_both (eqb u t && eqb m n) (db.last t n + 1) (db.last u m) (λ g. g ≤ 255) (λ e. let h = new.unspent in omega arith) (λ e. legal.generations u m);
        no_number = λ u m out. cond_both (eqb u t && eqb m n) (db.last t n + 1) (db.last u m) (λ g. g ≡ 0) (λ e. absurd (inside u m e out)) (λ e. legal.no_number u m out);
        calc = λ i j hi hj same unique eq. ⊎_elim
            (λ a. ⊎_elim
            (λ b. sym (same_key k i a) ∙ same_key k j b)
            (λ b. absurd (clash i j a b.0 b.1 (sym same) unique (values_swap (calc_items schema i.rtype (items_of after i)) (calc_items schema j.rtype (items_of after j)) eq)))
            (new_or_old j hj))
            (λ a. ⊎_elim
            (λ b. absurd (clash j i b a.0 a.1 same (subst (λ u. unique_calc schema u ≡ true) same unique) eq))
            (λ b. legal.calc i j a.1 b.1 same unique (sym (λ d. values_eq (calc_items schema i.rtype (items_after i a.0 d)) (calc_items schema j.rtype (items_after j b.0 d))) ∙ eq))
            (new_or_old j hj))
            (new_or_old i hi);
      } where
        key_new : (t < length schema.types) × (0 < n) × (n ≤ capacity) × (0 < db.last t n + 1) × (db.last t n + 1 ≡ after.last t n)
        key_new = (new.in_schema, new.low, new.high, omega arith, sym (ap (λ b. cond b (db.last t n + 1) (db.last t n)) (and_from _ _ (eq-eqb t t refl) (eq-eqb n n refl))))

        key_old : (x : DbKey) → is_live db x ≡ true → (x.rtype < length schema.types) × (0 < x.number) × (x.number ≤ capacity) × (0 < x.generation) × (x.generation ≡ after.last x.rtype x.number)
        key_old x h = let r = legal.keys x h in (r.0, r.1, r.2, r.3, r.4 ∙ sym (ap (λ b. cond b (db.last t n + 1) (db.last x.rtype x.number)) (other_number x h)))

        inside : (u m : ℕ) → (eqb u t && eqb m n) ≡ true → (length schema.types ≤ u) ⊎ (m ≡ 0) ⊎ (capacity < m) → ⊥
        inside u m e out =
            let es = and_parts (eqb u t) (eqb m n) e in
            let et = eqb-true u t es.0 in
            let en = eqb-true m n es.1 in
            let a = new.in_schema in
            let b = new.low in
            let c = new.high in
            elim out [ inl g ↦ omega arith | inr g ↦ elim g [ inl z ↦ omega arith | inr z ↦ omega arith ] ]

        -- an old record with the CALC key of the new one
        clash : (i j : DbKey) → key_eq k i ≡ true → key_eq k j ≡ false → is_live db j ≡ true → j.rtype ≡ i.rtype → unique_calc schema i.rtype ≡ true → values_eq (calc_items schema j.rtype (items_of after j)) (calc_items schema i.rtype (items_of after i)) ≡ true → ⊥
        clash i j a b live same unique eq =
            let type_i : i.rtype ≡ t = ap (λ (y : DbKey). y.rtype) (sym (same_key k i a)) in
            let type_j = same ∙ type_i in
            false≢true
            (sym (not_taken schema capacity db t its None legal free (subst (λ u. unique_calc schema u ≡ true) type_i unique) j live type_j refl)
            ∙ sym (λ d. values_eq (calc_items schema (type_j d) (items_after j b d)) (calc_items schema (type_i d) (items_new i a d)))
            ∙ eq)

  -- the members are those that were there
  same_members : (s : ℕ) (o : Owner) → members_in after.lists s o ≡ members_in db.lists s o
  same_members s o =
      elim (cases_Bool (owns schema s t && owner_eq (Rec k) o)) [
        | inl e ↦
            let es = and_parts (owns schema s t) (owner_eq (Rec k) o) e in
            let none : is_some (db.lists s o) ≡ false = subst (λ (p : Owner). is_some (db.lists s p) ≡ false) (same_owner (Rec k) o es.1) (legal.pairs s (Rec k) ∙ and_right _ _ not_yet) in
            ap (λ b. unwrap_or (cond b (Some []) (db.lists s o)) []) e ∙ sym (empty (db.lists s o) none)
        | inr e ↦ ap (λ b. unwrap_or (cond b (Some []) (db.lists s o)) []) e
      ] where
        empty : (list : Option (List DbKey)) → is_some list ≡ false → unwrap_or list [] ≡ []
        empty None h = refl
        empty (Some list) h = absurd (false≢true (sym h))

  was_member : (s : ℕ) (o : Owner) (x : DbKey) → is_member x (members_in after.lists s o) ≡ true → is_member x (members_in db.lists s o) ≡ true
  was_member s o x h = subst (λ list. is_member x list ≡ true) (same_members s o) h

  still_member : (s : ℕ) (o : Owner) (x : DbKey) → is_member x (members_in db.lists s o) ≡ true → is_member x (members_in after.lists s o) ≡ true
  still_member s o x h = subst (λ list. is_member x list ≡ true) (sym (same_members s o)) h

  same_key_in : (s : ℕ) (x : DbKey) → is_live db x ≡ true → key_in schema (items_of after) s x ≡ key_in schema (items_of db) s x
  same_key_in s x h = ap (key_item schema s x.rtype) (items_after x (other_key x h))

  pairs_after : (s : ℕ) (o : Owner) → is_some (after.lists s o) ≡ has_list schema (is_live after) s o
  pairs_after s System = ap (λ b. is_some (cond b (Some []) (db.lists s System))) (and_right (owns schema s t) false refl) ∙ legal.pairs s System
  pairs_after s (Rec j) =
      elim (cases_Bool (key_eq k j)) [
        | inl same ↦ subst (λ (x : DbKey). is_some (after.lists s (Rec x)) ≡ (owns schema s x.rtype && is_live after x)) (same_key k j same) own
        | inr other ↦
            ap (λ b. is_some (cond b (Some []) (db.lists s (Rec j)))) (and_right (owns schema s t) (key_eq k j) other)
            ∙ legal.pairs s (Rec j) ∙ ap (λ b. owns schema s j.rtype && b) (sym (live_after j other))
      ] where
        own : is_some (after.lists s (Rec k)) ≡ (owns schema s t && is_live after k)
        own =
            ap (λ b. is_some (cond (owns schema s t && b) (Some []) (db.lists s (Rec k)))) (key_eq_refl k)
            ∙ (elim (owns schema s t) as (λ b. is_some (db.lists s (Rec k)) ≡ (b && is_live db k) → is_some (cond (b && true) (Some []) (db.lists s (Rec k))) ≡ (b && is_live after k)) [
              | true ↦ λ h. sym (live_new k (key_eq_refl k))
              | false ↦ λ h. h
            ]) (legal.pairs s (Rec k))

  rings_after : Rings schema (is_live after) (items_of after) after.lists
  rings_after =
      let sound = sound_of schema capacity db legal in
      rings_kept schema (is_live db) (is_live after) (items_of db) (items_of after) db.lists after.lists sound.rings pairs_after (λ s o. (λ x. true, same_members s o ∙ filter_true (members_in db.lists s o)))
      (λ s o x h. let live = (sound.rings.members s o x (was_member s o x h)).0 in (still_live x live, same_key_in s x live))

  some_clause : (m : Option Member) → some_and (λ m. is_automatic m.class) m ≡ true → is_some m ≡ true
  some_clause None h = absurd (false≢true h)
  some_clause (Some m) h = refl

  automatic_clause : (s : ℕ) → has_number s (automatic_sets schema t) ≡ true → some_and (λ m. is_automatic m.class) (member_clause schema s t) ≡ true
  automatic_clause s h = (number_passes (λ r. some_and (λ m. is_automatic m.class) (member_clause schema r t)) s (set_numbers schema) h).1

  -- a set of which the type is a fixed member is one of its automatic sets
  fixed_automatic : (s : ℕ) → is_fixed schema s t ≡ true → has_number s (automatic_sets schema t) ≡ true
  fixed_automatic s h =
      number_kept (λ r. some_and (λ m. is_automatic m.class) (member_clause schema r t)) s (set_numbers schema) (at_set (slice_get schema.sets s) refl h) (at_clause (member_clause schema s t) h) where
        at_clause : (m : Option Member) → some_and (λ c. is_mandatory c.class && is_automatic c.class) m ≡ true → some_and (λ m. is_automatic m.class) m ≡ true
        at_clause None h = h
        at_clause (Some m) h = (and_parts _ _ h).1

        at_set : (set : Option SetType) → slice_get schema.sets s ≡ set → some_and (λ c. is_mandatory c.class && is_automatic c.class) (option_and_then (λ x. find (λ member. eqb member.rtype t) x.members) set) ≡ true → has_number s (set_numbers schema) ≡ true
        at_set None e h = absurd (false≢true h)
        at_set (Some set) e h = let low = slice_get_within schema.sets s set e in number_in s 0 (length schema.sets) (omega arith) (omega arith)

  pub store_legal : (unit : Unit) → IsSound schema → calc_taken schema (whole schema capacity db) t its None ≡ false
      → ((s : ℕ) → has_number s (automatic_sets schema t) ≡ true → is_none (place_in schema unit s) ≡ false)
      → ((s : ℕ) → has_number s (automatic_sets schema t) ≡ true → CanJoin schema db unit s (key_item schema s t its))
      → Legal schema capacity (connected_in schema after unit (automatic_sets schema t) k)
  store_legal unit good free placed join =
      let stock = stock_after free in
      legal_from schema capacity (connected_in schema after unit (automatic_sets schema t) k)
      (record {
        stock = stock;
        rings = connected_rings schema unit (automatic_sets schema t) (is_live after) (items_of after) after.lists k good stock.typed rings_after (live_new k (key_eq_refl k))
            (λ s h. some_clause (member_clause schema s t) (automatic_clause s h))
            (λ s o h. false_from_ne_true _ (λ g. false≢true (sym not_yet ∙ (legal.members s o k (was_member s o k g)).0)))
            (λ s o j. let js = and_parts _ _ j in still_free (refuses_equal (order_of schema s)) _ _ (equal_was s o) ((join s js.0).owner_differs o js.1));
        fixed = λ s m live fix. ⊎_elim
            (λ same. subst (λ (x : DbKey). (o : Owner) × (is_member x (members_in (connected_in schema after unit (automatic_sets schema t) k).lists s o) ≡ true)) (same_key k m same) (joined s (subst (λ (x : DbKey). is_fixed schema s x.rtype ≡ true) (sym (same_key k m same)) fix)))
            (λ old. let r = legal.mandatory_automatic s m old.1 fix in (r.0, member_in s r.0 m ∙ or_right _ _ (still_member s r.0 m r.1)))
            (new_or_old m live);
      })
      (uses_of schema capacity db legal) where
        still_free : (a b c : Bool) → (c ≡ true → b ≡ true) → (a && b) ≡ false → (a && c) ≡ false
        still_free true b c w h = false_from_ne_true c (λ g. false≢true (sym h ∙ w g))
        still_free false b c w h = refl

        -- an equal key that is there was there
        equal_was : (s : ℕ) (o : Owner) → list_any (λ x. option_value_eq (key_in schema (items_of after) s x) (key_in schema (items_of after) s k)) (members_in after.lists s o) ≡ true
            → list_any (λ x. option_value_eq (sort_key schema db s x) (key_item schema s t its)) (members_of db s o) ≡ true
        equal_was s o g =
            let m = member_of_any (λ x. option_value_eq (key_in schema (items_of after) s x) (key_in schema (items_of after) s k)) (members_in after.lists s o) g in
            let was = was_member s o m.0 m.1 in
            let live = (legal.members s o m.0 was).0 in
            any_member (λ x. option_value_eq (sort_key schema db s x) (key_item schema s t its)) (members_of db s o) m.0 was
            (sym (λ d. option_value_eq (same_key_in s m.0 live d) (key_item schema s t (items_new k (key_eq_refl k) d))) ∙ m.2)

        member_in : (s : ℕ) (o : Owner) (x : DbKey) → is_member x (members_in (connected_in schema after unit (automatic_sets schema t) k).lists s o) ≡ ((joins schema unit (automatic_sets schema t) (is_live after) (items_of after) after.lists k s o && is_some (after.lists s o) && key_eq x k) || is_member x (members_in after.lists s o))
        member_in s o x = member_with_placed schema (is_live after) (items_of after) after.lists k (joins schema unit (automatic_sets schema t) (is_live after) (items_of after) after.lists k) (spot_in schema unit (automatic_sets schema t) (is_live after) (items_of after) after.lists k) s o x

        joined : (s : ℕ) → is_fixed schema s t ≡ true → (o : Owner) × (is_member k (members_in (connected_in schema after unit (automatic_sets schema t) k).lists s o) ≡ true)
        joined s fix =
            let auto = fixed_automatic s fix in
            let owner = (unwrap_or (place_in schema unit s) (record { owner = System; at = None })).owner in
            let current : is_current_owner schema unit s owner ≡ true = place_owner (place_in schema unit s) (placed s auto) in
            let there : is_some (after.lists s owner) ≡ true = cond_both (owns schema s t && owner_eq (Rec k) owner) _ _ (λ l. is_some l ≡ true) (λ e. refl) (λ e. (join s auto).list owner current) in
            (owner, member_in s owner k ∙ or_left _ _ (and_from _ _ (and_from _ _ (and_from _ _ auto current) there) (key_eq_refl k)))
