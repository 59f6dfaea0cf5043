-- INSERT and REMOVE keep a database legal.
use Rattle.std.proofs.Common.{◌&&◌, ◌≡◌, refl, sym, ◌∙◌, subst, ℕ, Bool, true, false, cond, not, [], ◌∷◌, Some, None, ⊎_elim, eqb}
use Rattle.std.specs.Prelude.{is_some, option_map, unwrap_or, filter}
use Rattle.std.specs.List.{list_any}
use Rattle.std.proofs.lemmas.Bool.{and_parts, or_cases, or_right, false≢true, eqb-true, not_from_false, false_from_ne_true}
use Rattle.dbtg_schema.specs.Lists.{Lists}
use Rattle.dbtg_schema.specs.Sound.{IsSound}
use Rattle.dbtg_schema.specs.Structure.{member_clause, order_of}
use Rattle.dbtg_schema.proofs.Public.{none_is}
use Rattle.dbtg_cells.specs.declared.key.DbKey.{DbKey}
use Rattle.dbtg_cells.specs.declared.key.Owner.{Owner}
use Rattle.dbtg_cells.specs.Keys.{key_eq}
use Rattle.dbtg_cells.proofs.Public.{same_key}
use Rattle.dbtg_unit.specs.declared.unit.Unit.{Unit}
use Rattle.dbtg_unit.specs.Database.State.Base.{Database, is_live, items_of, is_member, members_of, owner_of, sort_key}
use Rattle.dbtg_unit.specs.Database.Statements.Effect.{connected_in, inserted, removed, without, is_current_owner, refuses_equal, option_value_eq}
use Rattle.dbtg_unit.specs.Database.State.Legal.{Legal}
use Rattle.dbtg_unit.proofs.Database.Legal.LegalParts.{Rows, is_fixed, members_in, sound_of, uses_of, legal_raised}
use Rattle.dbtg_unit.proofs.Database.Legal.ListsChanged.{filter_true, rings_kept, member_with_placed, member_kept, keeps_member}
use Rattle.dbtg_unit.proofs.Database.Records.LiveKeys.{member_nowhere}
use Rattle.dbtg_unit.proofs.Database.Legal.PassedChecks.{has_number}
use Rattle.dbtg_unit.proofs.Database.Legal.LegalConnect.{CanJoin, connected_rings, joins, spot_in}

alone : (s t : ℕ) → has_number t (s ∷ []) ≡ true → s ≡ t
alone s t h = ⊎_elim (λ e. eqb-true s t e) (λ e. absurd (false≢true e)) (or_cases (eqb s t) false h)

module _ (schema : Lists) (capacity : ℕ) (db : Database) (unit : Unit) (s : ℕ) (k : DbKey) (legal : Legal schema capacity db) where
  pub insert_legal : IsSound schema → is_live db k ≡ true → is_some (member_clause schema s k.rtype) ≡ true → is_some (owner_of schema capacity db s k) ≡ false → CanJoin schema db unit s (sort_key schema db s k)
      → Legal schema capacity (inserted schema db unit s k).database
  insert_legal good live clause free join =
      let sound = sound_of schema capacity db legal in
      legal_raised schema capacity (key_eq k) (connected_in schema db unit (s ∷ []) k)
      (record {
        stock = sound.stock;
        rings = connected_rings schema unit (s ∷ []) (is_live db) (items_of db) db.lists k good sound.stock.typed sound.rings live
            (λ t h. subst (λ r. is_some (member_clause schema r k.rtype) ≡ true) (alone s t h) clause)
            (λ t o h. subst (λ r. is_member k (members_of db r o) ≡ false) (alone s t h) (member_nowhere schema capacity db legal s k (none_is (owner_of schema capacity db s k) free) o))
            (λ t o j. let js = and_parts _ _ j in
            subst (λ r. is_current_owner schema unit r o ≡ true → (refuses_equal (order_of schema r) && list_any (λ x. option_value_eq (sort_key schema db r x) (sort_key schema db r k)) (members_of db r o)) ≡ false) (alone s t js.0) (join.owner_differs o) js.1);
        fixed = λ t m alive fix. let r = sound.fixed t m alive fix in
            (r.0, member_with_placed schema (is_live db) (items_of db) db.lists k (joins schema unit (s ∷ []) (is_live db) (items_of db) db.lists k) (spot_in schema unit (s ∷ []) (is_live db) (items_of db) db.lists k) t r.0 m ∙ or_right _ _ r.1);
      })
      (uses_of schema capacity db legal)

  abbrev lists_after : Rows
  lists_after t o = cond (eqb t s) (option_map (without k) (db.lists t o)) (db.lists t o)

  thin : (t : ℕ) (o : Owner) → (p : DbKey → Bool) × (members_in lists_after t o ≡ filter p (members_in db.lists t o))
  thin t o =
      elim (eqb t s) as (λ b. (p : DbKey → Bool) × (unwrap_or (cond b (option_map (without k) (db.lists t o)) (db.lists t o)) [] ≡ filter p (unwrap_or (db.lists t o) []))) [
        | true ↦ (λ x. not (key_eq k x), elim (db.lists t o) as (λ l. unwrap_or (option_map (without k) l) [] ≡ filter (λ x. not (key_eq k x)) (unwrap_or l [])) [ None ↦ refl | Some list ↦ refl ])
        | false ↦ (λ x. true, filter_true (unwrap_or (db.lists t o) []))
      ]

  same_there : (t : ℕ) (o : Owner) → is_some (lists_after t o) ≡ is_some (db.lists t o)
  same_there t o =
      elim (eqb t s) as (λ b. is_some (cond b (option_map (without k) (db.lists t o)) (db.lists t o)) ≡ is_some (db.lists t o)) [
        | true ↦ elim (db.lists t o) as (λ l. is_some (option_map (without k) l) ≡ is_some l) [ None ↦ refl | Some list ↦ refl ]
        | false ↦ refl
      ]

  -- every member stays, except k in set s
  stays : (t : ℕ) (o : Owner) (m : DbKey) → (t ≡ s → key_eq k m ≡ false) → is_member m (members_in db.lists t o) ≡ true → is_member m (members_in lists_after t o) ≡ true
  stays t o m other h =
      elim (eqb t s) as (λ b. (eqb t s ≡ b) → is_member m (unwrap_or (cond b (option_map (without k) (db.lists t o)) (db.lists t o)) []) ≡ true) [
        | true ↦ λ e. (elim (db.lists t o) as (λ l. is_member m (unwrap_or l []) ≡ true → is_member m (unwrap_or (option_map (without k) l) []) ≡ true) [
          | None ↦ λ g. g
          | Some list ↦ λ g. keeps_member m (λ x. not (key_eq k x)) list g (not_from_false _ (other (eqb-true t s e)))
        ]) h
        | false ↦ λ e. h
      ] refl

  pub remove_legal : is_fixed schema s k.rtype ≡ false → Legal schema capacity (removed db unit s k).database
  remove_legal free =
      let sound = sound_of schema capacity db legal in
      legal_raised schema capacity (key_eq k) (record db { lists = lists_after })
      (record {
        stock = sound.stock;
        rings = rings_kept schema (is_live db) (is_live db) (items_of db) (items_of db) db.lists lists_after sound.rings
            (λ t o. same_there t o ∙ sound.rings.pairs t o)
            thin
            (λ t o x h. ((sound.rings.members t o x (member_kept x (thin t o).0 (members_in db.lists t o) (subst (λ list. is_member x list ≡ true) (thin t o).1 h)).0).0, refl));
        fixed = λ t m alive fix. let r = sound.fixed t m alive fix in (r.0, stays t r.0 m (λ same. other t m same fix) r.1);
      })
      (uses_of schema capacity db legal) where
        other : (t : ℕ) (m : DbKey) → t ≡ s → is_fixed schema t m.rtype ≡ true → key_eq k m ≡ false
        other t m same fix = false_from_ne_true _ (λ e. false≢true (sym free ∙ subst (λ (x : DbKey). is_fixed schema s x.rtype ≡ true) (sym (same_key k m e)) (subst (λ r. is_fixed schema r m.rtype ≡ true) same fix)))
