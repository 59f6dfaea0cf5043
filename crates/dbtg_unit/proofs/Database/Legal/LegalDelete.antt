-- DELETE keeps a database legal, in each of its forms.
use Rattle.dbtg_unit.specs.Database.Statements.StoredFacts.{whole}
use Rattle.std.proofs.Common.{◌≡◌, refl, sym, ◌∙◌, ap, subst, ℕ, Bool, true, false, cond, not, ◌&&◌, ◌||◌, List, [], ◌∷◌, length, Option, Some, None, inl, inr, ltb, arith}
use Rattle.std.specs.Prelude.{is_some, option_map, unwrap_or, filter}
use Rattle.std.specs.List.{list_any}
use Rattle.std.proofs.lemmas.Bool.{and_parts, and_from, and_right, or_right, cases_Bool, false≢true, false_from_ne_true, not_from_false, not-true, lt-ltb}
use Rattle.dbtg_schema.specs.Lists.{Lists}
use Rattle.dbtg_schema.specs.Lookups.{some_and}
use Rattle.dbtg_schema.specs.Structure.{is_automatic, is_mandatory, member_clause, owns, set_numbers}
use Rattle.dbtg_schema.specs.declared.shape.Member.{Member}
use Rattle.dbtg_schema.proofs.Public.{least_closed_is_least}
use Rattle.dbtg_cells.specs.declared.key.DbKey.{DbKey}
use Rattle.dbtg_cells.specs.declared.key.Owner.{Owner}
use Rattle.dbtg_cells.specs.declared.key.Owner.TheVariants.{System, Rec}
use Rattle.dbtg_cells.specs.declared.key.Value.{Value}
use Rattle.dbtg_cells.specs.Keys.{key_eq, values_eq}
use Rattle.dbtg_unit.specs.declared.statement.Erase.{Erase}
use Rattle.dbtg_unit.specs.declared.statement.Erase.TheVariants.{Plain, Only, Selective, All}
use Rattle.dbtg_unit.specs.declared.unit.Unit.{Unit}
use Rattle.dbtg_unit.specs.Database.State.Base.{Database, Record, is_live, items_of, is_member, members_of, calc_items, key_item}
use Rattle.dbtg_unit.specs.Database.Statements.Doomed.{all_keys, doomed, drags, takes, is_elsewhere}
use Rattle.dbtg_unit.specs.Database.Statements.Effect.{deleted, has_members, is_gone, is_plain}
use Rattle.dbtg_unit.specs.Database.Statements.Fits.{values_fit}
use Rattle.dbtg_unit.specs.Database.State.Legal.{Legal}
use Rattle.dbtg_schema.specs.Structure.{pictures}
use Rattle.dbtg_cells.proofs.Public.{same_key}
use Rattle.dbtg_unit.proofs.Database.Legal.LegalParts.{Rings, Stock, is_fixed, has_list, members_in, sound_of, uses_of, legal_raised}
use Rattle.dbtg_unit.proofs.Database.Legal.ListsChanged.{keeps_member, member_kept, member_passes, rings_kept}
use Rattle.dbtg_unit.proofs.Database.Legal.PassedChecks.{any_number}
use Rattle.dbtg_unit.proofs.Database.Records.LiveKeys.{in_member, live_in_all}
use Rattle.dbtg_unit.proofs.Database.Records.NoCalcKey.{any_member}
use Rattle.dbtg_unit.proofs.Database.Records.ItemsAfterModify.{set_has_number}

module _ (schema : Lists) (capacity : ℕ) (db : Database) (option : Erase) (k : DbKey) (legal : Legal schema capacity db) where
  abbrev gone : List DbKey
  gone = doomed schema capacity db option k

  abbrev stays : DbKey → Bool
  stays x = not (is_member x gone)

  abbrev after : Database
  after =
      record db {
        records = λ x. cond (is_member x gone) None (db.records x);
        lists = λ s o. cond (is_gone gone o) None (option_map (filter stays) (db.lists s o));
      }

  live_after : (x : DbKey) → is_live after x ≡ true → (is_member x gone ≡ false) × (is_live db x ≡ true)
  live_after x h =
      elim (cases_Bool (is_member x gone)) [
        | inl e ↦ absurd (false≢true (ap (λ b. is_some (cond b None (db.records x))) (sym e) ∙ h))
        | inr e ↦ (e, ap (λ b. is_some (cond b None (db.records x))) (sym e) ∙ h)
      ]

  live_kept : (x : DbKey) → is_member x gone ≡ false → is_live after x ≡ is_live db x
  live_kept x e = ap (λ b. is_some (cond b None (db.records x))) e

  items_kept : (x : DbKey) → is_member x gone ≡ false → items_of after x ≡ items_of db x
  items_kept x e = ap (λ b. unwrap_or (option_map (λ (r : Record). r.items) (cond b None (db.records x))) []) e

  stock_after : Stock schema capacity (is_live after) (items_of after) db.last
  stock_after =
      record {
        keys = λ x h. legal.keys x (live_after x h).1;
        typed = λ x h. let l = live_after x h in subst (λ (its : List Value). values_fit (pictures schema x.rtype) its ≡ true) (sym (items_kept x l.0)) (legal.items x l.1);
        generations = legal.generations;
        no_number = legal.no_number;
        calc = λ i j hi hj same unique eq.
            let a = live_after i hi in
            let b = live_after j hj in
            legal.calc i j a.1 b.1 same unique (sym (λ d. values_eq (calc_items schema i.rtype (items_kept i a.0 d)) (calc_items schema j.rtype (items_kept j b.0 d))) ∙ eq);
      }

  -- a key that is still a member was one and stays, and so does the owner
  was_member : (s : ℕ) (o : Owner) (x : DbKey) → is_member x (members_in after.lists s o) ≡ true → (is_member x gone ≡ false) × (is_member x (members_of db s o) ≡ true)
  was_member s o x h =
      elim (cases_Bool (is_gone gone o)) [
        | inl e ↦ absurd (false≢true (ap (λ b. is_member x (unwrap_or (cond b None (option_map (filter stays) (db.lists s o))) [])) (sym e) ∙ h))
        | inr e ↦ of (db.lists s o) (ap (λ b. is_member x (unwrap_or (cond b None (option_map (filter stays) (db.lists s o))) [])) (sym e) ∙ h)
      ] where
        of : (list : Option (List DbKey)) → is_member x (unwrap_or (option_map (filter stays) list) []) ≡ true → (is_member x gone ≡ false) × (is_member x (unwrap_or list []) ≡ true)
        of None h = absurd (false≢true h)
        of (Some list) h = let r = member_kept x stays list h in (not-true _ r.1, r.0)

  still_member : (s : ℕ) (o : Owner) (x : DbKey) → is_gone gone o ≡ false → is_member x gone ≡ false → is_member x (members_of db s o) ≡ true → is_member x (members_in after.lists s o) ≡ true
  still_member s o x e n h = ap (λ b. is_member x (unwrap_or (cond b None (option_map (filter stays) (db.lists s o))) [])) e ∙ of (db.lists s o) h where
    of : (list : Option (List DbKey)) → is_member x (unwrap_or list []) ≡ true → is_member x (unwrap_or (option_map (filter stays) list) []) ≡ true
    of None h = h
    of (Some list) h = keeps_member x stays list h (not_from_false _ n)

  thin : (s : ℕ) (o : Owner) → (p : DbKey → Bool) × (members_in after.lists s o ≡ filter p (members_in db.lists s o))
  thin s o =
      elim (is_gone gone o) as (λ b. (p : DbKey → Bool) × (unwrap_or (cond b None (option_map (filter stays) (db.lists s o))) [] ≡ filter p (unwrap_or (db.lists s o) []))) [
        | true ↦ (λ x. false, nothing (unwrap_or (db.lists s o) []))
        | false ↦ (stays, elim (db.lists s o) as (λ l. unwrap_or (option_map (filter stays) l) [] ≡ filter stays (unwrap_or l [])) [ None ↦ refl | Some list ↦ refl ])
      ] where
        nothing : (xs : List DbKey) → [] ≡ filter (λ x. false) xs
        nothing [] = refl
        nothing (x ∷ xs) = nothing xs

  pairs_after : (s : ℕ) (o : Owner) → is_some (after.lists s o) ≡ has_list schema (is_live after) s o
  pairs_after s System = mapped (db.lists s System) ∙ legal.pairs s System where
    mapped : (list : Option (List DbKey)) → is_some (option_map (filter stays) list) ≡ is_some list
    mapped None = refl
    mapped (Some list) = refl
  pairs_after s (Rec j) =
      elim (cases_Bool (is_member j gone)) [
        | inl e ↦ ap (λ b. is_some (cond b None (option_map (filter stays) (db.lists s (Rec j))))) e ∙ sym (and_right (owns schema s j.rtype) (is_live after j) (ap (λ b. is_some (cond b None (db.records j))) e))
        | inr e ↦ ap (λ b. is_some (cond b None (option_map (filter stays) (db.lists s (Rec j))))) e ∙ mapped (db.lists s (Rec j)) ∙ legal.pairs s (Rec j) ∙ ap (λ b. owns schema s j.rtype && b) (sym (live_kept j e))
      ] where
        mapped : (list : Option (List DbKey)) → is_some (option_map (filter stays) list) ≡ is_some list
        mapped None = refl
        mapped (Some list) = refl

  rings_after : Rings schema (is_live after) (items_of after) after.lists
  rings_after =
      let sound = sound_of schema capacity db legal in
      rings_kept schema (is_live db) (is_live after) (items_of db) (items_of after) db.lists after.lists sound.rings pairs_after thin
      (λ s o x h. let w = was_member s o x h in (live_kept x w.0 ∙ (legal.members s o x w.1).0, ap (key_item schema s x.rtype) (items_kept x w.0)))

  -- MEMBERS THAT CAN'T LEAVE

  -- the set has, with each key in it, what the option takes with that key
  dragged : (j m : DbKey) → is_member j gone ≡ true → is_live db m ≡ true → drags schema capacity db option j m ≡ true → is_member m gone ≡ true
  dragged j m has live drag =
      let least = least_closed_is_least (drags schema capacity db option) (key_eq k) (all_keys schema capacity db) in
      subst (λ list. is_member m list ≡ true) least.closed
      (keeps_member m (λ y. key_eq k y || list_any (λ x. drags schema capacity db option x y) gone) (all_keys schema capacity db) (in_member m (all_keys schema capacity db) (live_in_all schema capacity db legal m live))
      (or_right _ _ (any_member (λ x. drags schema capacity db option x m) gone j has drag)))

  -- a fixed member that an option other than plain takes with its owner
  taken : (s : ℕ) (o : Owner) (m : DbKey) → is_plain option ≡ false → is_fixed schema s m.rtype ≡ true → takes schema capacity db option s o m ≡ true
  taken s o m plain fix = by option plain where
    mandatory : (q : Bool → Bool) → (q true ≡ true) → (c : Option Member) → some_and (λ c. is_mandatory c.class && is_automatic c.class) c ≡ true → some_and (λ c. q (is_mandatory c.class)) c ≡ true
    mandatory q e None h = absurd (false≢true h)
    mandatory q e (Some c) h = ap q (and_parts _ _ h).0 ∙ e

    by : (e : Erase) → is_plain e ≡ false → takes schema capacity db e s o m ≡ true
    by Plain h = absurd (false≢true (sym h))
    by Only h = mandatory (λ b. b) refl (member_clause schema s m.rtype) fix
    by Selective h = mandatory (λ b. b || not (is_elsewhere schema capacity db s o m)) refl (member_clause schema s m.rtype) fix
    by All h = refl

  only_start : option ≡ Plain → (j : DbKey) → is_member j gone ≡ true → k ≡ j
  only_start plain j h =
      let least = least_closed_is_least (drags schema capacity db option) (key_eq k) (all_keys schema capacity db) in
      same_key k j (member_passes (key_eq k) gone j (least.least (key_eq k) (λ y e. e) (λ x y px drag. absurd (false≢true (sym (no_drag x y) ∙ drag)))) h) where
        none : (f : ℕ → Bool) (xs : List ℕ) → list_any (λ s. f s && false) xs ≡ false
        none f [] = refl
        none f (x ∷ xs) = ap (λ b. b || list_any (λ s. f s && false) xs) (and_right (f x) false refl) ∙ none f xs

        no_drag : (x y : DbKey) → drags schema capacity db option x y ≡ false
        no_drag x y = ap (λ (e : Erase). drags schema capacity db e x y) plain ∙ none (λ s. is_member y (members_of db s (Rec x))) (set_numbers schema)

  -- the owner of a fixed member that stays stays
  owner_stays : (is_plain option && has_members schema (whole schema capacity db) k) ≡ false → (s : ℕ) (o : Owner) (m : DbKey) → is_member m gone ≡ false → is_live db m ≡ true → is_fixed schema s m.rtype ≡ true → is_member m (members_of db s o) ≡ true → is_gone gone o ≡ false
  owner_stays empty s System m n live fix h = refl
  owner_stays empty s (Rec j) m n live fix h =
      let number = set_has_number schema s m.rtype (legal.members s (Rec j) m h).1 in
      false_from_ne_true _ (λ g. elim (cases_Bool (is_plain option)) [
        | inl p ↦
            let same = only_start (plain_is option p) j g in
            false≢true (sym (right_false _ _ p empty) ∙ any_number (λ r. ltb 0 (length (members_of db r (Rec k)))) s (set_numbers schema) number (subst (λ (y : DbKey). ltb 0 (length (members_of db s (Rec y))) ≡ true) (sym same) (some_length (members_of db s (Rec j)) h)))
        | inr p ↦
            false≢true (sym n ∙ dragged j m g live (any_number (λ r. is_member m (members_of db r (Rec j)) && takes schema capacity db option r (Rec j) m) s (set_numbers schema) number (and_from _ _ h (taken s (Rec j) m p fix))))
      ]) where
        right_false : (a b : Bool) → a ≡ true → (a && b) ≡ false → b ≡ false
        right_false true b h g = g
        right_false false b h g = absurd (false≢true h)

        plain_is : (e : Erase) → is_plain e ≡ true → e ≡ Plain
        plain_is Plain h = refl
        plain_is Only h = absurd (false≢true h)
        plain_is Selective h = absurd (false≢true h)
        plain_is All h = absurd (false≢true h)

        some_length : (xs : List DbKey) → is_member m xs ≡ true → ltb 0 (length xs) ≡ true
        some_length [] h = h
        some_length (x ∷ xs) h = lt-ltb 0 (length (x ∷ xs)) (omega arith)

  pub delete_legal : (unit : Unit) → (is_plain option && has_members schema (whole schema capacity db) k) ≡ false → Legal schema capacity (deleted schema capacity db unit option k).database
  delete_legal unit empty =
      legal_raised schema capacity (λ x. not (is_member x gone) && list_any (λ s. list_any (λ o. is_member x (members_of db s (Rec o))) gone) (set_numbers schema)) after
      (record {
        stock = stock_after;
        rings = rings_after;
        fixed = λ s m h fix.
            let l = live_after m h in
            let r = legal.mandatory_automatic s m l.1 fix in
            (r.0, still_member s r.0 m (owner_stays empty s r.0 m l.0 l.1 fix r.1) l.0 r.1);
      })
      (uses_of schema capacity db legal)
