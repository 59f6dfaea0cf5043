-- A unit of the schema stays so after each change that a statement makes to it.
use Rattle.std.proofs.Common.{◌≡◌, refl, sym, ◌∙◌, subst, ℕ, zero, suc, ◌+◌, Bool, true, false, cond, ◌&&◌, ◌||◌, List, [], ◌∷◌, length, Option, Some, None, ⊎_elim, eqb, ltb, map, arith}
use Rattle.std.specs.Prelude.{is_some, filter, slice_set}
use Rattle.std.specs.List.{list_all, enumerate_from, range_with_len}
use Rattle.std.proofs.lemmas.Bool.{and_parts, and_from, or_cases, or_left, or_right, cond_both, lt-ltb, le-leb, ltb-true, eqb-true, eq-eqb}
use Rattle.std.proofs.lemmas.List.{length-set, length-map}
use Rattle.std.proofs.lemmas.List.FromFn.{length-enumerate_from}
use Rattle.std.proofs.lemmas.List.Folds.{list_all-append}
use Rattle.dbtg_schema.specs.Lists.{Lists}
use Rattle.dbtg_schema.specs.Lookups.{at}
use Rattle.dbtg_schema.specs.Structure.{area_of, owns}
use Rattle.dbtg_cells.specs.declared.key.DbKey.{DbKey}
use Rattle.dbtg_cells.specs.declared.key.Owner.{Owner}
use Rattle.dbtg_cells.specs.declared.key.Owner.TheVariants.{System, Rec}
use Rattle.dbtg_cells.specs.declared.usage.Mode.{Mode}
use Rattle.dbtg_cells.specs.Keys.{key_below}
use Rattle.dbtg_unit.specs.declared.statement.Suppress.{Suppress}
use Rattle.dbtg_unit.specs.declared.unit.Place.{Place}
use Rattle.dbtg_unit.specs.declared.unit.Unit.{Unit}
use Rattle.dbtg_unit.specs.Database.State.Base.{Database, is_live, owner_of}
use Rattle.dbtg_unit.specs.Database.Statements.Fits.{if_named}
use Rattle.dbtg_unit.specs.Database.State.Belongs.{is_key_of, is_owner_in, is_place_in, is_number, owner_within, IsUnitOf, IsWithin}
use Rattle.dbtg_unit.specs.Database.State.Units.{noted, owners_of, seen, seen_place, suppresses}
use Rattle.dbtg_unit.specs.Database.Statements.Effect.{moved}
use Rattle.dbtg_unit.specs.Database.State.Legal.{Legal, pairwise}
use Rattle.dbtg_unit.proofs.Lists.WithANewMember.{all_filter, all_kept, all_weaker, pairwise_append, pairwise_filter}
use Rattle.dbtg_unit.proofs.Database.Records.LiveKeys.{member_of_owner}
use Rattle.dbtg_unit.proofs.Database.Legal.ListsChanged.{member_has_a_list}

-- ENTRIES

-- what holds of each entry holds of each after one is set to what passes
at_set : {X : Type 0} (P : ℕ → Option X → Type 0) (xs : List (Option X)) (i : ℕ) (v : Option X) → P i v → ((j : ℕ) → P j (at xs j)) → (j : ℕ) → P j (at (slice_set xs i v) j)
at_set P [] i v h w j = w j
at_set P (x ∷ xs) zero v h w zero = h
at_set P (x ∷ xs) zero v h w (suc j) = w (suc j)
at_set P (x ∷ xs) (suc i) v h w zero = w zero
at_set P (x ∷ xs) (suc i) v h w (suc j) = at_set (λ n. P (suc n)) xs i v h (λ n. w (suc n)) j

at_each_from : {X : Type 0} (P : ℕ → Option X → Type 0) (f : ℕ × Option X → Option X) (n : ℕ) (xs : List (Option X)) → ((s : ℕ) → P s None) → ((s : ℕ) → P (n + s) (f (n + s, at xs s)))
    → (s : ℕ) → P (n + s) (at (map f (enumerate_from n xs)) s)
at_each_from P f n [] none w s = none (n + s)
at_each_from P f n (x ∷ xs) none w zero = let e : n + 0 ≡ n = omega arith in subst (λ m. P (n + 0) (f (m, x))) e (w zero)
at_each_from {X} P f n (x ∷ xs) none w (suc s) =
    let shift : (m : ℕ) → n + suc m ≡ (n + 1) + m = λ m. omega arith in
    subst (λ m. P m (at (map f (enumerate_from (n + 1) xs)) s)) (sym (shift s))
    (at_each_from P f (n + 1) xs none (λ m. subst (λ r. P r (f (r, at xs m))) (shift m) (w (suc m))) s)

at_each : {X : Type 0} (P : ℕ → Option X → Type 0) (f : ℕ × Option X → Option X) (xs : List (Option X)) → ((s : ℕ) → P s None) → ((s : ℕ) → P s (f (s, at xs s))) → (s : ℕ) → P s (at (map f (enumerate_from 0 xs)) s)
at_each P f xs none w s =
    let same : (m : ℕ) → 0 + m ≡ m = λ m. omega arith in
    subst (λ r. P r (at (map f (enumerate_from 0 xs)) s)) (same s) (at_each_from P f 0 xs none (λ m. subst (λ r. P r (f (r, at xs m))) (sym (same m)) (w m)) s)

-- the entry at a number is of that number
at_number_from : {X : Type 0} (f : ℕ → Option X) (a n s : ℕ) (x : X) → at (map f (range_with_len a n)) s ≡ Some x → f (a + s) ≡ Some x
at_number_from f a zero s x h = absurd (none_some h) where
  none_some : None ≡ Some x → ⊥
  none_some h = cc
at_number_from f a (suc n) zero x h = let e : a ≡ a + 0 = omega arith in subst (λ m. f m ≡ Some x) e h
at_number_from f a (suc n) (suc s) x h = let e : (a + 1) + s ≡ a + suc s = omega arith in subst (λ m. f m ≡ Some x) e (at_number_from f (a + 1) n s x h)

at_number : {X : Type 0} (f : ℕ → Option X) (n s : ℕ) (x : X) → at (map f (range_with_len 0 n)) s ≡ Some x → f s ≡ Some x
at_number f n s x h = let e : 0 + s ≡ s = omega arith in subst (λ m. f m ≡ Some x) e (at_number_from f 0 n s x h)

-- KEYS IN ORDER

pub key_lt_trans : (a b c : DbKey) → key_below a b ≡ true → key_below b c ≡ true → key_below a c ≡ true
key_lt_trans a b c h g =
    ⊎_elim
    (λ x. let x' = ltb-true a.rtype b.rtype x in ⊎_elim
    (λ y. let y' = ltb-true b.rtype c.rtype y in or_left _ _ (lt-ltb a.rtype c.rtype (omega arith)))
    (λ y. let y' = eqb-true b.rtype c.rtype (and_parts _ _ y).0 in or_left _ _ (lt-ltb a.rtype c.rtype (omega arith)))
    (or_cases (ltb b.rtype c.rtype) _ g))
    (λ x. let xs = and_parts (eqb a.rtype b.rtype) _ x in let x' = eqb-true a.rtype b.rtype xs.0 in ⊎_elim
    (λ y. let y' = ltb-true b.rtype c.rtype y in or_left _ _ (lt-ltb a.rtype c.rtype (omega arith)))
    (λ y. let ys = and_parts (eqb b.rtype c.rtype) _ y in let y' = eqb-true b.rtype c.rtype ys.0 in
    or_right _ _ (and_from _ _ (eq-eqb a.rtype c.rtype (x' ∙ y')) (numbers xs.1 ys.1)))
    (or_cases (ltb b.rtype c.rtype) _ g))
    (or_cases (ltb a.rtype b.rtype) _ h) where
      below : DbKey → DbKey → Bool
      below p q = ltb p.number q.number || (eqb p.number q.number && ltb p.generation q.generation)

      numbers : below a b ≡ true → below b c ≡ true → below a c ≡ true
      numbers h g =
          ⊎_elim
          (λ x. let x' = ltb-true a.number b.number x in ⊎_elim
          (λ y. let y' = ltb-true b.number c.number y in or_left _ _ (lt-ltb a.number c.number (omega arith)))
          (λ y. let y' = eqb-true b.number c.number (and_parts _ _ y).0 in or_left _ _ (lt-ltb a.number c.number (omega arith)))
          (or_cases (ltb b.number c.number) (eqb b.number c.number && ltb b.generation c.generation) g))
          (λ x. let xs = and_parts (eqb a.number b.number) (ltb a.generation b.generation) x in let x' = eqb-true a.number b.number xs.0 in let u = ltb-true a.generation b.generation xs.1 in ⊎_elim
          (λ y. let y' = ltb-true b.number c.number y in or_left _ _ (lt-ltb a.number c.number (omega arith)))
          (λ y. let ys = and_parts (eqb b.number c.number) (ltb b.generation c.generation) y in let y' = eqb-true b.number c.number ys.0 in let v = ltb-true b.generation c.generation ys.1 in
          or_right _ _ (and_from _ _ (eq-eqb a.number c.number (x' ∙ y')) (lt-ltb a.generation c.generation (omega arith))))
          (or_cases (ltb b.number c.number) (eqb b.number c.number && ltb b.generation c.generation) g))
          (or_cases (ltb a.number b.number) (eqb a.number b.number && ltb a.generation b.generation) h)

-- KEPT LISTS

-- keys of the schema, within the capacity, in key order
pub record IsKept (schema : Lists) (capacity : ℕ) (kept : List (DbKey × ℕ)) : Type 0 where
  pub keys : list_all (λ e. is_key_of schema e.0) kept ≡ true
  pub order : pairwise (λ e f. key_below e.0 f.0) kept ≡ true
  pub numbers : list_all (λ e. is_number capacity e.0.number) kept ≡ true

same_keys : (p : DbKey → Bool) (f : DbKey × ℕ → DbKey × ℕ) → ((e : DbKey × ℕ) → (f e).0 ≡ e.0) → (kept : List (DbKey × ℕ)) → list_all (λ e. p e.0) (map f kept) ≡ list_all (λ e. p e.0) kept
same_keys p f w [] = refl
same_keys p f w (e ∷ es) = λ i. p (w e i) && same_keys p f w es i

same_order : (f : DbKey × ℕ → DbKey × ℕ) → ((e : DbKey × ℕ) → (f e).0 ≡ e.0) → (kept : List (DbKey × ℕ)) → pairwise (λ e g. key_below e.0 g.0) (map f kept) ≡ pairwise (λ e g. key_below e.0 g.0) kept
same_order f w [] = refl
same_order f w (e ∷ es) = λ i. (same_keys (key_below (f e).0) f w es ∙ (λ j. list_all (λ g. key_below (w e j) g.0) es)) i && same_order f w es i

module _ (schema : Lists) (capacity : ℕ) (kept : List (DbKey × ℕ)) (good : IsKept schema capacity kept) where
  pub kept_renoted : (test : DbKey → Bool) (version : DbKey → ℕ) → IsKept schema capacity (map (λ e. cond (test e.0) (e.0, version e.0) e) kept)
  kept_renoted test version =
      record {
        keys = same_keys (is_key_of schema) f same kept ∙ good.keys;
        order = same_order f same kept ∙ good.order;
        numbers = same_keys (λ k. is_number capacity k.number) f same kept ∙ good.numbers;
      } where
        f : DbKey × ℕ → DbKey × ℕ
        f e = cond (test e.0) (e.0, version e.0) e

        same : (e : DbKey × ℕ) → (f e).0 ≡ e.0
        same e = cond_both (test e.0) (e.0, version e.0) e (λ (g : DbKey × ℕ). g.0 ≡ e.0) (λ h. refl) (λ h. refl)

  pub kept_filtered : (test : DbKey × ℕ → Bool) → IsKept schema capacity (filter test kept)
  kept_filtered test =
      record {
        keys = all_filter (λ e. is_key_of schema e.0) test kept good.keys;
        order = pairwise_filter (λ e f. key_below e.0 f.0) test kept good.order;
        numbers = all_filter (λ e. is_number capacity e.0.number) test kept good.numbers;
      }

  pub kept_noted : (k : DbKey) (v : ℕ) → is_key_of schema k ≡ true → is_number capacity k.number ≡ true → IsKept schema capacity (noted k v kept)
  kept_noted k v key number =
      record {
        keys = parts (λ e. is_key_of schema e.0) key good.keys;
        order = pairwise_append (λ e f. key_below e.0 f.0) low ((k, v) ∷ high) (pairwise_filter (λ e f. key_below e.0 f.0) (λ e. key_below e.0 k) kept good.order)
            (and_from _ _ (all_kept (λ e. key_below k e.0) kept) (pairwise_filter (λ e f. key_below e.0 f.0) (λ e. key_below k e.0) kept good.order))
            (all_weaker (λ e. key_below e.0 k) (λ e. list_all (λ f. key_below e.0 f.0) ((k, v) ∷ high)) low
            (λ e below. and_from _ _ below (all_weaker (λ f. key_below k f.0) (λ f. key_below e.0 f.0) high (λ f above. key_lt_trans e.0 k f.0 below above) (all_kept (λ f. key_below k f.0) kept)))
            (all_kept (λ e. key_below e.0 k) kept));
        numbers = parts (λ e. is_number capacity e.0.number) number good.numbers;
      } where
        low : List (DbKey × ℕ)
        low = filter (λ e. key_below e.0 k) kept

        high : List (DbKey × ℕ)
        high = filter (λ e. key_below k e.0) kept

        parts : (p : DbKey × ℕ → Bool) → p (k, v) ≡ true → list_all p kept ≡ true → list_all p (noted k v kept) ≡ true
        parts p h all = list_all-append p low ((k, v) ∷ high) ∙ and_from _ _ (all_filter p (λ e. key_below e.0 k) kept all) (and_from _ _ h (all_filter p (λ e. key_below k e.0) kept all))

-- UNITS

-- a unit of the schema whose keys are within the capacity
pub record IsGood (schema : Lists) (capacity : ℕ) (unit : Unit) : Type 0 where
  pub of_schema : IsUnitOf schema unit
  pub within : IsWithin capacity unit

-- a key, and a place in set s, that such a unit can have
pub record IsGoodKey (schema : Lists) (capacity : ℕ) (k : DbKey) : Type 0 where
  pub key : is_key_of schema k ≡ true
  pub number : is_number capacity k.number ≡ true

pub record IsGoodPlace (schema : Lists) (capacity : ℕ) (s : ℕ) (place : Option Place) : Type 0 where
  pub of_set : if_named (is_place_in schema s) place ≡ true
  pub within : if_named (λ p. owner_within capacity p.owner && if_named (λ k. is_number capacity k.number) p.at) place ≡ true

pub record IsGoodOwner (schema : Lists) (capacity : ℕ) (s : ℕ) (o : Owner) : Type 0 where
  pub of_set : is_owner_in schema s o ≡ true
  pub within : owner_within capacity o ≡ true

module _ (schema : Lists) (capacity : ℕ) (db : Database) (legal : Legal schema capacity db) where
  pub live_key_is_good : (k : DbKey) → is_live db k ≡ true → IsGoodKey schema capacity k
  live_key_is_good k h =
      let r = legal.keys k h in
      record { key = lt-ltb k.rtype (length schema.types) r.0; number = and_from _ _ (lt-ltb 0 k.number r.1) (le-leb k.number capacity r.2) }

  pub list_owner_is_good : (s : ℕ) (o : Owner) → is_some (db.lists s o) ≡ true → IsGoodOwner schema capacity s o
  list_owner_is_good s System h = record { of_set = sym (legal.pairs s System) ∙ h; within = refl }
  list_owner_is_good s (Rec k) h =
      let hs = and_parts (owns schema s k.rtype) (is_live db k) (sym (legal.pairs s (Rec k)) ∙ h) in
      record { of_set = hs.0; within = (live_key_is_good k hs.1).number }

module _ (schema : Lists) (capacity : ℕ) (unit : Unit) (good : IsGood schema capacity unit) where
  pub kept_of : IsKept schema capacity unit.kept
  kept_of = record { keys = good.of_schema.kept_keys; order = good.of_schema.kept_order; numbers = good.within.kept }

  pub with_kept : (kept : List (DbKey × ℕ)) → IsKept schema capacity kept → IsGood schema capacity (record unit { kept = kept })
  with_kept kept g =
      let s = good.of_schema in
      let w = good.within in
      record {
        of_schema = record { every_type = s.every_type; every_area = s.every_area; every_set = s.every_set; every_mode = s.every_mode; run_unit = s.run_unit; of_types = s.of_types; of_areas = s.of_areas; of_sets = s.of_sets; kept_keys = g.keys; kept_order = g.order };
        within = record { run_unit = w.run_unit; types = w.types; areas = w.areas; sets = w.sets; kept = g.numbers };
      }

  pub with_modes : (modes : List (Option Mode)) → length modes ≡ length schema.areas → IsGood schema capacity (record unit { modes = modes })
  with_modes modes every =
      let s = good.of_schema in
      let w = good.within in
      record {
        of_schema = record { every_type = s.every_type; every_area = s.every_area; every_set = s.every_set; every_mode = every; run_unit = s.run_unit; of_types = s.of_types; of_areas = s.of_areas; of_sets = s.of_sets; kept_keys = s.kept_keys; kept_order = s.kept_order };
        within = record { run_unit = w.run_unit; types = w.types; areas = w.areas; sets = w.sets; kept = w.kept };
      }

  pub with_no_run_unit : IsGood schema capacity (record unit { currency = record unit.currency { run_unit = None } })
  with_no_run_unit =
      let s = good.of_schema in
      let w = good.within in
      record {
        of_schema = record { every_type = s.every_type; every_area = s.every_area; every_set = s.every_set; every_mode = s.every_mode; run_unit = refl; of_types = s.of_types; of_areas = s.of_areas; of_sets = s.of_sets; kept_keys = s.kept_keys; kept_order = s.kept_order };
        within = record { run_unit = refl; types = w.types; areas = w.areas; sets = w.sets; kept = w.kept };
      }

  place_of_set : (s : ℕ) → IsGoodPlace schema capacity s (at unit.currency.sets s)
  place_of_set s = record { of_set = good.of_schema.of_sets s; within = good.within.sets s }

  pub with_sets : (sets : List (Option Place)) → length sets ≡ length schema.sets → ((s : ℕ) → IsGoodPlace schema capacity s (at sets s)) → IsGood schema capacity (record unit { currency = record unit.currency { sets = sets } })
  with_sets sets every places =
      let s = good.of_schema in
      let w = good.within in
      record {
        of_schema = record { every_type = s.every_type; every_area = s.every_area; every_set = every; every_mode = s.every_mode; run_unit = s.run_unit; of_types = s.of_types; of_areas = s.of_areas; of_sets = λ r. (places r).of_set; kept_keys = s.kept_keys; kept_order = s.kept_order };
        within = record { run_unit = w.run_unit; types = w.types; areas = w.areas; sets = λ r. (places r).within; kept = w.kept };
      }

  pub good_moved : (s : ℕ) (o : Owner) (k : DbKey) → IsGoodOwner schema capacity s o → IsGoodKey schema capacity k → IsGood schema capacity (moved unit s (record { owner = o; at = Some k }))
  good_moved s o k owner key =
      with_sets (slice_set unit.currency.sets s (Some (record { owner = o; at = Some k }))) (length-set unit.currency.sets s (Some (record { owner = o; at = Some k })) ∙ good.of_schema.every_set)
      (at_set (λ r place. IsGoodPlace schema capacity r place) unit.currency.sets s (Some (record { owner = o; at = Some k })) (record { of_set = and_from _ _ owner.of_set key.key; within = and_from _ _ owner.within key.number }) place_of_set)

  pub good_seen : (db : Database) (k : DbKey) (suppress : Suppress) → Legal schema capacity db → is_live db k ≡ true → IsGood schema capacity (seen schema capacity db unit k suppress)
  good_seen db k suppress legal live =
      let s = good.of_schema in
      let w = good.within in
      let key = live_key_is_good schema capacity db legal k live in
      let was = unit.currency in
      record {
        of_schema = record {
          every_type = cond_both suppress.types was.types (slice_set was.types k.rtype (Some k)) (λ l. length l ≡ length schema.types) (λ e. s.every_type) (λ e. length-set was.types k.rtype (Some k) ∙ s.every_type);
          every_area = cond_both suppress.areas was.areas (slice_set was.areas (area_of schema k.rtype) (Some k)) (λ l. length l ≡ length schema.areas) (λ e. s.every_area) (λ e. length-set was.areas (area_of schema k.rtype) (Some k) ∙ s.every_area);
          every_set = length-map (enumerate_from 0 was.sets) place_after ∙ length-enumerate_from 0 was.sets ∙ s.every_set;
          every_mode = s.every_mode;
          run_unit = key.key;
          of_types = λ t. cond_both suppress.types was.types (slice_set was.types k.rtype (Some k)) (λ l. if_named (λ j. eqb j.rtype t) (at l t) ≡ true) (λ e. s.of_types t)
              (λ e. at_set (λ u o. if_named (λ j. eqb j.rtype u) o ≡ true) was.types k.rtype (Some k) (eq-eqb k.rtype k.rtype refl) s.of_types t);
          of_areas = λ a. cond_both suppress.areas was.areas (slice_set was.areas (area_of schema k.rtype) (Some k)) (λ l. if_named (is_key_of schema) (at l a) ≡ true) (λ e. s.of_areas a)
              (λ e. at_set (λ u o. if_named (is_key_of schema) o ≡ true) was.areas (area_of schema k.rtype) (Some k) key.key s.of_areas a);
          of_sets = λ r. (places key r).of_set;
          kept_keys = s.kept_keys;
          kept_order = s.kept_order;
        };
        within = record {
          run_unit = key.number;
          types = λ t. cond_both suppress.types was.types (slice_set was.types k.rtype (Some k)) (λ l. if_named (λ j. is_number capacity j.number) (at l t) ≡ true) (λ e. w.types t)
              (λ e. at_set (λ u o. if_named (λ j. is_number capacity j.number) o ≡ true) was.types k.rtype (Some k) key.number w.types t);
          areas = λ a. cond_both suppress.areas was.areas (slice_set was.areas (area_of schema k.rtype) (Some k)) (λ l. if_named (λ j. is_number capacity j.number) (at l a) ≡ true) (λ e. w.areas a)
              (λ e. at_set (λ u o. if_named (λ j. is_number capacity j.number) o ≡ true) was.areas (area_of schema k.rtype) (Some k) key.number w.areas a);
          sets = λ r. (places key r).within;
          kept = w.kept;
        };
      } where
        place_after : ℕ × Option Place → Option Place
        place_after e = cond (suppresses suppress e.0) e.1 (seen_place e.1 (owns schema e.0 k.rtype) k (at (owners_of schema capacity db k) e.0))

        seen_in : (r : ℕ) (was : Option Place) (b : Bool) (o : Option Owner) → owns schema r k.rtype ≡ b → at (owners_of schema capacity db k) r ≡ o → IsGoodKey schema capacity k → IsGoodPlace schema capacity r was → IsGoodPlace schema capacity r (seen_place was b k o)
        seen_in r was true o owner_is of key place = record { of_set = and_from _ _ owner_is refl; within = and_from _ _ key.number refl }
        seen_in r was false (Some o) owner_is of key place =
            let owner = list_owner_is_good schema capacity db legal r o (member_has_a_list k (db.lists r o) (member_of_owner schema capacity db legal r o k (at_number (λ n. owner_of schema capacity db n k) (length schema.sets) r o of))) in
            record { of_set = and_from _ _ owner.of_set key.key; within = and_from _ _ owner.within key.number }
        seen_in r was false None owner_is of key place = place

        places : IsGoodKey schema capacity k → (r : ℕ) → IsGoodPlace schema capacity r (at (map place_after (enumerate_from 0 unit.currency.sets)) r)
        places key =
            at_each (λ r place. IsGoodPlace schema capacity r place) place_after unit.currency.sets (λ r. record { of_set = refl; within = refl })
            (λ r. cond_both (suppresses suppress r) _ _ (λ place. IsGoodPlace schema capacity r place) (λ e. place_of_set r)
            (λ e. seen_in r (at unit.currency.sets r) (owns schema r k.rtype) (at (owners_of schema capacity db k) r) refl refl key (place_of_set r)))
