-- States that differ in the order in which units opened an area have the same image in the order of units; and who has an area open is the
-- same if it is so in that order.
-- n is a number, u and v are units.
use Rattle.std.proofs.Common.{◌≡◌, append-nil, refl, sym, ◌∙◌, ap, ◌&&◌, ℕ, zero, suc, ◌+◌, ◌<◌, ◌≤◌, Bool, true, false, List, [], ◌∷◌, ◌++◌, length, Option, Some, None, inl, inr, ⊎_elim, ◌⊎◌, arith, map}
use Rattle.std.specs.Prelude.{◌==◌, flat_map, is_some, nat_le, nat_lt, unwrap_or}
use Rattle.std.specs.List.{list_all, range_with_len}
use Rattle.std.proofs.lemmas.List.Elements.{filter-append}
use Rattle.std.proofs.lemmas.Bool.{and_parts, cases_lt, eqb-true, false≢true, leb-true, ltb-true}
use Rattle.dbtg_schema.specs.Lists.{Lists}
use Rattle.dbtg_cells.specs.declared.key.DbKey.{DbKey}
use Rattle.dbtg_cells.specs.declared.usage.Mode.{Mode}
use Rattle.dbtg_unit.specs.Database.State.Base.{Database}
use Rattle.dbtg_unit.specs.Database.State.Image.{image_of}
use Rattle.dbtg_unit.specs.Database.Laws.Replay.{State}
use Rattle.dbtg_unit.proofs.Public.{all_at, none_pass}
use Rattle.dbtg_states.specs.Alike.{unordered, uses_of}
use Rattle.dbtg_states.specs.Users.{by_unit}
use Rattle.dbtg_states.specs.Inside.UnitOrder.{in_unit_order}

pub list_same : (l m : Option (List DbKey)) → is_some l ≡ true → is_some m ≡ true → unwrap_or l [] ≡ unwrap_or m [] → l ≡ m
list_same None m h g e = absurd (false≢true h)
list_same (Some l) None h g e = absurd (false≢true g)
list_same (Some l) (Some m) h g e = ap Some e

-- USERS IN THE ORDER OF UNITS

mapped_twice : {X Y Z : Type 0} (g : Y → Z) (f : X → Y) (xs : List X) → map g (map f xs) ≡ map (λ x. g (f x)) xs
mapped_twice g f [] = refl
mapped_twice g f (x ∷ xs) = ap (λ zs. g (f x) ∷ zs) (mapped_twice g f xs)

module _ (es : List (ℕ × Mode)) where
  own_uses : (u : ℕ) (fs : List (ℕ × Mode)) → uses_of u (uses_of u fs) ≡ uses_of u fs
  own_uses u [] = refl
  own_uses u (f ∷ fs) = by (own_uses u fs) (f.0 == u) refl where
    by : uses_of u (uses_of u fs) ≡ uses_of u fs → (b : Bool) → (f.0 == u) ≡ b → uses_of u (uses_of u (f ∷ fs)) ≡ uses_of u (f ∷ fs)
    by rest true e = rw e (rw e (ap (λ l. f ∷ l) rest))
    by rest false e = rw e rest

  other_uses : (u v : ℕ) (fs : List (ℕ × Mode)) → (u ≡ v → ⊥) → uses_of u (uses_of v fs) ≡ []
  other_uses u v [] apart = refl
  other_uses u v (f ∷ fs) apart = by (other_uses u v fs apart) (f.0 == v) refl (f.0 == u) refl where
    by : uses_of u (uses_of v fs) ≡ [] → (b : Bool) → (f.0 == v) ≡ b → (c : Bool) → (f.0 == u) ≡ c → uses_of u (uses_of v (f ∷ fs)) ≡ []
    by rest true e true g = absurd (apart (sym (eqb-true f.0 u g) ∙ eqb-true f.0 v e))
    by rest true e false g = rw e (rw g rest)
    by rest false e c g = rw e rest

  uses_below : (n k u : ℕ) → u < k → uses_of u (by_unit (range_with_len k n) es) ≡ []
  uses_below zero k u low = refl
  uses_below (suc n) k u low =
      filter-append (λ (e : ℕ × Mode). e.0 == u) (uses_of k es) (by_unit (range_with_len (k + 1) n) es)
      ∙ (λ i. other_uses u k es (λ e. omega (arith, low, e)) i ++ uses_below n (k + 1) u (omega (arith, low)) i)

  -- each unit in the range has the area open as before
  uses_within : (n k u : ℕ) → k ≤ u → u < k + n → uses_of u (by_unit (range_with_len k n) es) ≡ uses_of u es
  uses_within zero k u low high = absurd (omega (arith, low, high))
  uses_within (suc n) k u low high =
      filter-append (λ (e : ℕ × Mode). e.0 == u) (uses_of k es) (by_unit (range_with_len (k + 1) n) es) ∙ by (λ above. uses_within n (k + 1) u above (omega (arith, high))) (cases_lt k u) where
        by : (k + 1 ≤ u → uses_of u (by_unit (range_with_len (k + 1) n) es) ≡ uses_of u es) → (k < u) ⊎ (u ≤ k) → uses_of u (uses_of k es) ++ uses_of u (by_unit (range_with_len (k + 1) n) es) ≡ uses_of u es
        by rest (inl above) = (λ i. other_uses u k es (λ e. omega (arith, above, e)) i ++ rest (omega (arith, above)) i)
        by rest (inr here) =
            let is : k ≡ u = omega (arith, low, here) in
            (λ i. uses_of u (uses_of (is i) es) ++ uses_of u (by_unit (range_with_len (k + 1) n) es))
            ∙ (λ i. own_uses u es i ++ uses_below n (k + 1) u (omega (arith, is)) i)
            ∙ append-nil (uses_of u es)

  -- no other unit has the area open
  uses_beyond : (n u : ℕ) → list_all (λ e. nat_lt 0 e.0 && nat_le e.0 n) es ≡ true → (u ≡ 0) ⊎ (n < u) → uses_of u es ≡ []
  uses_beyond n u all out = none_pass (λ e. e.0 == u) es (λ e i. apart e (all_at (λ e. nat_lt 0 e.0 && nat_le e.0 n) e es all i)) where
    apart : (e : ℕ × Mode) → (nat_lt 0 e.0 && nat_le e.0 n) ≡ true → (e.0 == u) ≡ false
    apart e within = let bounds = and_parts _ _ within in different (ltb-true _ _ bounds.0) (leb-true _ _ bounds.1) (e.0 == u) refl where
      different : 0 < e.0 → e.0 ≤ n → (b : Bool) → (e.0 == u) ≡ b → b ≡ false
      different low high false is = refl
      different low high true is = let same = eqb-true e.0 u is in absurd (⊎_elim (λ none. omega (arith, low, same, none)) (λ above. omega (arith, high, same, above)) out)

pub uses_from : (n : ℕ) (es fs : List (ℕ × Mode)) → list_all (λ e. nat_lt 0 e.0 && nat_le e.0 n) es ≡ true → list_all (λ e. nat_lt 0 e.0 && nat_le e.0 n) fs ≡ true
    → by_unit (range_with_len 1 n) es ≡ by_unit (range_with_len 1 n) fs → (u : ℕ) → uses_of u es ≡ uses_of u fs
uses_from n es fs all all' same u =
    ⊎_elim
    (λ low. ⊎_elim
    (λ high. sym (uses_within es n 1 u (omega arith) (omega arith)) ∙ ap (uses_of u) same ∙ uses_within fs n 1 u (omega arith) (omega arith))
    (λ beyond. out (inr (omega arith)))
    (cases_lt u (n + 1)))
    (λ none. out (inl (omega arith)))
    (cases_lt 0 u) where
      out : (u ≡ 0) ⊎ (n < u) → uses_of u es ≡ uses_of u fs
      out h = uses_beyond es n u all h ∙ sym (uses_beyond fs n u all' h)

-- IMAGES

module _ (schema : Lists) (capacity : ℕ) (units : List ℕ) where
  abbrev areas : List ℕ
  areas = range_with_len 0 (length schema.areas)

  usage_sorted : (db : Database) → in_unit_order units (image_of schema capacity db) ≡ record (image_of schema capacity db) { usage = map (λ a. by_unit units (db.usage a)) areas }
  unfolding image_of
  usage_sorted db = λ i. record (image_of schema capacity db) { usage = mapped_twice (by_unit units) db.usage areas i }

  image_on : (one other : State) → unordered one ≡ unordered other
      → record (image_of schema capacity one.database) { usage = map (λ a. by_unit units (one.database.usage a)) areas } ≡ record (image_of schema capacity other.database) { usage = map (λ a. by_unit units (other.database.usage a)) areas }
  unfolding image_of
  image_on one other e =
      λ i. record (image_of schema capacity (record { records = (e i).records; lists = (e i).lists; last = (e i).last; usage = one.database.usage })) { usage = map (λ a. flat_map (λ u. (e i).uses a u) units) areas }

  pub image_alike : (one other : State) → unordered one ≡ unordered other → in_unit_order units (image_of schema capacity one.database) ≡ in_unit_order units (image_of schema capacity other.database)
  image_alike one other e = usage_sorted one.database ∙ image_on one other e ∙ sym (usage_sorted other.database)
