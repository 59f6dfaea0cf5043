-- The names of records tell them apart; and the lists of sets, with those of one more set.
-- s is the number of a set.
use Rattle.std.proofs.Common.{◌≡◌, ℕ, ◌+◌, ◌<◌, List, [], ◌∷◌, ◌++◌, Option, Some, None, ◌∙◌, length, get_or, take, map, refl, sym, ap, arith, append-nil, append_assoc}
use Rattle.std.specs.Prelude.{position}
use Rattle.std.specs.List.{flat_map}
use Rattle.std.proofs.lemmas.List.{length-take-le, take_more}
use Rattle.std.proofs.lemmas.List.Quantifiers.{position-Some}
use Rattle.dbtg_cells.specs.declared.key.DbKey.{DbKey}
use Rattle.dbtg_cells.specs.declared.key.Owner.{Owner}
use Rattle.dbtg_cells.specs.Keys.{key_eq}
use Rattle.dbtg_cells.proofs.Public.{same_key}
use Rattle.dbtg_step.specs.declared.results.Run.{Run}
use Rattle.dbtg_states.specs.Named.{fact, image_facts, key_name, list_facts, name_at, named, owner_name, stored, unit_facts, usage_fact}
use Rattle.dbtg_states.specs.Spelling.{Apart, key_numbers, list_numbers, pair_numbers}
use Rattle.dbtg_states.specs.Inside.Spelling.{key_apart}

-- NAMES

module _ (keys : List DbKey) where
  abbrev place : DbKey → Option ℕ
  place k = position (λ j. key_eq j k) keys

  -- the key at its place is this one
  found : (k d : DbKey) (i : ℕ) → place k ≡ Some i → get_or keys i d ≡ k
  found k d i at = same_key (get_or keys i d) k (position-Some (λ j. key_eq j k) keys i d at).1

  apart_by : (x y : DbKey) (a b : List ℕ) (p q : Option ℕ) → place x ≡ p → place y ≡ q → name_at x p ++ a ≡ name_at y q ++ b → (x ≡ y) × (a ≡ b)
  apart_by x y a b (Some i) (Some j) p q e =
      let same : i ≡ j = cc in
      (sym (found x x i p) ∙ ap (λ n. get_or keys n x) same ∙ found y x j q, cc)
  apart_by x y a b (Some i) None p q e = absurd (cc)
  apart_by x y a b None (Some j) p q e = absurd (cc)
  apart_by x y a b None None p q e =
      let inner : key_numbers x ++ a ≡ key_numbers y ++ b = cc in
      key_apart x y a b inner

  pub names_apart : Apart (key_name keys)
  names_apart x y a b e = apart_by x y a b (place x) (place y) refl refl e

-- LISTS OF SETS

module _ (keys : List DbKey) where
  abbrev pub of_set : ℕ → List (Owner × List DbKey) → List (List ℕ)
  of_set s lists = map (λ l. fact 3 s (pair_numbers (owner_name keys) (list_numbers (key_name keys)) l)) lists

  one_set : (s : ℕ) (sets : List (List (Owner × List DbKey))) (lists : List (Owner × List DbKey)) → list_facts keys s (sets ++ lists ∷ []) ≡ list_facts keys s sets ++ of_set (s + length sets) lists
  one_set s [] lists =
      let same : s ≡ s + 0 = omega arith in
      append-nil (of_set s lists) ∙ ap (λ n. of_set n lists) same
  one_set s (x ∷ sets) lists =
      let same : s + 1 + length sets ≡ s + length (x ∷ sets) = omega arith in
      ap (λ l. of_set s x ++ l) (one_set (s + 1) sets lists ∙ ap (λ n. list_facts keys (s + 1) sets ++ of_set n lists) same)
      ∙ sym (append_assoc (of_set s x) (list_facts keys (s + 1) sets) (of_set (s + length (x ∷ sets)) lists))

  pub next_set : (sets : List (List (Owner × List DbKey))) (i : ℕ) (lists : List (Owner × List DbKey)) → i < length sets → lists ≡ get_or sets i lists
      → list_facts keys 0 (take (i + 1) sets) ≡ list_facts keys 0 (take i sets) ++ of_set i lists
  next_set sets i lists low is =
      let long = length-take-le i sets (omega arith) in
      let place : 0 + length (take i sets) ≡ i = omega arith in
      ap (list_facts keys 0) (take_more sets i lists low ∙ ap (λ (x : List (Owner × List DbKey)). take i sets ++ x ∷ []) (sym is))
      ∙ one_set 0 (take i sets) lists
      ∙ ap (λ n. list_facts keys 0 (take i sets) ++ of_set n lists) place

-- ALL FACTS

-- all facts of a run, kind by kind
pub all_facts : (units : List ℕ) (run : Run) (keys : List DbKey) (with_units with_usage all : List (List ℕ))
    → keys ≡ stored units run.history → with_units ≡ flat_map (unit_facts keys) run.units
    → with_usage ≡ with_units ++ usage_fact units run.image.usage ∷ [] → all ≡ with_usage ++ image_facts keys run.image → all ≡ named units run
all_facts units run keys with_units with_usage all k u s e =
    e
    ∙ ap (λ l. l ++ image_facts keys run.image) (s ∙ ap (λ l. l ++ usage_fact units run.image.usage ∷ []) u)
    ∙ append_assoc (flat_map (unit_facts keys) run.units) (usage_fact units run.image.usage ∷ []) (image_facts keys run.image)
    ∙ ap (λ (ks : List DbKey). flat_map (unit_facts ks) run.units ++ usage_fact units run.image.usage ∷ image_facts ks run.image) k
