-- The currents of sets, as they are written where a record is made current.
use Rattle.std.proofs.Common.{◌≡◌, refl, sym, ◌∙◌, ap, ℕ, Bool, true, false, not, ◌&&◌, ◌||◌, ◌==◌, cond, List, [], ◌∷◌, length, Option, Some, None, inl, inr, arith}
use Rattle.std.specs.Prelude.{map, slice_set, if◌then◌else◌}
use Rattle.std.specs.List.{enumerate_from, filter, list_any}
use Rattle.std.proofs.lemmas.Bool.{cases_Bool, eqb-true}
use Rattle.std.proofs.lemmas.Bool.Decides.{nat_tests}
use Rattle.std.proofs.lemmas.Map.Views.{any-filter_same}
use Rattle.dbtg_schema.specs.Lists.{Lists}
use Rattle.dbtg_schema.specs.Lookups.{at}
use Rattle.dbtg_schema.specs.Structure.{owns, set_numbers}
use Rattle.dbtg_cells.specs.declared.key.DbKey.{DbKey}
use Rattle.dbtg_cells.specs.declared.key.Owner.{Owner}
use Rattle.dbtg_cells.specs.declared.key.Owner.TheVariants.{Rec}
use Rattle.dbtg_unit.specs.declared.statement.Suppress.{Suppress}
use Rattle.dbtg_unit.specs.declared.unit.Place.{Place}
use Rattle.dbtg_unit.specs.Database.State.Units.{suppresses, seen_place}
use Rattle.dbtg_unit.specs.Inside.Seen.{seen_as_owner, seen_in_list, seen_in_each_set}
use Rattle.dbtg_unit.proofs.Database.Records.OwnersFound.{set_within}
use Rattle.dbtg_unit.proofs.Lists.Membership.{In, any_in, in_filter, in_range}
use Rattle.dbtg_unit.proofs.Lists.Numbered.{made_twice, written, written_first, written_nowhere}

-- the current of a set that the type of k owns
abbrev pub as_owner : DbKey → Option Place
as_owner k = Some (record { owner = Rec k; at = None })

-- a set of these, if it isn't suppressed
abbrev pub is_chosen : Suppress → List ℕ → ℕ → Bool
is_chosen suppress sets n = not (suppresses suppress n) && list_any (λ s. n == s) sets

-- the currents as they will be, where these sets are left
abbrev pub yet_to_see : DbKey → Suppress → List ℕ → List (Option Place) → List (Option Place)
yet_to_see k suppress sets places = map (written (as_owner k) (is_chosen suppress sets)) (enumerate_from 0 places)

module _ (suppress : Suppress) (s : ℕ) (sets : List ℕ) where
  chosen_first : suppresses suppress s ≡ false → (n : ℕ) → ((n == s) || is_chosen suppress sets n) ≡ is_chosen suppress (s ∷ sets) n
  chosen_first free n = by (n == s) refl
    where
      spared : (b : Bool) → (n == s) ≡ b → b ≡ true → suppresses suppress n ≡ false
      spared b q t = ap (suppresses suppress) (eqb-true n s (q ∙ t)) ∙ free

      both : (b c d : Bool) → b ≡ false → true ≡ (not b && (true || d))
      both true c d e = cc (e)
      both false c d e = refl

      by : (b : Bool) → (n == s) ≡ b → (b || is_chosen suppress sets n) ≡ (not (suppresses suppress n) && (b || list_any (λ m. n == m) sets))
      by true q = both (suppresses suppress n) true (list_any (λ m. n == m) sets) (spared true q refl)
      by false q = refl

  chosen_less : suppresses suppress s ≡ true → (n : ℕ) → is_chosen suppress sets n ≡ is_chosen suppress (s ∷ sets) n
  chosen_less taken n = by (n == s) refl
    where
      none : (b c d : Bool) → b ≡ true → (not b && c) ≡ (not b && d)
      none true c d e = refl
      none false c d e = cc (e)

      by : (b : Bool) → (n == s) ≡ b → (not (suppresses suppress n) && list_any (λ m. n == m) sets) ≡ (not (suppresses suppress n) && (b || list_any (λ m. n == m) sets))
      by true q = none (suppresses suppress n) (list_any (λ m. n == m) sets) true (ap (suppresses suppress) (eqb-true n s q) ∙ taken)
      by false q = refl

  -- one set is seen
  pub one_seen : (k : DbKey) (places : List (Option Place)) → suppresses suppress s ≡ false → yet_to_see k suppress sets (slice_set places s (as_owner k)) ≡ yet_to_see k suppress (s ∷ sets) places
  one_seen k places free = written_first (as_owner k) (is_chosen suppress sets) s places ∙ (λ i. map (written (as_owner k) (λ n. chosen_first free n i)) (enumerate_from 0 places))

  -- one set is suppressed
  pub one_spared : (k : DbKey) (places : List (Option Place)) → suppresses suppress s ≡ true → yet_to_see k suppress sets places ≡ yet_to_see k suppress (s ∷ sets) places
  one_spared k places taken = λ i. map (written (as_owner k) (λ n. chosen_less taken n i)) (enumerate_from 0 places)

-- no set is left
pub none_left : (k : DbKey) (suppress : Suppress) (places : List (Option Place)) → yet_to_see k suppress [] places ≡ places
none_left k suppress places = (λ i. map (written (as_owner k) (λ n. nothing (suppresses suppress n) i)) (enumerate_from 0 places)) ∙ written_nowhere (as_owner k) 0 places
  where
    nothing : (b : Bool) → (not b && false) ≡ false
    nothing true = refl
    nothing false = refl

module _ (schema : Lists) (k : DbKey) where
  is_owned : (n : ℕ) → list_any (λ s. n == s) (filter (λ s. owns schema s k.rtype) (set_numbers schema)) ≡ owns schema n k.rtype
  is_owned n =
      elim (cases_Bool (owns schema n k.rtype)) [
        | inl owned ↦
            let within = set_within schema n k.rtype owned in
            let there : In n (set_numbers schema) = in_range (length schema.sets) 0 n (omega arith) (omega (arith, within)) in
            any_in (λ s. n == s) n (filter (λ s. owns schema s k.rtype) (set_numbers schema)) (in_filter (λ s. owns schema s k.rtype) n (set_numbers schema) there owned) itself ∙ sym owned
        | inr other ↦ any-filter_same (λ s. n == s) (λ s. owns schema s k.rtype) false (λ s e. ap (λ m. owns schema m k.rtype) (sym (eqb-true n s e)) ∙ other) (set_numbers schema) ∙ sym other
      ]
    where
      itself : (n == n) ≡ true
      itself = grind (arith, nat_tests)

  -- all the sets that the type owns are left
  pub all_owned : (suppress : Suppress) (places : List (Option Place)) → yet_to_see k suppress (filter (λ s. owns schema s k.rtype) (set_numbers schema)) places ≡ map (seen_as_owner schema k suppress) (enumerate_from 0 places)
  all_owned suppress places = λ i. map (λ e. (ap (λ b. cond (not (suppresses suppress e.0) && b) (as_owner k) e.1) (is_owned e.0) ∙ by (suppresses suppress e.0) (owns schema e.0 k.rtype) e.1) i) (enumerate_from 0 places)
    where
      by : (b c : Bool) (was : Option Place) → cond (not b && c) (as_owner k) was ≡ (if b then was else seen_place was c k None)
      by true c was = refl
      by false true was = refl
      by false false was = refl

  -- the sets in whose lists the record is, and then those that its type owns
  pub seen_both : (owners : List (Option Owner)) (suppress : Suppress) (places : List (Option Place))
      → map (seen_as_owner schema k suppress) (enumerate_from 0 (map (seen_in_list k owners suppress) (enumerate_from 0 places))) ≡ seen_in_each_set schema k owners suppress places
  seen_both owners suppress places =
      made_twice (seen_in_list k owners suppress) (seen_as_owner schema k suppress) 0 places
      ∙ (λ i. map (λ e. by (suppresses suppress e.0) (owns schema e.0 k.rtype) (at owners e.0) e.1 i) (enumerate_from 0 places))
    where
      by : (b c : Bool) (o : Option Owner) (was : Option Place)
          → (if b then (if b then was else seen_place was false k o) else seen_place (if b then was else seen_place was false k o) c k None) ≡ (if b then was else seen_place was c k o)
      by true c o was = refl
      by false true o was = refl
      by false false None was = refl
      by false false (Some o) was = refl
