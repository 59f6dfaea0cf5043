-- Numbers of forms tell graphs apart: in rising order, numbers that are equally often the same are the same list.
-- sp are the spellings that are kept, ns numbers of some of them, s is a spelling, v a number.
use Rattle.std.proofs.Common.{◌≡◌, refl, sym, ◌∙◌, ap, subst, ℕ, suc, ◌+◌, ◌≤◌, arith, Bool, true, false, List, [], ◌∷◌, map, inl, inr, ◌⊎◌, Option, Some, None, slice_get}
use Rattle.std.specs.Prelude.{◌==◌, ◌&&◌, cond, filter, ◌↔◌}
use Rattle.std.specs.List.{count_by}
use Rattle.std.specs.List.Sorted.{IsNonDecreasing, IsPermutation}
use Rattle.std.specs.Str.{bytes_eq}
use Rattle.std.proofs.lemmas.Bool.{cases_Bool, eq-eqb, eqb-true, or_right}
use Rattle.std.proofs.lemmas.List.Recursion.{is_count_by}
use Rattle.std.proofs.lemmas.List.Sorted.{sum_by-IsPermutation}
use Rattle.std.proofs.lemmas.Option.{none-some, same_Some}
use Rattle.std.proofs.lemmas.Slice.Eq.{bytes_eq-Decides}
use Rattle.dbtg_interned.specs.Kept.{IsOnce}
use Rattle.dbtg_interned.proofs.Public.{stays_list}
use Rattle.dbtg_forms.specs.declared.vertex.Vertex.{Vertex}
use Rattle.dbtg_forms.specs.Graphs.{IsGraph, Isomorphic, has}
use Rattle.dbtg_forms.specs.Forms.{AreForms, HasNumber, IsForm, KeepsForms, KeptForms, is_root, place, roots, spelling}
use Rattle.dbtg_forms.proofs.Lists.{at_place, has_first, map_along, no_is_not_yes, place_in, some_tally, tally, tally_along, tally_map, tally_some}
use Rattle.dbtg_forms.proofs.Matching.{equally_often, isomorphic_from, passes, whole}

-- TALLIES

tally_permuted : {X : Type 0} (t : X → Bool) (xs ys : List X) → IsPermutation xs ys → tally t xs ≡ tally t ys
tally_permuted {X} t xs ys h =
    let counted : (zs : List X) → tally t zs ≡ count_by t zs = is_count_by (tally t) t refl (λ x zs. refl) in
    counted xs ∙ sym (sum_by-IsPermutation (λ x. cond (t x) 1 0) xs ys h) ∙ sym (counted ys)

tally_filter : (p t : ℕ → Bool) (xs : List ℕ) → tally t (filter p xs) ≡ tally (λ x. p x && t x) xs
tally_filter p t [] = refl
tally_filter p t (x ∷ xs) =
    elim (cases_Bool (p x)) [
      | inl e ↦ ap (λ b. tally t (cond b (x ∷ filter p xs) (filter p xs))) e ∙ ap (λ n. cond (t x) (1 + n) n) (tally_filter p t xs)
          ∙ ap (λ b. cond (b && t x) (1 + tally (λ z. p z && t z) xs) (tally (λ z. p z && t z) xs)) (sym e)
      | inr e ↦ ap (λ b. tally t (cond b (x ∷ filter p xs) (filter p xs))) e ∙ tally_filter p t xs
          ∙ ap (λ b. cond (b && t x) (1 + tally (λ z. p z && t z) xs) (tally (λ z. p z && t z) xs)) (sym e)
    ]

map_map : {X Y : Type 0} (f : X → Y) (k : ℕ → X) (xs : List ℕ) → map f (map k xs) ≡ map (λ x. f (k x)) xs
map_map f k [] = refl
map_map f k (x ∷ xs) = ap (λ l. f (k x) ∷ l) (map_map f k xs)

-- a spelling is there, and it is this
abbrev said : List ℕ → Option (List ℕ) → Bool
said s None = false
said s (Some l) = bytes_eq l s

abbrev missing : Option (List ℕ) → Bool
missing None = true
missing (Some l) = false

spelled_tally : (graph : List Vertex) (s : List ℕ) → tally (said s) (map Some (map (spelling graph) (roots graph))) ≡ tally (passes graph s) (whole graph)
spelled_tally graph s =
    ap (tally (said s)) (map_map Some (spelling graph) (roots graph))
    ∙ tally_map (said s) (λ x. Some (spelling graph x)) (roots graph)
    ∙ tally_filter (is_root graph) (λ x. bytes_eq (spelling graph x) s) (whole graph)

none_missing : (xs : List (List ℕ)) → tally missing (map Some xs) ≡ 0
none_missing [] = refl
none_missing (x ∷ xs) = none_missing xs

option_cases : {X : Type 0} (o : Option X) → (o ≡ None) ⊎ ((x : X) × (o ≡ Some x))
option_cases None = inl refl
option_cases (Some x) = inr (x, refl)

module _ (sp : List (List ℕ)) (graph : List Vertex) (ns : List ℕ) (form : IsForm sp graph ns) where
  pub form_tally : (s : List ℕ) → tally (λ n. said s (slice_get sp n)) ns ≡ tally (passes graph s) (whole graph)
  form_tally s =
      sym (tally_map (said s) (slice_get sp) ns)
      ∙ sym (tally_permuted (said s) (map Some (map (spelling graph) (roots graph))) (map (slice_get sp) ns) form.spelled)
      ∙ spelled_tally graph s

  -- each number is that of a spelling
  pub form_kept : (v : ℕ) → has ns v ≡ true → (l : List ℕ) × (slice_get sp v ≡ Some l)
  form_kept v m =
      let spelled = map (spelling graph) (roots graph) in
      elim (option_cases (slice_get sp v)) [
        | inl e ↦ absurd (omega (arith, some_tally (λ n. missing (slice_get sp n)) ns v m (ap missing e), tally_map missing (slice_get sp) ns, tally_permuted missing (map Some spelled) (map (slice_get sp) ns) form.spelled, none_missing spelled))
        | inr e ↦ e
      ]

-- NUMBERS IN RISING ORDER

rising_rest : (x : ℕ) (xs : List ℕ) → IsNonDecreasing (x ∷ xs) → IsNonDecreasing xs
rising_rest x xs rising i j d low within = rising (suc i) (suc j) d (omega (arith, low)) (omega (arith, within))

first_least : (x : ℕ) (xs : List ℕ) (z : ℕ) → IsNonDecreasing (x ∷ xs) → has (x ∷ xs) z ≡ true → x ≤ z
first_least x xs z rising m =
    let l : List ℕ = x ∷ xs in
    subst (λ y. x ≤ y) (at_place l z m) (rising 0 (place l z) 0 (omega arith) (place_in l z m))

same_rest : (b : Bool) (m n : ℕ) → cond b (1 + m) m ≡ cond b (1 + n) n → m ≡ n
same_rest true m n e = omega (arith, e)
same_rest false m n e = e

has_tallied : (xs ys : List ℕ) (v : ℕ) → tally (λ n. n == v) xs ≡ tally (λ n. n == v) ys → has xs v ≡ true → has ys v ≡ true
has_tallied xs ys v e m =
    let found = tally_some (λ n. n == v) ys (omega (arith, e, some_tally (λ n. n == v) xs v m (eq-eqb v v refl))) in
    ap (has ys) (sym (eqb-true found.0 v found.2)) ∙ found.1

pub same_rising : (xs ys : List ℕ) → IsNonDecreasing xs → IsNonDecreasing ys → ((v : ℕ) → tally (λ n. n == v) xs ≡ tally (λ n. n == v) ys) → xs ≡ ys
same_rising [] [] up rise e = refl
same_rising [] (y ∷ ys) up rise e = absurd (omega (arith, e y, some_tally (λ n. n == y) (y ∷ ys) y (has_first y ys) (eq-eqb y y refl)))
same_rising (x ∷ xs) [] up rise e = absurd (omega (arith, e x, some_tally (λ n. n == x) (x ∷ xs) x (has_first x xs) (eq-eqb x x refl)))
same_rising (x ∷ xs) (y ∷ ys) up rise e =
    let low = first_least x xs y up (has_tallied (y ∷ ys) (x ∷ xs) y (sym (e y)) (has_first y ys)) in
    let high = first_least y ys x rise (has_tallied (x ∷ xs) (y ∷ ys) x (e x) (has_first x xs)) in
    let same : x ≡ y = omega (arith, low, high) in
    let rest = same_rising xs ys (rising_rest x xs up) (rising_rest y ys rise) (λ v.
    same_rest (x == v) (tally (λ n. n == v) xs) (tally (λ n. n == v) ys) (e v ∙ ap (λ z. cond (z == v) (1 + tally (λ n. n == v) ys) (tally (λ n. n == v) ys)) (sym same))) in
    λ i. same i ∷ rest i

-- NUMBERS OF SPELLINGS

module _ (sp : List (List ℕ)) (once : IsOnce sp) where
  -- where spellings stand once each, a number is told by its spelling
  said_here : (v : ℕ) (s : List ℕ) → slice_get sp v ≡ Some s → (n : ℕ) → said s (slice_get sp n) ≡ (n == v)
  said_here v s e n =
      elim (cases_Bool (n == v)) [
        | inl same ↦ ap (said s) (ap (slice_get sp) (eqb-true n v same) ∙ e) ∙ (bytes_eq-Decides s s).1 refl ∙ sym same
        | inr other ↦ elim (option_cases (slice_get sp n)) [
          | inl none ↦ ap (said s) none ∙ sym other
          | inr some ↦ elim (cases_Bool (bytes_eq some.0 s)) [
            | inl alike ↦ absurd (no_is_not_yes other (eq-eqb n v (once n v s (some.1 ∙ ap Some ((bytes_eq-Decides some.0 s).0 alike)) e)))
            | inr differs ↦ ap (said s) some.1 ∙ differs ∙ sym other
          ]
        ]
      ]

  none_here : (v : ℕ) (ns : List ℕ) → slice_get sp v ≡ None → ((n : ℕ) → has ns n ≡ true → (l : List ℕ) × (slice_get sp n ≡ Some l)) → tally (λ n. n == v) ns ≡ 0
  none_here v [] e kept = refl
  none_here v (n ∷ ns) e kept =
      elim (cases_Bool (n == v)) [
        | inl same ↦ let at = kept n (has_first n ns) in absurd (none-some at.0 (sym e ∙ ap (slice_get sp) (sym (eqb-true n v same)) ∙ at.1))
        | inr other ↦ ap (λ b. cond b (1 + tally (λ z. z == v) ns) (tally (λ z. z == v) ns)) other ∙ none_here v ns e (λ z m. kept z (or_right (z == n) (has ns z) m))
      ]

  pub same_forms : (a b : List Vertex) (ns ms : List ℕ) → IsForm sp a ns → IsForm sp b ms → ((s : List ℕ) → tally (passes a s) (whole a) ≡ tally (passes b s) (whole b)) → ns ≡ ms
  same_forms a b ns ms p q equal =
      same_rising ns ms p.rising q.rising (λ v. elim (option_cases (slice_get sp v)) [
        | inl e ↦ none_here v ns e (form_kept sp a ns p) ∙ sym (none_here v ms e (form_kept sp b ms q))
        | inr e ↦
            sym (tally_along (λ n. said e.0 (slice_get sp n)) (λ n. n == v) ns (λ n m. said_here v e.0 e.1 n))
            ∙ form_tally sp a ns p e.0 ∙ equal e.0 ∙ sym (form_tally sp b ms q e.0)
            ∙ tally_along (λ n. said e.0 (slice_get sp n)) (λ n. n == v) ms (λ n m. said_here v e.0 e.1 n)
      ])

-- THE LAWS

pub numbers_tell : (kept : KeptForms) (a b : List Vertex) (m n : ℕ) → AreForms kept → IsGraph a → IsGraph b → HasNumber kept a m → HasNumber kept b n → ((m ≡ n) ↔ Isomorphic a b)
numbers_tell kept a b m n are is also p q = (
  λ same.
      let one : p.numbers ≡ q.numbers = same_Some p.numbers q.numbers (sym p.form ∙ ap (slice_get kept.forms) same ∙ q.form) in
      isomorphic_from a b is also (λ s.
      sym (form_tally kept.spellings a p.numbers p.is_form s) ∙ ap (tally (λ k. said s (slice_get kept.spellings k))) one ∙ form_tally kept.spellings b q.numbers q.is_form s),
  λ i.
      let one = same_forms kept.spellings are.spellings.once a b p.numbers q.numbers p.is_form q.is_form (equally_often a b is also i) in
      are.forms.once m n q.numbers (p.form ∙ ap Some one) q.form,
)

pub numbers_remain : (old new : KeptForms) (graph : List Vertex) (n : ℕ) → KeepsForms old new → HasNumber old graph n → HasNumber new graph n
numbers_remain old new graph n keeps p =
    record {
      numbers = p.numbers;
      form = stays_list old.forms new.forms n p.numbers keeps.forms p.form;
      is_form = record {
        rising = p.is_form.rising;
        spelled = subst (λ l. IsPermutation (map Some (map (spelling graph) (roots graph))) l)
            (map_along (slice_get old.spellings) (slice_get new.spellings) p.numbers (λ v m.
            let at = form_kept old.spellings graph p.numbers p.is_form v m in
            at.1 ∙ sym (stays_list old.spellings new.spellings v at.0 keeps.spellings at.1)))
            p.is_form.spelled;
      };
    }
