-- What is reached from a vertex: each vertex once, all that links lead to, and nothing else.
-- links gives the vertices to which a vertex leads, x is where it begins, k counts the steps.
use Rattle.std.proofs.Common.{◌≡◌, refl, sym, ◌∙◌, ap, subst, append-nil, append_assoc, ℕ, zero, suc, ◌<◌, ◌≤◌, arith, true, List, [], ◌∷◌, ◌++◌, length, get_or, inl, inr, ◌⊎◌, Option, Some, None, slice_get, if◌then◌else◌}
use Rattle.std.specs.Prelude.{◌==◌, option_map, unwrap_or}
use Rattle.std.specs.List.{range_with_len}
use Rattle.std.proofs.lemmas.Bool.{cases_Bool, cases_lt, eq-eqb, eqb-true, or_cases, or_left, or_right}
use Rattle.std.proofs.lemmas.Option.{slice_get-get_or, slice_get_past, slice_get_within}
use Rattle.dbtg_forms.specs.declared.vertex.Vertex.{Vertex}
use Rattle.dbtg_forms.specs.Graphs.{IsGraph, has, links_of}
use Rattle.dbtg_forms.specs.Forms.{component, place, reached, reached_by}
use Rattle.dbtg_forms.proofs.Lists.{Once, at_place, has_cases, has_first, has_left, has_one, has_range, has_right, length_part, once_push, place_in, range_length, range_once}

-- ONE AFTER ANOTHER

abbrev pub added : List ℕ → ℕ → List ℕ
added order x = if has order x then order else order ++ x ∷ []

pub added_has : (order : List ℕ) (x : ℕ) → has (added order x) x ≡ true
added_has order x =
    elim (cases_Bool (has order x)) [
      | inl e ↦ ap (λ b. has (if b then order else order ++ x ∷ []) x) e ∙ e
      | inr e ↦ ap (λ b. has (if b then order else order ++ x ∷ []) x) e ∙ has_right order (x ∷ []) x (has_first x [])
    ]

pub added_from : (order : List ℕ) (x z : ℕ) → has (added order x) z ≡ true → (has order z ≡ true) ⊎ (z ≡ x)
added_from order x z h =
    elim (cases_Bool (has order x)) [
      | inl e ↦ inl (sym (ap (λ b. has (if b then order else order ++ x ∷ []) z) e) ∙ h)
      | inr e ↦ elim (has_cases order (x ∷ []) z (sym (ap (λ b. has (if b then order else order ++ x ∷ []) z) e) ∙ h)) [
        | inl g ↦ inl g
        | inr g ↦ inr (has_one x z g)
      ]
    ]

pub added_once : (order : List ℕ) (x : ℕ) → Once order → Once (added order x)
added_once order x once =
    elim (cases_Bool (has order x)) [
      | inl e ↦ subst (λ b. Once (if b then order else order ++ x ∷ [])) (sym e) once
      | inr e ↦ subst (λ b. Once (if b then order else order ++ x ∷ [])) (sym e) (once_push order x once e)
    ]

pub reached_keeps : (order xs : List ℕ) → (rest : List ℕ) × (reached order xs ≡ order ++ rest)
reached_keeps order [] = ([], sym (append-nil order))
reached_keeps order (x ∷ xs) =
    let r = reached_keeps (added order x) xs in
    elim (cases_Bool (has order x)) [
      | inl e ↦ (r.0, r.1 ∙ ap (λ b. (if b then order else order ++ x ∷ []) ++ r.0) e)
      | inr e ↦ (x ∷ r.0, r.1 ∙ ap (λ b. (if b then order else order ++ x ∷ []) ++ r.0) e ∙ append_assoc order (x ∷ []) r.0)
    ]

pub reached_old : (order xs : List ℕ) (z : ℕ) → has order z ≡ true → has (reached order xs) z ≡ true
reached_old order xs z h = let r = reached_keeps order xs in ap (λ l. has l z) r.1 ∙ has_left order r.0 z h

pub reached_new : (order xs : List ℕ) (z : ℕ) → has xs z ≡ true → has (reached order xs) z ≡ true
reached_new order [] z h = absurd (cc)
reached_new order (x ∷ xs) z h =
    elim (or_cases (z == x) (has xs z) h) [
      | inl e ↦ reached_old (added order x) xs z (ap (has (added order x)) (eqb-true z x e) ∙ added_has order x)
      | inr e ↦ reached_new (added order x) xs z e
    ]

pub reached_from : (order xs : List ℕ) (z : ℕ) → has (reached order xs) z ≡ true → (has order z ≡ true) ⊎ (has xs z ≡ true)
reached_from order [] z h = inl h
reached_from order (x ∷ xs) z h =
    elim (reached_from (added order x) xs z h) [
      | inl e ↦ elim (added_from order x z e) [
        | inl g ↦ inl g
        | inr g ↦ inr (or_left (z == x) (has xs z) (eq-eqb z x g))
      ]
      | inr e ↦ inr (or_right (z == x) (has xs z) e)
    ]

pub reached_once : (order xs : List ℕ) → Once order → Once (reached order xs)
reached_once order [] once = once
reached_once order (x ∷ xs) once = reached_once (added order x) xs (added_once order x once)

-- ELEMENTS BY PLACE

pub got_before : (xs rest : List ℕ) (i y : ℕ) → slice_get xs i ≡ Some y → slice_get (xs ++ rest) i ≡ Some y
got_before [] rest i y h = absurd (cc)
got_before (x ∷ xs) rest zero y h = h
got_before (x ∷ xs) rest (suc i) y h = got_before xs rest i y h

pub got_has : (xs : List ℕ) (i y : ℕ) → slice_get xs i ≡ Some y → has xs y ≡ true
got_has [] i y h = absurd (cc)
got_has (x ∷ xs) zero y h = let same : y ≡ x = cc in or_left (y == x) (has xs y) (eq-eqb y x same)
got_has (x ∷ xs) (suc i) y h = or_right (y == x) (has xs y) (got_has xs i y h)

opened : (links : ℕ → List ℕ) (o : Option ℕ) (z : ℕ) → has (unwrap_or (option_map links o) []) z ≡ true → (y : ℕ) × (o ≡ Some y) × (has (links y) z ≡ true)
opened links None z h = absurd (cc)
opened links (Some y) z h = (y, refl, h)

-- STEP AFTER STEP

module _ (links : ℕ → List ℕ) (x : ℕ) where
  -- what the vertex at place k leads to
  abbrev beside : ℕ → List ℕ
  beside k = unwrap_or (option_map links (slice_get (reached_by links x k) k)) []

  pub by_once : (k : ℕ) → Once (reached_by links x k)
  by_once zero = (refl, tt)
  by_once (suc k) = reached_once (reached_by links x k) (beside k) (by_once k)

  pub by_first : (k : ℕ) → has (reached_by links x k) x ≡ true
  by_first zero = has_first x []
  by_first (suc k) = reached_old (reached_by links x k) (beside k) x (by_first k)

  -- what holds of the first, and goes along links, holds of all
  pub by_least : (P : ℕ → Type 0) → P x → ((y z : ℕ) → P y → has (links y) z ≡ true → P z) → (k z : ℕ) → has (reached_by links x k) z ≡ true → P z
  by_least P first goes zero z h = subst P (sym (has_one x z h)) first
  by_least P first goes (suc k) z h =
      let before = reached_by links x k in
      elim (reached_from before (beside k) z h) [
        | inl e ↦ by_least P first goes k z e
        | inr e ↦ let from = opened links (slice_get before k) z e in goes from.0 z (by_least P first goes k from.0 (got_has before k from.0 from.1)) from.2
      ]

  settled_step : (k : ℕ) → length (reached_by links x k) ≤ k → reached_by links x (suc k) ≡ reached_by links x k
  settled_step k few = ap (λ o. reached (reached_by links x k) (unwrap_or (option_map links o) [])) (slice_get_past (reached_by links x k) k few)

  -- each of the first k leads to what was reached
  pub by_done : (k i y z : ℕ) → i < k → slice_get (reached_by links x k) i ≡ Some y → has (links y) z ≡ true → has (reached_by links x k) z ≡ true
  by_done zero i y z low at h = absurd (omega (arith, low))
  by_done (suc k) i y z low at h =
      let before = reached_by links x k in
      elim (cases_lt i (length before)) [
        | inl within ↦
            let more = reached_keeps before (beside k) in
            let there = slice_get-get_or before i 0 within in
            let here : slice_get before i ≡ Some y = there ∙ sym (ap (λ l. slice_get l i) more.1 ∙ got_before before more.0 i (get_or before i 0) there) ∙ at in
            elim (cases_lt i k) [
              | inl early ↦ reached_old before (beside k) z (by_done k i y z early here h)
              | inr late ↦
                  let now : i ≡ k = omega (arith, low, late) in
                  reached_new before (beside k) z
                  (ap (λ o. has (unwrap_or (option_map links o) []) z) (ap (slice_get before) (sym now) ∙ here) ∙ h)
            ]
        | inr past ↦
            let same = settled_step k (omega (arith, past, low)) in
            absurd (omega (arith, past, slice_get_within before i y (sym (ap (λ l. slice_get l i) same) ∙ at)))
      ]

  -- when all were looked at nothing more is reached
  pub by_settled : (k m : ℕ) → length (reached_by links x k) ≤ k → k ≤ m → reached_by links x m ≡ reached_by links x k
  by_settled k zero few low = let same : 0 ≡ k = omega (arith, low) in ap (reached_by links x) same
  by_settled k (suc m) few low =
      elim (cases_lt m k) [
        | inl last ↦ let same : suc m ≡ k = omega (arith, last, low) in ap (reached_by links x) same
        | inr more ↦
            let before = by_settled k m few more in
            settled_step m (omega (arith, ap length before, few, more)) ∙ before
      ]

-- THE COMPONENT OF A VERTEX

module _ (graph : List Vertex) (is : IsGraph graph) (x : ℕ) (within : x < length graph) where
  pub component_within : (k z : ℕ) → has (reached_by (links_of graph) x k) z ≡ true → z < length graph
  component_within = by_least (links_of graph) x (λ z. z < length graph) within (λ y z p h. is.within y z h)

  pub component_few : length (component graph x) ≤ length graph
  component_few =
      omega (
        arith,
        length_part (component graph x) (range_with_len 0 (length graph)) (by_once (links_of graph) x (length graph)) (range_once (length graph))
            (λ z h. has_range (length graph) z (component_within (length graph) z h)),
        range_length 0 (length graph),
      )

  pub component_closed : (y z : ℕ) → has (component graph x) y ≡ true → has (links_of graph y) z ≡ true → has (component graph x) z ≡ true
  component_closed y z h g =
      let all = component graph x in
      let low = place_in all y h in
      by_done (links_of graph) x (length graph) (place all y) y z (omega (arith, low, component_few)) (slice_get-get_or all (place all y) 0 low ∙ ap Some (at_place all y h)) g
