-- The names of a list, each once.
-- c and d are names of cells.
use Rattle.std.proofs.Common.{◌≡◌, refl, sym, ◌∙◌, ap, Bool, true, false, not, ◌||◌, List, [], ◌∷◌, ◌++◌, inl, inr}
use Rattle.std.specs.Prelude.{if◌then◌else◌}
use Rattle.std.specs.List.{list_all}
use Rattle.std.proofs.lemmas.Bool.{and_from, and_parts, cases_Bool, false≢true}
use Rattle.std.proofs.lemmas.List.Folds.{list_all-append, list_any-append}
use Rattle.dbtg_cells.specs.Names.{name_eq}
use Rattle.dbtg_cells.specs.declared.name.CellName.{CellName}
use Rattle.dbtg_cells.proofs.Public.{name_eq_refl, same_name}
use Rattle.dbtg_unit.specs.Database.State.Legal.{pairwise}
use Rattle.dbtg_step.specs.Core.Reversible.{is_named}
use Rattle.dbtg_step.specs.Inside.Reversible.{with_name, with_names}

-- a name that passes, where all that are named pass
pub named_passes : (p : CellName → Bool) (names : List CellName) (c : CellName) → list_all p names ≡ true → is_named names c ≡ true → p c ≡ true
named_passes p [] c all named = absurd (false≢true named)
named_passes p (d ∷ names) c all named =
    let parts = and_parts _ _ all in
    elim (cases_Bool (name_eq c d)) [
      | inl same ↦ ap p (same_name c d same) ∙ parts.0
      | inr other ↦ named_passes p names c parts.1 (sym (ap (λ b. b || is_named names c) other) ∙ named)
    ]

-- EACH NAME IS THERE

still_named : (names : List CellName) (d c : CellName) → is_named names c ≡ true → is_named (with_name names d) c ≡ true
still_named names d c h = by (is_named names d)
  where
    by : (b : Bool) → is_named (if b then names else names ++ d ∷ []) c ≡ true
    by true = h
    by false = list_any-append (name_eq c) names (d ∷ []) ∙ ap (λ b. b || is_named (d ∷ []) c) h

named_now : (names : List CellName) (d : CellName) → is_named (with_name names d) d ≡ true
named_now names d = by (is_named names d) refl
  where
    by : (b : Bool) → is_named names d ≡ b → is_named (if b then names else names ++ d ∷ []) d ≡ true
    by true e = e
    by false e = list_any-append (name_eq d) names (d ∷ []) ∙ ap (λ b. b || is_named (d ∷ []) d) e ∙ ap (λ b. b || false) (name_eq_refl d)

stays_named : (names cs : List CellName) (c : CellName) → is_named names c ≡ true → is_named (with_names names cs) c ≡ true
stays_named names [] c h = h
stays_named names (d ∷ cs) c h = stays_named (with_name names d) cs c (still_named names d c h)

-- a name of the list is among them
pub once_named : (names cs : List CellName) (c : CellName) → is_named cs c ≡ true → is_named (with_names names cs) c ≡ true
once_named names [] c h = absurd (false≢true h)
once_named names (d ∷ cs) c h = elim (cases_Bool (name_eq c d)) [
  | inl same ↦ stays_named (with_name names d) cs c (ap (is_named (with_name names d)) (same_name c d same) ∙ named_now names d)
  | inr other ↦ once_named (with_name names d) cs c (sym (ap (λ b. b || is_named cs c) other) ∙ h)
]

-- THEY ARE THOSE OF THE LIST

-- where all names of the list pass, so do they
pub once_pass : (p : CellName → Bool) (names cs : List CellName) → list_all p names ≡ true → list_all p cs ≡ true → list_all p (with_names names cs) ≡ true
once_pass p names [] h g = h
once_pass p names (d ∷ cs) h g =
    let parts = and_parts _ _ g in
    once_pass p (with_name names d) cs (by parts.0 (is_named names d)) parts.1
  where
    by : p d ≡ true → (b : Bool) → list_all p (if b then names else names ++ d ∷ []) ≡ true
    by passes true = h
    by passes false = list_all-append p names (d ∷ []) ∙ and_from _ _ h (and_from _ _ passes refl)

-- EACH STANDS ONCE

apart_back : (c d : CellName) → name_eq d c ≡ false → name_eq c d ≡ false
apart_back c d other = by (name_eq c d) refl
  where
    by : (b : Bool) → name_eq c d ≡ b → b ≡ false
    by true same = absurd (false≢true (sym other ∙ ap (name_eq d) (same_name c d same) ∙ name_eq_refl d))
    by false same = refl

one_more_once : (names : List CellName) (d : CellName) → pairwise (λ x y. not (name_eq x y)) names ≡ true → is_named names d ≡ false → pairwise (λ x y. not (name_eq x y)) (names ++ d ∷ []) ≡ true
one_more_once [] d once new = refl
one_more_once (c ∷ names) d once new =
    let parts = and_parts _ _ once in
    by (name_eq d c) refl new (one_more_once names d parts.1) parts.0
  where
    by : (b : Bool) → name_eq d c ≡ b → (b || is_named names d) ≡ false → (is_named names d ≡ false → pairwise (λ x y. not (name_eq x y)) (names ++ d ∷ []) ≡ true) → list_all (λ y. not (name_eq c y)) names ≡ true
        → pairwise (λ x y. not (name_eq x y)) (c ∷ names ++ d ∷ []) ≡ true
    by true e none rest others = absurd (false≢true (sym none))
    by false e none rest others =
        and_from _ _ (list_all-append (λ y. not (name_eq c y)) names (d ∷ []) ∙ and_from _ _ others (and_from _ _ (ap not (apart_back c d e)) refl)) (rest none)

-- no name stands twice
pub stand_once : (names cs : List CellName) → pairwise (λ x y. not (name_eq x y)) names ≡ true → pairwise (λ x y. not (name_eq x y)) (with_names names cs) ≡ true
stand_once names [] once = once
stand_once names (d ∷ cs) once = stand_once (with_name names d) cs (by (is_named names d) refl)
  where
    by : (b : Bool) → is_named names d ≡ b → pairwise (λ x y. not (name_eq x y)) (if b then names else names ++ d ∷ []) ≡ true
    by true e = once
    by false e = one_more_once names d once e
