-- Names that no name before them in a list equals.
use Rattle.std.proofs.Common.{◌≡◌, ℕ, zero, suc, ◌+◌, ◌<◌, Bool, true, false, not, ◌&&◌, cond, List, [], ◌∷◌, length, get_or, take, map, Some, sym, ap, ◌∙◌, inl, inr, arith}
use Rattle.std.specs.List.{list_all, position_from}
use Rattle.std.specs.Str.{bytes_eq}
use Rattle.std.proofs.lemmas.Bool.{cases_Bool}
use Rattle.dbtg_schema.proofs.Public.{bytes_same}

-- a place whose name stands at none before it
first_from : {X : Type 0} (t : List ℕ → Bool) (name : X → List ℕ) (k i : ℕ) (xs : List X) (x : X) → i < length xs → x ≡ get_or xs i x → t (name x) ≡ true → list_all (λ y. not (t (name y))) (take i xs) ≡ true
    → position_from t k (map name xs) ≡ Some (k + i)
first_from t name k i [] x lt e h g = absurd (omega arith)
first_from {X} t name k zero (y ∷ ys) x lt e h g =
    let at : k ≡ k + 0 = omega arith in
    ap (λ b. cond b (Some k) (position_from t (k + 1) (map name ys))) (ap (λ (z : X). t (name z)) (sym e) ∙ h) ∙ ap Some at
first_from t name k (suc i) (y ∷ ys) x lt e h g = elim (cases_Bool (t (name y))) [
  | inl same ↦ absurd (by_test (t (name y)) (list_all (λ z. not (t (name z))) (take i ys)) same g)
  | inr other ↦
      let rest = by_rest (t (name y)) (list_all (λ z. not (t (name z))) (take i ys)) other g in
      let at : (k + 1) + i ≡ k + suc i = omega arith in
      ap (λ b. cond b (Some k) (position_from t (k + 1) (map name ys))) other ∙ first_from t name (k + 1) i ys x (omega arith) e h rest ∙ ap Some at
]
  where
    by_test : (a b : Bool) → a ≡ true → (not a && b) ≡ true → ⊥
    by_test a b same all = cc

    by_rest : (a b : Bool) → a ≡ false → (not a && b) ≡ true → b ≡ true
    by_rest a b other all = cc

pub first_of_its_name : {X : Type 0} (name : X → List ℕ) (i : ℕ) (xs : List X) (x : X) → i < length xs → x ≡ get_or xs i x → list_all (λ y. not (bytes_eq (name x) (name y))) (take i xs) ≡ true
    → position_from (bytes_eq (name x)) 0 (map name xs) ≡ Some i
first_of_its_name name i xs x lt e g = let at : 0 + i ≡ i = omega arith in first_from (bytes_eq (name x)) name 0 i xs x lt e (bytes_same (name x)) g ∙ ap Some at
