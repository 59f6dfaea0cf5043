-- The first element of an ascending list that isn't held: all below it are held.
use Rattle.std.proofs.Common.{◌≡◌, refl, sym, ◌∙◌, subst, Bool, true, false, not, List, [], ◌∷◌, Some, ◌⊎◌, inl, inr}
use Rattle.std.specs.List.{find}
use Rattle.std.proofs.lemmas.Bool.{and_parts, false≢true, not-false}
use Rattle.dbtg_unit.specs.Database.State.Legal.{pairwise}
use Rattle.dbtg_unit.proofs.Public.{In, all_at, find_element}

not_both : (b : Bool) → b ≡ true → not b ≡ true → ⊥
not_both true h g = false≢true g
not_both false h g = false≢true h

-- with each element that is held, all of the list that are below it are held
abbrev pub IsClosed : {X : Type 0} → (X → X → Bool) → (X → Bool) → List X → Type 0
IsClosed {X} lt held xs = (h d : X) → held h ≡ true → In d xs → lt d h ≡ true → held d ≡ true

module _ {X : Type 0} (lt : X → X → Bool) (never : (x : X) → lt x x ≡ true → ⊥) (chain : (x y z : X) → lt x y ≡ true → lt y z ≡ true → lt x z ≡ true) where
  -- what is below the first that passes doesn't pass
  pub below_first : (p : X → Bool) (xs : List X) (c d : X) → pairwise lt xs ≡ true → find p xs ≡ Some c → In d xs → lt d c ≡ true → p d ≡ false
  below_first p [] c d h e i b = absurd i
  below_first p (x ∷ xs) c d h e i b = go (λ t j. below_first p xs c d (and_parts _ _ h).1 (later t) j b) (p x) refl i
    where
      first : p x ≡ true → x ≡ c
      first t = cc (e, t)

      later : p x ≡ false → find p xs ≡ Some c
      later t = cc (e, t)

      go : (p x ≡ false → In d xs → p d ≡ false) → (q : Bool) → p x ≡ q → In d (x ∷ xs) → p d ≡ false
      go behind true t (inl s) = absurd (never c (subst (λ (y : X). lt y c ≡ true) (sym s ∙ first t) b))
      go behind true t (inr j) = absurd (never c (chain c d c (subst (λ (y : X). lt y d ≡ true) (first t) (all_at (lt x) d xs (and_parts _ _ h).0 j)) b))
      go behind false t (inl s) = subst (λ (y : X). p y ≡ false) s t
      go behind false t (inr j) = behind t j

  -- it stays so when the first that isn't held is taken
  pub closed_on : (held held' : X → Bool) (xs : List X) (c : X) → pairwise lt xs ≡ true → find (λ x. not (held x)) xs ≡ Some c →
      ((d : X) → held' d ≡ true → (held d ≡ true) ⊎ (d ≡ c)) → ((d : X) → held d ≡ true → held' d ≡ true) → IsClosed lt held xs → IsClosed lt held' xs
  closed_on held held' xs c asc e less more closed h d k i b = elim (less h k) [
    | inl old ↦ more d (closed h d old i b)
    | inr new ↦ more d (not-false (held d) (below_first (λ x. not (held x)) xs c d asc e i (subst (λ y. lt d y ≡ true) new b)))
  ]

  -- and the first that isn't held is above all that are
  pub above_held : (total : (x y : X) → (lt x y ≡ true) ⊎ ((x ≡ y) ⊎ (lt y x ≡ true))) (held : X → Bool) (xs : List X) (c : X) → find (λ x. not (held x)) xs ≡ Some c → IsClosed lt held xs → (h : X) → held h ≡ true → lt h c ≡ true
  above_held total held xs c e closed h k =
      let f = find_element (λ x. not (held x)) xs c e in
      elim (total h c) [
        | inl below ↦ below
        | inr (inl same) ↦ absurd (not_both (held c) (subst (λ y. held y ≡ true) same k) f.1)
        | inr (inr above) ↦ absurd (not_both (held c) (closed h c k f.0 above) f.1)
      ]
