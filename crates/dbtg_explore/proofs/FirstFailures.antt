-- The first order to each failure.
-- m is a meeting, os are the orders that are found, f is a failure, i is the place of an order.
use Rattle.std.proofs.Common.{◌≡◌, refl, sym, ◌∙◌, subst, ℕ, ◌+◌, ◌<◌, ◌≤◌, List, [], ◌∷◌, ◌++◌, length, get_or, map, arith, inl, inr, ⊎_elim}
use Rattle.std.specs.Prelude.{Contains}
use Rattle.std.proofs.lemmas.Bool.{cases_lt}
use Rattle.std.proofs.lemmas.List.{get_or_default, map_push}
use Rattle.std.proofs.lemmas.List.Elements.{Contains-push_cases}
use Rattle.dbtg_explore.specs.declared.explored.Failure.{Failure}
use Rattle.dbtg_explore.specs.declared.explored.FirstFailure.{FirstFailure}
use Rattle.dbtg_explore.specs.Inside.Ends.{FailsIn}
use Rattle.dbtg_explore.specs.Inside.Failures.{AreFirst, HasFirstTurns, IsFirstPlace}
use Rattle.dbtg_explore.specs.Orders.{Meeting}
use Rattle.dbtg_explore.specs.Pairwise.{ArePairwise}
use Rattle.dbtg_explore.specs.States.{state_of}
use Rattle.dbtg_explore.proofs.Searched.{contains_none}
use Rattle.dbtg_explore.proofs.Steps.{in_map}

module _ (m : Meeting) (os : List (List ℕ)) (f : Failure) where
  -- some order from this place on leads to the failure, and none before it
  pub record IsAhead (i : ℕ) : Type 0 where
    pub place : ℕ
    pub from_here : i ≤ place
    pub within : place < length os
    pub fails : FailsIn (state_of m (get_or os place [])) f
    pub before : (k : ℕ) → k < i → FailsIn (state_of m (get_or os k [])) f → ⊥

  pub ahead_first : (o : List ℕ) → Contains os o → FailsIn (state_of m o) f → IsAhead 0
  ahead_first o c fails = record {
    place = c.0;
    from_here = omega arith;
    within = c.1;
    fails = subst (λ (p : List ℕ). FailsIn (state_of m p) f) (sym (get_or_default os c.0 [] o c.1 ∙ c.2)) fails;
    before = λ k low _. absurd (omega (arith, low));
  }

  pub ahead_next : (i : ℕ) → IsAhead i → (FailsIn (state_of m (get_or os i [])) f → ⊥) → IsAhead (i + 1)
  ahead_next i h not_here = record {
    place = h.place;
    from_here = elim (cases_lt i h.place) [
      | inl low ↦ omega (arith, low)
      | inr high ↦
          let same : h.place ≡ i = omega (arith, high, h.from_here) in
          absurd (not_here (subst (λ (k : ℕ). FailsIn (state_of m (get_or os k [])) f) same h.fails))
    ];
    within = h.within;
    fails = h.fails;
    before = λ k low fails. elim (cases_lt k i) [
      | inl earlier ↦ h.before k earlier fails
      | inr later ↦ let same : k ≡ i = omega (arith, later, low) in not_here (subst (λ (j : ℕ). FailsIn (state_of m (get_or os j [])) f) same fails)
    ];
  }

  pub first_here : (i : ℕ) → IsAhead i → i < length os → FailsIn (state_of m (get_or os i [])) f → IsFirstPlace m os f i
  first_here i h low fails = record { within = low; fails = fails; before = h.before }

-- EACH OF THEM

module _ (m : Meeting) (os : List (List ℕ)) where
  pub none_first : AreFirst m os [] []
  none_first = record { failures_are = refl; each = λ g c. absurd (contains_none g c) }

  pub one_first : (fs : List Failure) (gs : List FirstFailure) (f : Failure) (g : FirstFailure) → AreFirst m os fs gs → g.failure ≡ f → HasFirstTurns m os g → AreFirst m os (fs ++ f ∷ []) (gs ++ g ∷ [])
  one_first fs gs f g h is first = record {
    failures_are = map_push (λ (x : FirstFailure). x.failure) gs g ∙ (λ i. h.failures_are i ++ is i ∷ []);
    each = λ x c. ⊎_elim (h.each x) (λ e. subst (HasFirstTurns m os) e first) (Contains-push_cases gs g x c);
  }

-- a relation of what is taken of elements is one of the elements
pub pairwise_map : {A B : Type 0} (g : A → B) (R : B → B → Type 0) (xs : List A) → ArePairwise R (map g xs) → ArePairwise (λ x y. R (g x) (g y)) xs
pairwise_map g R [] h = tt
pairwise_map g R (x ∷ xs) h = (λ y c. h.0 (g y) (in_map g xs y c), pairwise_map g R xs h.1)
