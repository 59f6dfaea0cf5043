-- What a step is, by the case at hand.
use Rattle.std.proofs.Common.{ℕ, ◌≡◌, Bool, true, false, ltb, List, [], ◌∷◌, length, Some, None, refl, ap, ◌∙◌}
use Rattle.dbtg_step.specs.Machine.SequentialDatabase.{HeldCell, SequentialDatabase, NextNeed, NeedsArea, NeedsCell, unit_at}
use Rattle.dbtg_step.specs.Machine.Machine.{CellLocation, Home, StatementProgress, UnitState, State, SequentialState, begun, relocated}
use Rattle.dbtg_step.specs.Machine.Step.{next_need, MovedTo, IsIdle, updated, conflicts, any_other, is_nonempty, after_ticket, takes_area, takes_cell, follows_need, before_ticket, in_statement, step_of_unit, step_if_unit, step}

module _ (D : SequentialDatabase) (opening : SequentialState D) (s : State D) (u : ℕ) where
  pub step_no_unit : unit_at s.units u ≡ None → step D opening s u ≡ IsIdle
  unfolding step step_if_unit
  step_no_unit e = ap (step_if_unit D opening s u) e

  module _ (state : UnitState D) (at : unit_at s.units u ≡ Some state) where
    pub step_over : state.progress ≡ None → state.remaining ≡ [] → step D opening s u ≡ IsIdle
    unfolding step step_if_unit step_of_unit
    step_over e r = ap (step_if_unit D opening s u) at ∙ (ap (λ w. step_of_unit D opening s u state w state.remaining) e ∙ ap (λ xs. step_of_unit D opening s u state None xs) r)

    pub step_begins : (x : D.Statement) (xs : List D.Statement) → state.progress ≡ None → state.remaining ≡ x ∷ xs → step D opening s u ≡ MovedTo (updated D s u state s.location state.guesses (Some (begun D x)))
    unfolding step step_if_unit step_of_unit
    step_begins x xs e r = ap (step_if_unit D opening s u) at ∙ (ap (λ w. step_of_unit D opening s u state w state.remaining) e ∙ ap (λ xs. step_of_unit D opening s u state None xs) r)

    module _ (w : StatementProgress D) (is : state.progress ≡ Some w) where
      at_this : step D opening s u ≡ in_statement D opening s u state w w.ticket state.remaining
      unfolding step step_if_unit step_of_unit
      at_this = ap (step_if_unit D opening s u) at ∙ ap (λ o. step_of_unit D opening s u state o state.remaining) is

      pub step_after_ticket : (t : ℕ) → w.ticket ≡ Some t → step D opening s u ≡ MovedTo (after_ticket D s u state w (ltb w.linked (length w.cells)) w.cells w.areas)
      unfolding in_statement
      step_after_ticket t e = at_this ∙ ap (λ o. in_statement D opening s u state w o state.remaining) e

      module _ (x : D.Statement) (xs : List D.Statement) (no_ticket : w.ticket ≡ None) (remaining : state.remaining ≡ x ∷ xs) where
        before_ticket_here : step D opening s u ≡ before_ticket D opening s u state w x xs w.turning_back w.cells
        unfolding in_statement
        before_ticket_here = at_this ∙ (ap (λ o. in_statement D opening s u state w o state.remaining) no_ticket ∙ ap (λ r. in_statement D opening s u state w None r) remaining)

        pub step_turns_back : (h : HeldCell D.Cell D.Value) (hs : List (HeldCell D.Cell D.Value)) → w.turning_back ≡ true → w.cells ≡ h ∷ hs → step D opening s u ≡ MovedTo (updated D s u state (relocated D s.location h.name (Home h.value)) state.guesses (Some (record w { cells = hs; turning_back = is_nonempty hs })))
        unfolding before_ticket
        step_turns_back h hs t e = before_ticket_here ∙ (ap (λ b. before_ticket D opening s u state w x xs b w.cells) t ∙ ap (λ cs. before_ticket D opening s u state w x xs true cs) e)

        -- it doesn't turn back, or has turned back
        not_turning : (b : Bool) (cs : List (HeldCell D.Cell D.Value)) → (b ≡ true → cs ≡ []) → before_ticket D opening s u state w x xs b cs ≡ follows_need D opening s u state w x xs (next_need D opening s state w x)
        unfolding before_ticket
        not_turning true [] f = refl
        not_turning true (h ∷ hs) f = let e = f refl in absurd (cc)
        not_turning false cs f = refl

        pub step_follows : (w.turning_back ≡ true → w.cells ≡ []) → (n : NextNeed D.Cell D.Guesses) → next_need D opening s state w x ≡ n → step D opening s u ≡ follows_need D opening s u state w x xs n
        step_follows f n e = before_ticket_here ∙ (not_turning w.turning_back w.cells f ∙ ap (follows_need D opening s u state w x xs) e)

        pub follows_area : (a : ℕ) (b : Bool) → any_other (conflicts D w.exclusive a) u s.units ≡ b → follows_need D opening s u state w x xs (NeedsArea a) ≡ takes_area D s u state w a b
        unfolding follows_need
        follows_area a b e = ap (takes_area D s u state w a) e

        pub follows_cell : (c : D.Cell) (p : CellLocation D.Value) → s.location c ≡ p → follows_need D opening s u state w x xs (NeedsCell c) ≡ takes_cell D s u state w c p
        unfolding follows_need
        follows_cell c p e = ap (takes_cell D s u state w c) e
