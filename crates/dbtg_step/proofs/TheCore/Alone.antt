-- A step of a unit changes only that unit, and draws at most the ticket of its next statement.
use Rattle.std.proofs.Common.{ℕ, suc, ◌≡◌, Bool, true, false, List, [], ◌∷◌, ◌++◌, Option, Some, None, ◌⊎◌, inl, inr, length, refl, sym, ap, subst, arith}
use Rattle.std.proofs.lemmas.Option.{same_Some}
use Rattle.dbtg_step.specs.Machine.SequentialDatabase.{HeldCell, NextNeed, NeedsArea, NeedsCell, StaleGuesses, NeedsNothing, SequentialDatabase, unit_at, with_unit_at}
use Rattle.dbtg_step.specs.Machine.Machine.{CellLocation, Home, HeldBy, StatementProgress, UnitState, HistoryEntry, State, SequentialState, begun, unless_over}
use Rattle.dbtg_step.specs.Machine.Step.{updated, with_progress, with_ticket, after_ticket, takes_area, takes_cell, follows_need, before_ticket, in_statement, step_of_unit, step_if_unit, step, Transition, MovedTo, IsBlocked, IsIdle, any_other, conflicts}
use Rattle.dbtg_step.specs.Inside.Step.{IfMoved}

-- in mid-statement without a ticket
abbrev pub Unticketed : (D : SequentialDatabase) → Option (StatementProgress D) → Type 0
Unticketed D p = (w : StatementProgress D) × (p ≡ Some w) × (w.ticket ≡ None)

module _ (D : SequentialDatabase) (opening : SequentialState D) (s : State D) (u : ℕ) (state : UnitState D) where
  -- the next statement drew its ticket
  pub record DrawsNext (new : UnitState D) (t : State D) : Type 0 where
    pub x : D.Statement
    pub xs : List D.Statement
    pub before : state.remaining ≡ x ∷ xs
    pub after : new.remaining ≡ xs
    pub entry : HistoryEntry D
    pub history : t.history ≡ s.history ++ entry ∷ []
    pub unit : entry.unit ≡ u
    pub statement : entry.statement ≡ x

  -- only the unit is changed
  pub record StepsAlone (t : State D) : Type 0 where
    pub new : UnitState D
    pub units : t.units ≡ with_unit_at s.units u new
    pub drawn : ((t.history ≡ s.history) × (new.remaining ≡ state.remaining)) ⊎ DrawsNext new t

  -- by one step, which draws only in mid-statement without a ticket; a unit in that state after the step drew nothing,
  -- and was in it before or between statements
  pub record OneStep (t : State D) : Type 0 where
    pub alone : StepsAlone t
    pub drew : DrawsNext alone.new t → Unticketed D state.progress
    pub undrawn : Unticketed D alone.new.progress → (alone.new.remaining ≡ state.remaining) × ((state.progress ≡ None) ⊎ Unticketed D state.progress)

  updated_alone : (location : D.Cell → CellLocation D.Value) (g : D.Guesses) (p : Option (StatementProgress D)) → (Unticketed D p → (state.progress ≡ None) ⊎ Unticketed D state.progress) → OneStep (updated D s u state location g p)
  unfolding updated
  updated_alone location g p f = record {
    alone = record { new = with_progress D state g p; units = refl; drawn = inl (refl, refl) };
    drew = λ d. (let more = ap length d.before in let same = ap length d.after in absurd (omega (arith, more, same)));
    undrawn = λ q. (refl, f q);
  }

  -- after which it is not in mid-statement without a ticket
  ended : (location : D.Cell → CellLocation D.Value) (g : D.Guesses) (p : Option (StatementProgress D)) → (Unticketed D p → ⊥) → OneStep (updated D s u state location g p)
  ended location g p f = updated_alone location g p (λ q. absurd (f q))

  -- with a ticket
  ticketed : (v : StatementProgress D) (t : ℕ) → v.ticket ≡ Some t → Unticketed D (Some v) → ⊥
  ticketed v t has q = let k : v.ticket ≡ q.0.ticket = ap (λ (y : StatementProgress D). y.ticket) (same_Some v q.0 q.1) in let none = q.2 in absurd (cc (has, k, none))

  over_ticketed : (v : StatementProgress D) (areas : List ℕ) (cells : List (HeldCell D.Cell D.Value)) (t : ℕ) → v.ticket ≡ Some t → Unticketed D (unless_over D v areas cells) → ⊥
  unfolding unless_over
  over_ticketed v [] [] t has q = let e = q.1 in absurd (cc (e))
  over_ticketed v [] (h ∷ hs) t has q = ticketed v t has q
  over_ticketed v (a ∷ areas) cells t has q = ticketed v t has q

  after_ticket_alone : (w : StatementProgress D) (t : ℕ) → w.ticket ≡ Some t → (b : Bool) (cells : List (HeldCell D.Cell D.Value)) (areas : List ℕ) → OneStep (after_ticket D s u state w b cells areas)
  unfolding after_ticket
  after_ticket_alone w t has true cells areas = ended _ _ _ (ticketed (record w { linked = suc w.linked }) t has)
  after_ticket_alone w t has false (h ∷ hs) areas = ended _ _ _ (over_ticketed (record w { cells = hs }) areas hs t has)
  after_ticket_alone w t has false [] (a ∷ areas) = ended _ _ _ (over_ticketed (record w { areas = areas }) areas [] t has)
  after_ticket_alone w t has false [] [] = ended _ _ _ (λ q. (let e = q.1 in absurd (cc (e))))

  module _ (w : StatementProgress D) (is : state.progress ≡ Some w) (none : w.ticket ≡ None) (x : D.Statement) (xs : List D.Statement) (r : state.remaining ≡ x ∷ xs) where
    so_before : {p : Option (StatementProgress D)} → Unticketed D p → (state.progress ≡ None) ⊎ Unticketed D state.progress
    so_before q = inr (w, is, none)

    ticket_alone : OneStep (with_ticket D opening s u state w x xs)
    unfolding with_ticket
    ticket_alone = record {
      alone = record { new = _; units = refl; drawn = inr (record { x = x; xs = xs; before = r; after = refl; entry = _; history = refl; unit = refl; statement = refl }) };
      drew = λ d. (w, is, none);
      undrawn = λ q. absurd (over_ticketed _ w.areas _ s.counter refl q);
    }

    follows_need_alone : (n : NextNeed D.Cell D.Guesses) → IfMoved D (follows_need D opening s u state w x xs n) OneStep
    unfolding follows_need takes_area takes_cell IfMoved
    follows_need_alone (NeedsArea a) = go (any_other (conflicts D w.exclusive a) u s.units)
      where
        go : (b : Bool) → IfMoved D (takes_area D s u state w a b) OneStep
        go true = tt
        go false = updated_alone _ _ _ so_before
    follows_need_alone (NeedsCell c) = go (s.location c)
      where
        go : (p : CellLocation D.Value) → IfMoved D (takes_cell D s u state w c p) OneStep
        go (HeldBy v) = tt
        go (Home v) = updated_alone _ _ _ so_before
    follows_need_alone (StaleGuesses g) = updated_alone _ _ _ so_before
    follows_need_alone NeedsNothing = ticket_alone

    before_ticket_alone : (b : Bool) (cells : List (HeldCell D.Cell D.Value)) → IfMoved D (before_ticket D opening s u state w x xs b cells) OneStep
    unfolding before_ticket IfMoved
    before_ticket_alone true (h ∷ hs) = updated_alone _ _ _ so_before
    before_ticket_alone true [] = follows_need_alone _
    before_ticket_alone false cells = follows_need_alone _

  in_statement_alone : (w : StatementProgress D) → state.progress ≡ Some w → (t : Option ℕ) → w.ticket ≡ t → (xs : List D.Statement) → state.remaining ≡ xs → IfMoved D (in_statement D opening s u state w t xs) OneStep
  unfolding in_statement IfMoved
  in_statement_alone w is (Some t) has xs r = after_ticket_alone w t has _ _ _
  in_statement_alone w is None has (x ∷ xs) r = before_ticket_alone w is has x xs r _ _
  in_statement_alone w is None has [] r = tt

  step_of_unit_alone : (p : Option (StatementProgress D)) → state.progress ≡ p → (xs : List D.Statement) → state.remaining ≡ xs → IfMoved D (step_of_unit D opening s u state p xs) OneStep
  unfolding step_of_unit IfMoved begun
  step_of_unit_alone (Some w) is xs r = in_statement_alone w is _ refl xs r
  step_of_unit_alone None is (x ∷ xs) r = updated_alone _ _ _ (λ q. inl is)
  step_of_unit_alone None is [] r = tt

  pub one_step : unit_at s.units u ≡ Some state → IfMoved D (step D opening s u) OneStep
  unfolding step step_if_unit IfMoved
  one_step at = subst (λ o. IfMoved D (step_if_unit D opening s u o) OneStep) (sym at) (step_of_unit_alone state.progress refl state.remaining refl)

  stays_so : (r : Transition D) → IfMoved D r OneStep → IfMoved D r StepsAlone
  unfolding IfMoved
  stays_so (MovedTo t) one = one.alone
  stays_so IsBlocked one = tt
  stays_so IsIdle one = tt

  pub step_alone : unit_at s.units u ≡ Some state → IfMoved D (step D opening s u) StepsAlone
  step_alone at = stays_so (step D opening s u) (one_step at)
