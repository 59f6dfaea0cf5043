-- Where all that is held was taken in turn, what is wanted is above it.
use Rattle.std.proofs.Common.{ℕ, ◌≡◌, Bool, true, false, List, [], ◌∷◌, Option, Some, None, ◌⊎◌, inl, inr, refl, sym, ap, ◌∙◌, subst}
use Rattle.dbtg_step.specs.Machine.SequentialDatabase.{HeldCell, NextNeed, NeedsArea, NeedsCell, StaleGuesses, NeedsNothing, SequentialDatabase, In, Agrees, unit_at}
use Rattle.dbtg_step.specs.Inside.SequentialDatabase.{IsSequentialDatabase}
use Rattle.dbtg_step.specs.Machine.Machine.{StatementProgress, UnitState, State, SequentialState, replay, held_cells}
use Rattle.dbtg_step.specs.Machine.Step.{next_need}
use Rattle.dbtg_step.specs.Machine.Lawful.{Lawful}
use Rattle.dbtg_step.proofs.EachEvent.UnitFacts.{may_make}
use Rattle.dbtg_step.specs.Machine.NeverStuck.{MayGoOn, TakenInTurn, NeedsInOrder}
use Rattle.dbtg_step.specs.Inside.NeverStuck.{Wanted, AnArea, ACell, wanted_by_need, wanted_unless_turning, wanted_before_ticket, wanted_in_progress, wanted, UnitInOrder, UnitsInOrder, InTurn, AllInTurn}

module _ (D : SequentialDatabase) (laws : IsSequentialDatabase D) (below : D.Cell → D.Cell → Bool) (order : NeedsInOrder D below) (opening : SequentialState D) (s : State D) (l : Lawful D opening s) where
  wanted_area : (n : NextNeed D.Cell D.Guesses) (a : ℕ) → wanted_by_need D below n ≡ Some (AnArea a) → n ≡ NeedsArea a
  unfolding wanted_by_need
  wanted_area (NeedsArea b) a e = let q : b ≡ a = cc in ap NeedsArea q
  wanted_area (NeedsCell c) a e = absurd (cc (e))
  wanted_area (StaleGuesses g) a e = absurd (cc (e))
  wanted_area NeedsNothing a e = absurd (cc (e))

  wanted_cell : (n : NextNeed D.Cell D.Guesses) (c : D.Cell) → wanted_by_need D below n ≡ Some (ACell c) → n ≡ NeedsCell c
  unfolding wanted_by_need
  wanted_cell (NeedsArea b) c e = absurd (cc (e))
  wanted_cell (NeedsCell d) c e = let q : d ≡ c = cc in ap NeedsCell q
  wanted_cell (StaleGuesses g) c e = absurd (cc (e))
  wanted_cell NeedsNothing c e = absurd (cc (e))

  module _ (u : ℕ) (state : UnitState D) (at : unit_at s.units u ≡ Some state) (w : StatementProgress D) (is : state.progress ≡ Some w) (steady : w.ticket ≡ None → InTurn D below state w) where
    wanted_is : wanted D below opening s state ≡ wanted_before_ticket D below opening s state w w.ticket state.remaining
    unfolding wanted wanted_in_progress
    wanted_is = ap (wanted_in_progress D below opening s state) is

    open_of : (r : Wanted D.Cell) → wanted D below opening s state ≡ Some r → w.ticket ≡ None
    unfolding wanted_before_ticket
    open_of r e = go w.ticket refl (sym wanted_is ∙ e)
      where
        go : (t : Option ℕ) → w.ticket ≡ t → wanted_before_ticket D below opening s state w t state.remaining ≡ Some r → w.ticket ≡ None
        go None q f = q
        go (Some t) q f = absurd (cc (f))

    -- what is held was taken in turn, and this is needed next
    record NeededNext (x : D.Statement) (r : Wanted D.Cell) : Type 0 where
      taken : TakenInTurn D below state.unit x state.guesses w.areas w.cells
      need : wanted_by_need D below (next_need D opening s state w x) ≡ Some r

    wanted_now : (m : InTurn D below state w) → w.ticket ≡ None → (r : Wanted D.Cell) → wanted D below opening s state ≡ Some r → NeededNext m.x r
    unfolding wanted_before_ticket wanted_unless_turning
    wanted_now m q r e = go w.turning_back w.cells refl refl here
      where
        here : wanted_unless_turning D below opening s state w m.x w.turning_back w.cells ≡ Some r
        here = sym (wanted_is ∙ (ap (λ t. wanted_before_ticket D below opening s state w t state.remaining) q ∙ ap (λ y. wanted_before_ticket D below opening s state w None y) m.remaining)) ∙ e

        go : (b : Bool) (cs : List (HeldCell D.Cell D.Value)) → w.turning_back ≡ b → w.cells ≡ cs → wanted_unless_turning D below opening s state w m.x b cs ≡ Some r → NeededNext m.x r
        go true (h ∷ hs) t c f = absurd (cc (f))
        go true [] t c f = record { taken = subst (λ cs. TakenInTurn D below state.unit m.x state.guesses w.areas cs) (sym c) (m.back t); need = f }
        go false cs t c f = record { taken = m.going t; need = f }

    unit_in_order : UnitInOrder D below opening s state w
    unfolding held_cells next_need
    unit_in_order = record {
      busy = λ q. let m = steady q in (m.x, m.xs, m.remaining);
      areas = λ a e. let q = open_of (AnArea a) e in let m = steady q in let v = wanted_now m q (AnArea a) e in
          order.area_above db state.unit m.x state.guesses w.areas w.cells a v.taken (wanted_area _ a v.need);
      fresh = λ c e. let q = open_of (ACell c) e in let m = steady q in let v = wanted_now m q (ACell c) e in let n = wanted_cell _ c v.need in (
        laws.names.fresh db state.unit m.x state.guesses w.areas w.cells c n,
        laws.in_area db _ u state.unit m.x state.guesses w.areas w.cells c (may_make D opening s l u state at m.x m.xs m.remaining) n,
      );
      cells = λ c e. let q = open_of (ACell c) e in let m = steady q in let v = wanted_now m q (ACell c) e in let n = wanted_cell _ c v.need in above m v.taken c n;
    }
      where
        db : D.Db
        db = (replay D opening s.history).database

        may_go_on : (m : InTurn D below state w) → MayGoOn D below db state.unit m.x w.cells
        may_go_on m = record { units = _; u = u; may = may_make D opening s l u state at m.x m.xs m.remaining; agrees = subst (λ o. Agrees D db (held_cells D o)) is (l.each u state at).holding.values }

        above : (m : InTurn D below state w) → TakenInTurn D below state.unit m.x state.guesses w.areas w.cells → (c : D.Cell) → D.need db state.unit m.x state.guesses w.areas w.cells ≡ NeedsCell c → (w.exclusive ≡ true) ⊎ ((h : HeldCell D.Cell D.Value) → In h w.cells → below h.name c ≡ true)
        above m taken c n = go (D.is_exclusive m.x) refl
          where
            go : (b : Bool) → D.is_exclusive m.x ≡ b → (w.exclusive ≡ true) ⊎ ((h : HeldCell D.Cell D.Value) → In h w.cells → below h.name c ≡ true)
            go true e = inl (m.exclusive ∙ e)
            go false e = inr (order.cell_above db state.unit m.x state.guesses w.areas w.cells c e taken (may_go_on m) n)

  pub ordered : AllInTurn D below s → UnitsInOrder D below opening s
  ordered o = record { each = λ u state w at is. unit_in_order u state at w is (o.each u state w at is) }
