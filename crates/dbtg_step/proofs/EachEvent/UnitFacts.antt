-- What a lawful state says of one unit.
use Rattle.std.proofs.Common.{ℕ, ◌≡◌, List, [], ◌∷◌, ◌++◌, Some, inl, inr, refl, sym, subst}
use Rattle.dbtg_step.specs.Machine.SequentialDatabase.{SequentialDatabase, In, MayMake, unit_at}
use Rattle.dbtg_step.specs.Machine.Machine.{UnitState, State, SequentialState, replay, statements_of, HeldBy}
use Rattle.dbtg_step.specs.Machine.Lawful.{HoldsCell, Lawful}
use Rattle.dbtg_step.proofs.EachEvent.UnitLists.{map_found}

in_behind : {X : Type 0} (xs ys : List X) (y : X) → In y ys → In y (xs ++ ys)
in_behind [] ys y i = i
in_behind (x ∷ xs) ys y i = inr (in_behind xs ys y i)

module _ (D : SequentialDatabase) (opening : SequentialState D) (s : State D) (l : Lawful D opening s) (u : ℕ) (state : UnitState D) (at : unit_at s.units u ≡ Some state) where
  -- a cell that is held by the unit is among its cells
  pub holder_has_cell : (c : D.Cell) → s.location c ≡ HeldBy u → HoldsCell D state.progress c
  holder_has_cell c e =
      let h = l.holder c u e in
      let same : h.state ≡ state = cc (h.found, at) in
      subst (λ (x : UnitState D). HoldsCell D x.progress c) same h.holds

  pub unit_found : unit_at (replay D opening s.history).units u ≡ Some state.unit
  unit_found = subst (λ us. unit_at us u ≡ Some state.unit) l.units (map_found (λ (y : UnitState D). y.unit) s.units u state at)

  -- the unit may make its next statement on the database of the history
  pub may_make : (x : D.Statement) (xs : List D.Statement) → state.remaining ≡ x ∷ xs → MayMake D (replay D opening s.history).database (replay D opening s.history).units u state.unit x
  may_make x xs e = record {
    legal = l.legal;
    found = unit_found;
    fits = (l.each u state at).fits x (subst (λ ys. In x ys) (l.each u state at).script (in_behind (statements_of D u s.history) state.remaining x (subst (λ ys. In x ys) (sym e) (inl refl))));
  }
