-- The image of a lawful state shows the sequential database.
use Rattle.std.proofs.Common.{ℕ, ◌≡◌, Option, Some, None, inl, inr, refl, subst, sym, ap, ◌∙◌, suc, take}
use Rattle.dbtg_step.specs.Machine.SequentialDatabase.{HeldCell, SequentialDatabase, In, unit_at}
use Rattle.dbtg_step.specs.Machine.Machine.{CellLocation, Home, HeldBy, UnitState, State, SequentialState, replay, held_cells, ticket_of}
use Rattle.dbtg_step.specs.Machine.Lawful.{Lawful, ShownAs, ImageHas}

module _ (D : SequentialDatabase) (opening : SequentialState D) (s : State D) (l : Lawful D opening s) where
  shown_is : (u : ℕ) (state : UnitState D) → unit_at s.units u ≡ Some state → (t : Option ℕ) → ticket_of D state.progress ≡ t → (h : HeldCell D.Cell D.Value) → In h (held_cells D state.progress) → (v : D.Value) → ShownAs D opening s.history t h v → v ≡ D.cell (replay D opening s.history).database h.name
  unfolding ShownAs
  shown_is u state at None e h i v q = q ∙ (l.each u state at).holding.values h i
  shown_is u state at (Some t) e h i v q = q ∙ (sym ((l.each u state at).holding.due t e h i) ∙ (l.each u state at).holding.values h i)

  -- what the image has for a cell is what the database has
  pub image_is : (c : D.Cell) (v : D.Value) → ImageHas D opening s c v → v ≡ D.cell (replay D opening s.history).database c
  image_is c v (inl e) = l.home c v e
  image_is c v (inr h) = shown_is h.who h.state h.found _ refl h.holds.which h.holds.is_in v h.shown ∙ ap (D.cell (replay D opening s.history).database) h.holds.name

  shown_of : (t : Option ℕ) (h : HeldCell D.Cell D.Value) → (v : D.Value) × ShownAs D opening s.history t h v
  unfolding ShownAs
  shown_of None h = (h.value, refl)
  shown_of (Some t) h = (D.cell (replay D opening (take (suc t) s.history)).database h.name, refl)

  -- the image has something for each cell
  pub image_has : (c : D.Cell) → (v : D.Value) × ImageHas D opening s c v
  image_has c = go (s.location c) refl
    where
      go : (p : CellLocation D.Value) → s.location c ≡ p → (v : D.Value) × ImageHas D opening s c v
      go (Home v) e = (v, inl e)
      go (HeldBy u) e =
          let h = l.holder c u e in
          let v = shown_of (ticket_of D h.state.progress) h.holds.which in
          (v.0, inr (record { who = u; state = h.state; found = h.found; holds = h.holds; shown = v.1 }))

  -- and that is the value that the database has
  pub database_shown : (c : D.Cell) → ImageHas D opening s c (D.cell (replay D opening s.history).database c)
  database_shown c = let v = image_has c in subst (λ w. ImageHas D opening s c w) (image_is c v.0 v.1) v.1
