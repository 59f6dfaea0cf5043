-- What a statement needs next is above what it holds, if that was taken in turn.
use Rattle.std.proofs.Common.{ℕ, ◌≡◌, List, [], ◌∷◌, map, reverse, refl, sym, ap, ◌∙◌, subst, inl}
use Rattle.std.specs.Prelude.{Result, IfOk}
use Rattle.std.proofs.lemmas.List.{reverse-reverse}
use Rattle.dbtg_schema.specs.Lists.{Lists}
use Rattle.dbtg_schema.specs.Sound.{IsSound}
use Rattle.dbtg_cells.specs.declared.cell.Cell.{Cell}
use Rattle.dbtg_cells.specs.declared.name.CellName.{CellName}
use Rattle.dbtg_unit.specs.declared.held.Need.{Need}
use Rattle.dbtg_unit.specs.declared.held.Need.TheVariants.{Area, Take, Stale, Ready}
use Rattle.dbtg_unit.specs.declared.statement.Statement.{Statement}
use Rattle.dbtg_unit.specs.declared.unit.Unit.{Unit}
use Rattle.dbtg_unit.specs.Database.State.Base.{Database}
use Rattle.dbtg_unit.specs.Hands.Hands.{Hands}
use Rattle.dbtg_unit.specs.Hands.Local.{Agrees}
use Rattle.dbtg_unit.specs.Hands.Needs.{need}
use Rattle.dbtg_unit.specs.Database.State.CellNames.{area_of_cell}
use Rattle.dbtg_step.specs.Machine.SequentialDatabase.{In}
use Rattle.dbtg_step.specs.Machine.Network.{network, next_need_of, noted_owners}
use Rattle.dbtg_step.specs.Core.Parts.{held_cells_of, held_of}
use Rattle.dbtg_step.specs.Machine.NeedOrder.{AreCellsOf, IsAboveHands, LiesInHeldArea, WasTakenInTurn}
use Rattle.dbtg_step.proofs.Network.NeededCells.{needed_in_area, unit_is_in}
use Rattle.dbtg_step.proofs.TheCore.NeedsShown.{agree_each, in_mapped, in_reverse, need_of_holding, ok_also}
use Rattle.dbtg_step.proofs.Network.NetworkFacts.{needs_in_order}
use Rattle.dbtg_step.proofs.Network.NetworkNeeds.{needed_is_fresh}

in_held : (cells : List (CellName × Cell)) (e : CellName × Cell) → In e cells → In (held_of e) (held_cells_of cells)
in_held cells e i = in_reverse (held_of e) (map held_of cells) (in_mapped held_of e cells i)

none_held : (cells : List (CellName × Cell)) → held_cells_of cells ≡ [] → cells ≡ []
none_held [] e = refl
none_held (c ∷ cs) e = absurd (subst (In (held_of c)) e (in_held (c ∷ cs) c (inl refl)))

in_turned : (a : ℕ) (areas : List ℕ) → In a (reverse areas) → In a areas
in_turned a areas i = subst (In a) (reverse-reverse areas) (in_reverse a (reverse areas) i)

module _ (schema : Lists) (capacity : ℕ) (unit : Unit) (x : Statement) (hands : Hands) (n : Need) (is : (d : Database) → Agrees schema capacity d hands unit → n ≡ need schema capacity d unit hands x) (db : Database) (sound : IsSound schema) (m : AreCellsOf schema capacity db unit x hands) where
  agrees : Agrees schema capacity db hands unit
  agrees = record {
    legal = m.may.legal.legal;
    cells = agree_each schema capacity db hands.cells (λ e i. m.agrees (held_of e) (in_held hands.cells e i));
    usage = (unit_is_in schema capacity db m.units m.u unit m.may.legal m.may.found).usage;
  }

  needed : (k : Need) → n ≡ k → (network schema capacity).need db unit x hands.guesses (reverse hands.areas) (held_cells_of hands.cells) ≡ next_need_of (noted_owners schema capacity db unit x hands.guesses) k
  needed k e = ap (next_need_of (noted_owners schema capacity db unit x hands.guesses)) (need_of_holding schema capacity db unit x hands ∙ (sym (is db agrees) ∙ e))

  is_above : WasTakenInTurn schema capacity unit x hands → (k : Need) → n ≡ k → IsAboveHands x hands k
  is_above taken (Area a) e =
      let above = (needs_in_order schema capacity sound).area_above db unit x hands.guesses (reverse hands.areas) (held_cells_of hands.cells) a taken (needed (Area a) e) in
      ((λ b i. above.0 b (in_reverse b hands.areas i)), none_held hands.cells above.1)
  is_above taken (Take c) e = λ shared f i. (needs_in_order schema capacity sound).cell_above db unit x hands.guesses (reverse hands.areas) (held_cells_of hands.cells) c shared taken m (needed (Take c) e) (held_of f) (in_held hands.cells f i)
  is_above taken Stale e = tt
  is_above taken Ready e = tt

  lies_in_area : (k : Need) → n ≡ k → LiesInHeldArea schema hands k
  lies_in_area (Area a) e = tt
  lies_in_area (Take c) e = (
    (λ f i. needed_is_fresh schema capacity db unit x hands.guesses (reverse hands.areas) (held_cells_of hands.cells) c (needed (Take c) e) (held_of f) (in_held hands.cells f i)),
    in_turned (area_of_cell schema c) hands.areas (needed_in_area schema capacity sound db m.units m.u unit x hands.guesses (reverse hands.areas) (held_cells_of hands.cells) c m.may (needed (Take c) e)),
  )
  lies_in_area Stale e = tt
  lies_in_area Ready e = tt

module _ (schema : Lists) (capacity : ℕ) (unit : Unit) (x : Statement) (hands : Hands) where
  pub above_of : (n : Need) → ((d : Database) → Agrees schema capacity d hands unit → n ≡ need schema capacity d unit hands x) → (db : Database) → IsSound schema → AreCellsOf schema capacity db unit x hands → WasTakenInTurn schema capacity unit x hands → IsAboveHands x hands n
  above_of n is db sound m taken = is_above schema capacity unit x hands n is db sound m taken n refl

  pub in_area_of : (n : Need) → ((d : Database) → Agrees schema capacity d hands unit → n ≡ need schema capacity d unit hands x) → (db : Database) → IsSound schema → AreCellsOf schema capacity db unit x hands → LiesInHeldArea schema hands n
  in_area_of n is db sound m = lies_in_area schema capacity unit x hands n is db sound m n refl

  pub above_hands : {E : Type 0} (r : Result Need E) → IfOk r (λ n. (d : Database) → Agrees schema capacity d hands unit → n ≡ need schema capacity d unit hands x) →
      IfOk r (λ n. (db : Database) → IsSound schema → AreCellsOf schema capacity db unit x hands → WasTakenInTurn schema capacity unit x hands → IsAboveHands x hands n)
  above_hands r = ok_also r _ _ above_of

  pub in_held_area : {E : Type 0} (r : Result Need E) → IfOk r (λ n. (d : Database) → Agrees schema capacity d hands unit → n ≡ need schema capacity d unit hands x) →
      IfOk r (λ n. (db : Database) → IsSound schema → AreCellsOf schema capacity db unit x hands → LiesInHeldArea schema hands n)
  in_held_area r = ok_also r _ _ in_area_of
