-- What a statement needs is above all that it holds, where that was taken in turn: its areas, then its cells.
use Rattle.std.proofs.Common.{◌≡◌, refl, sym, ◌∙◌, ap, ℕ, ◌<◌, Bool, true, false, eqb, List, [], ◌∷◌, Option, Some, inl, inr}
use Rattle.std.specs.Prelude.{is_some, nat_lt, if◌then◌else◌}
use Rattle.std.specs.List.{list_any, find}
use Rattle.std.proofs.lemmas.Bool.{or_cases, or_left, or_right, false≢true, eqb-true, eq-eqb, ltb-true, not-false}
use Rattle.dbtg_schema.specs.Lists.{Lists}
use Rattle.dbtg_schema.specs.Sound.{IsSound}
use Rattle.dbtg_cells.specs.declared.key.Owner.{Owner}
use Rattle.dbtg_cells.specs.declared.name.CellName.{CellName}
use Rattle.dbtg_cells.specs.Names.{name_eq, name_below}
use Rattle.dbtg_cells.specs.Shown.{CellValue}
use Rattle.dbtg_unit.specs.declared.statement.Statement.{Statement}
use Rattle.dbtg_unit.specs.declared.unit.Unit.{Unit}
use Rattle.dbtg_unit.specs.declared.held.Need.TheVariants.{Ready}
use Rattle.dbtg_unit.specs.Database.State.Base.{Database}
use Rattle.dbtg_unit.specs.Database.Statements.Checks.{refused_at_once}
use Rattle.dbtg_unit.specs.Hands.Needs.{need, next_of, areas_in_order, cells_of, is_stale}
use Rattle.dbtg_step.specs.Machine.SequentialDatabase.{HeldCell, NeedsArea, NeedsCell, In, Agrees}
use Rattle.dbtg_step.specs.Machine.NeverStuck.{MayGoOn, NeedsInOrder, TakenInTurn, NoneYet, AreaNext, CellNext}
use Rattle.dbtg_step.specs.Machine.Network.{network, holding, is_delete, next_need_of, noted_owners}
use Rattle.dbtg_step.proofs.Network.Ascending.{IsClosed, above_held, closed_on}
use Rattle.dbtg_step.proofs.Network.NameOrder.{name_chain, name_never, name_total, number_chain, number_never, number_total}
use Rattle.dbtg_step.proofs.Network.NetworkNeeds.{held_name, is_area_left, is_not_held, reads_area, reads_cell}
use Rattle.dbtg_step.proofs.Network.NeededCells.{unit_of_schema}
use Rattle.dbtg_step.proofs.Network.StableCells.{cells_stable}
use Rattle.dbtg_unit.specs.Database.State.Cells.{cell}
use Rattle.dbtg_cells.specs.declared.cell.Cell.{Cell}
use Rattle.dbtg_cells.proofs.Public.{name_eq_refl, same_name}
use Rattle.dbtg_unit.proofs.Public.{areas_ascend, cells_ascend}

-- area b is held
abbrev has_area : List ℕ → ℕ → Bool
has_area areas b = list_any (λ a. eqb a b) areas

in_held : (b : ℕ) (areas : List ℕ) → In b areas → has_area areas b ≡ true
in_held b [] i = absurd i
in_held b (a ∷ areas) (inl e) = or_left _ _ (eq-eqb a b (sym e))
in_held b (a ∷ areas) (inr i) = or_right _ _ (in_held b areas i)

module _ (schema : Lists) (capacity : ℕ) (unit : Unit) (x : Statement) where
  areas_closed : (g : List (Option Owner)) (areas : List ℕ) (cells : List (HeldCell CellName CellValue)) → TakenInTurn (network schema capacity) name_below unit x g areas cells → IsClosed nat_lt (has_area areas) (areas_in_order schema unit x)
  areas_closed g _ _ NoneYet = λ h d k i b. absurd (false≢true k)
  areas_closed g _ _ (AreaNext {areas} {a} db taken e) =
      closed_on nat_lt number_never number_chain (has_area areas) (has_area (a ∷ areas)) (areas_in_order schema unit x) a (areas_ascend schema capacity db unit (holding g areas []) x) (reads_area schema capacity db unit x g areas [] a e).1
      (λ d h. elim (or_cases _ _ h) [ inl q ↦ inr (sym (eqb-true a d q)) | inr q ↦ inl q ])
      (λ d h. or_right _ _ h)
      (areas_closed g areas [] taken)
  areas_closed g _ _ (CellNext {areas} {cells} {h} db taken go e) = areas_closed g areas cells taken

  -- where an area is needed no cell is held
  no_cells : (db : Database) (g : List (Option Owner)) (areas : List ℕ) (cells : List (HeldCell CellName CellValue)) (a : ℕ) → TakenInTurn (network schema capacity) name_below unit x g areas cells → (network schema capacity).need db unit x g areas cells ≡ NeedsArea a → cells ≡ []
  no_cells db g _ _ a NoneYet e = refl
  no_cells db g _ _ a (AreaNext other taken f) e = refl
  no_cells db g _ _ a (CellNext {areas} {cells} {h} other taken go f) e =
      let here = (reads_area schema capacity db unit x g areas (h ∷ cells) a e).1 in
      let there = (reads_cell schema capacity other unit x g areas cells h.name f).1 in
      absurd (cc (here, there))

  pub area_is_above : (db : Database) (g : List (Option Owner)) (areas : List ℕ) (cells : List (HeldCell CellName CellValue)) (a : ℕ) → TakenInTurn (network schema capacity) name_below unit x g areas cells → (network schema capacity).need db unit x g areas cells ≡ NeedsArea a →
      ((b : ℕ) → In b areas → b < a) × (cells ≡ [])
  area_is_above db g areas cells a taken e = (
    (λ b i. ltb-true b a (above_held nat_lt number_never number_chain number_total (has_area areas) (areas_in_order schema unit x) a (reads_area schema capacity db unit x g areas cells a e).1 (areas_closed g areas cells taken) b (in_held b areas i))),
    no_cells db g areas cells a taken e,
  )

  makes_area : (db : Database) (g : List (Option Owner)) (areas : List ℕ) (a : ℕ) → is_some (refused_at_once schema capacity unit x) ≡ false → find (is_area_left areas) (areas_in_order schema unit x) ≡ Some a → (network schema capacity).need db unit x g areas [] ≡ NeedsArea a
  unfolding need
  makes_area db g areas a r e =
      let f : (b : Bool) (o : Option ℕ) → b ≡ false → o ≡ Some a → next_need_of (noted_owners schema capacity db unit x g) (if b then Ready else next_of o (find (is_not_held []) (cells_of schema capacity db unit g x)) (is_stale schema capacity db unit g x)) ≡ NeedsArea a
      = λ b o p q. rw (p, q) refl in
      f _ _ r e

  -- the areas depend on no guess
  pub areas_the_same : (g g' : List (Option Owner)) (areas : List ℕ) (cells : List (HeldCell CellName CellValue)) → TakenInTurn (network schema capacity) name_below unit x g areas cells → TakenInTurn (network schema capacity) name_below unit x g' areas []
  areas_the_same g g' _ _ NoneYet = NoneYet
  areas_the_same g g' _ _ (AreaNext {areas} {a} db taken e) =
      let r = reads_area schema capacity db unit x g areas [] a e in
      AreaNext db (areas_the_same g g' areas [] taken) (makes_area db g' areas a r.0 r.1)
  areas_the_same g g' _ _ (CellNext {areas} {cells} {h} db taken go e) = areas_the_same g g' areas cells taken

-- THE CELLS

-- cell c is held
abbrev has_cell : List (HeldCell CellName CellValue) → CellName → Bool
has_cell cells c = list_any (λ (e : CellName × Cell). name_eq c e.0) (holding [] [] cells).cells

-- each held cell is alike in two databases that have the held cells as they are held
held_alike : (schema : Lists) (capacity : ℕ) (db eb : Database) (cells : List (HeldCell CellName CellValue)) → Agrees (network schema capacity) db cells → Agrees (network schema capacity) eb cells → (c : CellName) → has_cell cells c ≡ true → cell schema capacity db c ≡ cell schema capacity eb c
held_alike schema capacity db eb [] a b c h = absurd (false≢true h)
held_alike schema capacity db eb (k ∷ ks) a b c h = elim (or_cases _ _ h) [
  | inl q ↦ let e = same_name c k.name q in ap (cell schema capacity db) e ∙ (sym (a k (inl refl)) ∙ (b k (inl refl) ∙ sym (ap (cell schema capacity eb) e)))
  | inr q ↦ held_alike schema capacity db eb ks (λ h i. a h (inr i)) (λ h i. b h (inr i)) c q
]

module _ (schema : Lists) (sound : IsSound schema) (capacity : ℕ) (unit : Unit) (x : Statement) (shared : is_delete x ≡ false) where
  cells_closed : (g : List (Option Owner)) (areas : List ℕ) (cells : List (HeldCell CellName CellValue)) → TakenInTurn (network schema capacity) name_below unit x g areas cells → (db : Database) → MayGoOn (network schema capacity) name_below db unit x cells → IsClosed name_below (has_cell cells) (cells_of schema capacity db unit g x)
  cells_closed g _ _ NoneYet db may = λ h d k i b. absurd (false≢true k)
  cells_closed g _ _ (AreaNext other taken e) db may = λ h d k i b. absurd (false≢true k)
  cells_closed g _ _ (CellNext {areas} {cells} {h} other taken then_ e) db may =
      let agrees : Agrees (network schema capacity) db cells = λ k i. may.agrees k (inr i) in
      let agreed : Agrees (network schema capacity) other cells = λ k i. then_.agrees k (inr i) in
      let closed = cells_closed g areas cells taken db (record { units = may.units; u = may.u; may = may.may; agrees = agrees }) in
      let of = unit_of_schema schema capacity db may.units may.u unit may.may.legal may.may.found in
      let stable = cells_stable schema capacity db other may.may.legal.legal then_.may.legal.legal unit of (is_not_held cells)
      (λ c n. held_alike schema capacity db other cells agrees agreed c (not-false (has_cell cells c) n)) g x shared in
      closed_on name_below name_never name_chain (has_cell cells) (has_cell (h ∷ cells)) (cells_of schema capacity db unit g x) h.name (cells_ascend schema sound capacity db unit g x shared)
      (stable ∙ (reads_cell schema capacity other unit x g areas cells h.name e).2)
      (λ d k. elim (or_cases _ _ k) [ inl q ↦ inr (same_name d h.name q) | inr q ↦ inl q ])
      (λ d k. or_right _ _ k)
      closed

  pub cell_is_above : (db : Database) (g : List (Option Owner)) (areas : List ℕ) (cells : List (HeldCell CellName CellValue)) (c : CellName) → TakenInTurn (network schema capacity) name_below unit x g areas cells → MayGoOn (network schema capacity) name_below db unit x cells →
      (network schema capacity).need db unit x g areas cells ≡ NeedsCell c → (h : HeldCell CellName CellValue) → In h cells → name_below h.name c ≡ true
  cell_is_above db g areas cells c taken may e h i =
      above_held name_below name_never name_chain name_total (has_cell cells) (cells_of schema capacity db unit g x) c (reads_cell schema capacity db unit x g areas cells c e).2
      (cells_closed g areas cells taken db may) h.name (held_name cells h h.name i (name_eq_refl h.name))

-- what a statement needs is in order
pub network_needs_in_order : (schema : Lists) (capacity : ℕ) → IsSound schema → NeedsInOrder (network schema capacity) name_below
network_needs_in_order schema capacity sound = record {
  area_above = λ db unit x g areas cells a. area_is_above schema capacity unit x db g areas cells a;
  cell_above = λ db unit x g areas cells c shared. cell_is_above schema sound capacity unit x shared db g areas cells c;
  areas_stay = λ unit x g g' areas cells. areas_the_same schema capacity unit x g g' areas cells;
}
