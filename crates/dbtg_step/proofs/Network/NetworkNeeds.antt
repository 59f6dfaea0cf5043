-- What the need of a statement says: it is the first of the statement's areas and cells that isn't held.
use Rattle.std.proofs.Common.{ℕ, ◌≡◌, Bool, true, false, not, eqb, List, [], ◌∷◌, Option, Some, None, refl, sym, ap, ◌∙◌, subst, inl, inr}
use Rattle.std.specs.Prelude.{is_some, ◌==◌, if◌then◌else◌}
use Rattle.std.specs.List.{list_any, find}
use Rattle.std.proofs.lemmas.Bool.{or_left, or_right, false≢true, not-true}
use Rattle.dbtg_schema.specs.Lists.{Lists}
use Rattle.dbtg_cells.specs.declared.key.Owner.{Owner}
use Rattle.dbtg_cells.specs.declared.name.CellName.{CellName}
use Rattle.dbtg_cells.specs.declared.cell.Cell.{Cell}
use Rattle.dbtg_cells.specs.Names.{name_eq}
use Rattle.dbtg_cells.specs.Shown.{CellValue}
use Rattle.dbtg_cells.proofs.Public.{name_eq_refl, same_name}
use Rattle.dbtg_unit.specs.declared.statement.Statement.{Statement}
use Rattle.dbtg_unit.specs.declared.unit.Unit.{Unit}
use Rattle.dbtg_unit.specs.declared.held.Need.{Need}
use Rattle.dbtg_unit.specs.declared.held.Need.TheVariants.{Area, Take, Stale, Ready}
use Rattle.dbtg_unit.specs.Database.State.Base.{Database}
use Rattle.dbtg_unit.specs.Database.Statements.Checks.{refused_at_once}
use Rattle.dbtg_unit.specs.Hands.Hands.{Hands}
use Rattle.dbtg_unit.specs.Hands.Needs.{need, next_of, areas_in_order, cells_of, is_stale}
use Rattle.dbtg_unit.proofs.Public.{In as InKeys, chose_take, find_element}
use Rattle.dbtg_step.specs.Machine.SequentialDatabase.{HeldCell, NeedsArea, NeedsCell, In, NotAmong, NamesCells}
use Rattle.dbtg_step.specs.Machine.Network.{network, holding, next_need_of, noted_owners}

-- the cell is none of these
abbrev pub is_not_held : List (HeldCell CellName CellValue) → CellName → Bool
is_not_held cells c = not (list_any (λ (e : CellName × Cell). name_eq c e.0) (holding [] [] cells).cells)

abbrev pub is_area_left : List ℕ → ℕ → Bool
is_area_left areas a = not (list_any (λ b. eqb b a) areas)

-- a need of a cell is one as the machine has it
pub takes_cell : (g : List (Option Owner)) (n : Need) (c : CellName) → next_need_of g n ≡ NeedsCell c → n ≡ Take c
takes_cell g (Area a) c e = absurd (cc (e))
takes_cell g (Take d) c e = let q : d ≡ c = cc in ap Take q
takes_cell g Stale c e = absurd (cc (e))
takes_cell g Ready c e = absurd (cc (e))

-- what decided a choice that was made
pub chose_cell : (g : List (Option Owner)) (r : Bool) (oa : Option ℕ) (oc : Option CellName) (stale : Bool) (c : CellName) →
    next_need_of g (if r then Ready else next_of oa oc stale) ≡ NeedsCell c → (r ≡ false) × (oa ≡ None) × (oc ≡ Some c)
chose_cell g r oa oc stale c e = chose_take r oa oc stale c (takes_cell g (if r then Ready else next_of oa oc stale) c e)

pub chose_area : (g : List (Option Owner)) (r : Bool) (oa : Option ℕ) (oc : Option CellName) (stale : Bool) (a : ℕ) →
    next_need_of g (if r then Ready else next_of oa oc stale) ≡ NeedsArea a → (r ≡ false) × (oa ≡ Some a)
chose_area g true oa oc stale a e = absurd (cc (e))
chose_area g false (Some b) oc stale a e = (refl, (let q : b ≡ a = cc in ap Some q))
chose_area g false None (Some d) stale a e = absurd (cc (e))
chose_area g false None None true a e = absurd (cc (e))
chose_area g false None None false a e = absurd (cc (e))

pub held_name : (cells : List (HeldCell CellName CellValue)) (h : HeldCell CellName CellValue) (c : CellName) → In h cells → name_eq c h.name ≡ true → list_any (λ (e : CellName × Cell). name_eq c e.0) (holding [] [] cells).cells ≡ true
held_name [] h c i e = absurd i
held_name (k ∷ ks) h c (inl q) e = or_left _ _ (subst (λ (x : HeldCell CellName CellValue). name_eq c x.name ≡ true) q e)
held_name (k ∷ ks) h c (inr i) e = or_right _ _ (held_name ks h c i e)

module _ (schema : Lists) (capacity : ℕ) (db : Database) (unit : Unit) (x : Statement) (g : List (Option Owner)) (areas : List ℕ) (cells : List (HeldCell CellName CellValue)) where
  pub reads_cell : (c : CellName) → (network schema capacity).need db unit x g areas cells ≡ NeedsCell c →
      (is_some (refused_at_once schema capacity unit x) ≡ false) × (find (is_area_left areas) (areas_in_order schema unit x) ≡ None) × (find (is_not_held cells) (cells_of schema capacity db unit g x) ≡ Some c)
  unfolding need
  reads_cell c e = chose_cell (noted_owners schema capacity db unit x g) (is_some (refused_at_once schema capacity unit x)) (find (is_area_left areas) (areas_in_order schema unit x)) (find (is_not_held cells) (cells_of schema capacity db unit g x)) (is_stale schema capacity db unit g x) c e

  pub reads_area : (a : ℕ) → (network schema capacity).need db unit x g areas cells ≡ NeedsArea a →
      (is_some (refused_at_once schema capacity unit x) ≡ false) × (find (is_area_left areas) (areas_in_order schema unit x) ≡ Some a)
  unfolding need
  reads_area a e = chose_area (noted_owners schema capacity db unit x g) (is_some (refused_at_once schema capacity unit x)) (find (is_area_left areas) (areas_in_order schema unit x)) (find (is_not_held cells) (cells_of schema capacity db unit g x)) (is_stale schema capacity db unit g x) a e

  -- a cell that is needed isn't held
  pub needed_is_fresh : (c : CellName) → (network schema capacity).need db unit x g areas cells ≡ NeedsCell c → NotAmong (network schema capacity) c cells
  needed_is_fresh c e h i q =
      let r = reads_cell c e in
      let f = not-true _ (find_element (is_not_held cells) (cells_of schema capacity db unit g x) c r.2).1 in
      false≢true (sym f ∙ held_name cells h c i (subst (λ d. name_eq d h.name ≡ true) q (name_eq_refl h.name)))

pub network_names_cells : (schema : Lists) (capacity : ℕ) → NamesCells (network schema capacity)
network_names_cells schema capacity = record { same_is = same_name; same_self = name_eq_refl; fresh = needed_is_fresh schema capacity }

-- the same of what is held
module _ (schema : Lists) (capacity : ℕ) (db : Database) (unit : Unit) (hands : Hands) (x : Statement) where
  -- a cell that is needed is one of the statement's, which isn't refused at once, and isn't held
  pub cell_wanted : (c : CellName) → Take c ≡ need schema capacity db unit hands x →
      (is_some (refused_at_once schema capacity unit x) ≡ false) × InKeys c (cells_of schema capacity db unit hands.guesses x) × (list_any (λ (e : CellName × Cell). name_eq c e.0) hands.cells ≡ false)
  unfolding need
  cell_wanted c e =
      let free = λ (d : CellName). not (list_any (λ (f : CellName × Cell). name_eq d f.0) hands.cells) in
      let chosen = chose_cell [] (is_some (refused_at_once schema capacity unit x)) (find (λ a. not (list_any (λ b. b == a) hands.areas)) (areas_in_order schema unit x)) (find free (cells_of schema capacity db unit hands.guesses x)) (is_stale schema capacity db unit hands.guesses x) c (ap (next_need_of []) (sym e)) in
      let is = find_element free (cells_of schema capacity db unit hands.guesses x) c chosen.2 in
      (chosen.0, is.0, not-true _ is.1)

  pub needed_not_in_hand : (c : CellName) → Take c ≡ need schema capacity db unit hands x → list_any (λ (e : CellName × Cell). name_eq c e.0) hands.cells ≡ false
  needed_not_in_hand c e = (cell_wanted c e).2
