-- On one database a unit turns back at most once, and each need that is met brings the ticket nearer.
use Rattle.std.specs.Prelude.{ℕ, suc, ◌+◌, ◌≡◌, ◌<◌, Bool, true, false, cond, not, eqb, List, [], ◌∷◌, Option, length}
use Rattle.std.specs.List.{list_any}
use Rattle.dbtg_schema.specs.Lists.{Lists}
use Rattle.dbtg_cells.specs.declared.key.Owner.{Owner}
use Rattle.dbtg_cells.specs.declared.name.CellName.{CellName}
use Rattle.dbtg_cells.specs.Names.{name_eq}
use Rattle.dbtg_cells.specs.Shown.{CellValue}
use Rattle.dbtg_unit.specs.declared.statement.Statement.{Statement}
use Rattle.dbtg_unit.specs.declared.unit.Unit.{Unit}
use Rattle.dbtg_unit.specs.Database.State.Base.{Database}
use Rattle.dbtg_unit.specs.Database.Statements.Fits.{fits}
use Rattle.dbtg_unit.specs.Hands.Needs.{areas_in_order, cells_of, is_stale}
use Rattle.dbtg_step.specs.Machine.SequentialDatabase.{HeldCell, NeedsArea, NeedsCell, StaleGuesses}
use Rattle.dbtg_step.specs.Machine.Network.{network, noted_owners}

-- how many pass
abbrev pub count : {X : Type 0} → (X → Bool) → List X → ℕ
count p [] = 0
count p (x ∷ xs) = cond (p x) 1 0 + count p xs

-- cells that a unit holds, the newest first
abbrev pub Held : Type 0
Held = List (HeldCell CellName CellValue)

-- the area is held
abbrev pub holds_area : List ℕ → ℕ → Bool
holds_area areas a = list_any (λ b. eqb b a) areas

-- the cell is held
abbrev pub holds_cell : Held → CellName → Bool
holds_cell cells c = list_any (λ (h : HeldCell CellName CellValue). name_eq c h.name) cells

-- the areas and cells of the statement that are not held, and, if a guess is stale, all cells that it has with the true
-- owners, and the turn back
abbrev pub needs_left : Lists → ℕ → Database → Unit → Statement → List (Option Owner) → List ℕ → Held → ℕ
needs_left schema capacity db unit statement guesses areas cells =
    count (λ a. not (holds_area areas a)) (areas_in_order schema unit statement)
    + count (λ c. not (holds_cell cells c)) (cells_of schema capacity db unit guesses statement)
    + cond (is_stale schema capacity db unit guesses statement)
    (suc (length (cells_of schema capacity db unit (noted_owners schema capacity db unit statement guesses) statement)))
    0

-- on one database: once the true owners are noted no guess is stale; and what is left falls with each need that is met: an area
-- or cell that is taken, or a turn back, after which no cell is held
pub record NeedsComeToAnEnd (schema : Lists) (capacity : ℕ) : Type 0 where
  pub not_stale_again : (db : Database) (unit : Unit) (statement : Statement) (guesses : List (Option Owner)) →
      fits schema statement ≡ true →
      is_stale schema capacity db unit (noted_owners schema capacity db unit statement guesses) statement ≡ false
  pub area_taken : (db : Database) (unit : Unit) (statement : Statement) (guesses : List (Option Owner)) (areas : List ℕ) (cells : Held) (a : ℕ) →
      (network schema capacity).need db unit statement guesses areas cells ≡ NeedsArea a →
      needs_left schema capacity db unit statement guesses (a ∷ areas) cells < needs_left schema capacity db unit statement guesses areas cells
  pub cell_taken : (db : Database) (unit : Unit) (statement : Statement) (guesses : List (Option Owner)) (areas : List ℕ) (cells : Held) (h : HeldCell CellName CellValue) →
      (network schema capacity).need db unit statement guesses areas cells ≡ NeedsCell h.name →
      needs_left schema capacity db unit statement guesses areas (h ∷ cells) < needs_left schema capacity db unit statement guesses areas cells
  pub turned_back : (db : Database) (unit : Unit) (statement : Statement) (guesses others : List (Option Owner)) (areas : List ℕ) (cells : Held) →
      fits schema statement ≡ true →
      (network schema capacity).need db unit statement guesses areas cells ≡ StaleGuesses others →
      needs_left schema capacity db unit statement others areas [] < needs_left schema capacity db unit statement guesses areas cells
