-- The words of the table through one statement of the shop, at capacity 1, with two units. The shop has 2 areas and 11 cells,
-- so there are 14 words: the counter, an area's word each, a cell's word each. The second unit, at place 1, stores a customer.
-- What is expected was worked out by hand.
use Rattle.std.specs.Prelude.{◌≡◌, refl, ℕ, ◌^◌, ◌+◌, ◌*◌, ◌%◌, List, [], ◌∷◌, Option, Some, None, map, slice_get, slice_index, slice_set, unwrap_or}
use Rattle.std.specs.Int.{bit_not, w64}
use Rattle.std.specs.Int.RustNames.{bit_and, bit_or}
use Rattle.dbtg_cells.specs.declared.key.Owner.{Owner}
use Rattle.dbtg_cells.specs.declared.key.Value.TheVariants.{Num}
use Rattle.dbtg_cells.specs.declared.usage.Mode.TheVariants.{Update}
use Rattle.dbtg_cells.specs.CellNumbers.{cell_number}
use Rattle.dbtg_unit.specs.declared.statement.Statement.{Statement}
use Rattle.dbtg_unit.specs.declared.statement.Statement.TheVariants.{OpenArea}
use Rattle.dbtg_unit.specs.declared.unit.Unit.{Unit}
use Rattle.dbtg_unit.specs.Database.Statements.Effect.{effect}
use Rattle.dbtg_unit.specs.Hands.Needs.{areas_in_order, cells_of}
use Rattle.dbtg_unit.specs.Database.Laws.Replay.{State, opening_state, state_after}
use Rattle.dbtg_unit.specs.Database.State.Units.{opening_unit}
use Rattle.dbtg_unit.proofs.Rows.Defined.Schemas.{shop, main, customers}
use Rattle.dbtg_unit.proofs.Rows.Words.{by, store, text}
use Rattle.dbtg_run.specs.declared.view.About.{About}
use Rattle.dbtg_run.specs.Inside.LatchRule.{area_word, cell_word}

abbrev about : About
about = record { schema = record { marker = record {}; value = shop }; capacity = 1; units = 2 }

-- the second unit has the area open
abbrev opened : State
opened = state_after shop 1 (opening_state shop 2) (by 2 (OpenArea main Update ∷ []))

abbrev second : Unit
second = unwrap_or (slice_get opened.units 1) (opening_unit shop 2)

abbrev stores : Statement
stores = store customers (Num 7 ∷ text "ADA     " ∷ [])

abbrev no_guess : List (Option Owner)
no_guess = None ∷ None ∷ None ∷ []

areas_wanted : areas_in_order shop second stores ≡ main ∷ []
unfolding effect
areas_wanted = refl

-- the extent of customers, the ring of the orders that it will have, its slot
cells_wanted : map (cell_number shop 1) (cells_of shop 1 opened.database second no_guess stores) ≡ Some 2 ∷ Some 5 ∷ Some 8 ∷ []
unfolding effect
cells_wanted = refl

-- a word becomes what the step makes of it
abbrev at_word : ℕ → (ℕ → ℕ) → List ℕ → List ℕ
at_word i f words = slice_set words i (f (slice_index words i))

-- after the one statement before this, all latches are free
abbrev free : List ℕ
free = 1 ∷ 0 ∷ 0 ∷ 0 ∷ 0 ∷ 0 ∷ 0 ∷ 0 ∷ 0 ∷ 0 ∷ 0 ∷ 0 ∷ 0 ∷ 0 ∷ []

abbrev area_taken : List ℕ
area_taken = 1 ∷ 2 ∷ 0 ∷ 0 ∷ 0 ∷ 0 ∷ 0 ∷ 0 ∷ 0 ∷ 0 ∷ 0 ∷ 0 ∷ 0 ∷ 0 ∷ []

abbrev cells_taken : List ℕ
cells_taken = 1 ∷ 2 ∷ 0 ∷ 0 ∷ 0 ∷ 2 ∷ 0 ∷ 0 ∷ 2 ∷ 0 ∷ 0 ∷ 2 ∷ 0 ∷ 0 ∷ []

abbrev ticket_drawn : List ℕ
ticket_drawn = 2 ∷ 2 ∷ 0 ∷ 0 ∷ 0 ∷ 2 ∷ 0 ∷ 0 ∷ 2 ∷ 0 ∷ 0 ∷ 2 ∷ 0 ∷ 0 ∷ []

abbrev cells_back : List ℕ
cells_back = 2 ∷ 2 ∷ 0 ∷ 0 ∷ 0 ∷ 0 ∷ 0 ∷ 0 ∷ 0 ∷ 0 ∷ 0 ∷ 0 ∷ 0 ∷ 0 ∷ []

abbrev area_left : List ℕ
area_left = 2 ∷ 0 ∷ 0 ∷ 0 ∷ 0 ∷ 0 ∷ 0 ∷ 0 ∷ 0 ∷ 0 ∷ 0 ∷ 0 ∷ 0 ∷ 0 ∷ []

takes_area : at_word (area_word main) (λ n. bit_or n (2 ^ 1)) free ≡ area_taken
takes_area = refl

taken_cell_words : at_word (cell_word about 8) (λ _. 2) (at_word (cell_word about 5) (λ _. 2) (at_word (cell_word about 2) (λ _. 2) area_taken)) ≡ cells_taken
taken_cell_words = refl

draws_ticket : at_word 0 (λ n. (n + 1) % 2 ^ 64) cells_taken ≡ ticket_drawn
draws_ticket = refl

-- the cell that was taken last goes back first
cell_words_by_bit : at_word (cell_word about 2) (λ n. bit_and n 0) (at_word (cell_word about 5) (λ n. bit_and n 0) (at_word (cell_word about 8) (λ n. bit_and n 0) ticket_drawn)) ≡ cells_back
cell_words_by_bit = refl

leaves_area : at_word (area_word main) (λ n. bit_and n (bit_not w64 (1 * 2 ^ 1 % 2 ^ 64))) cells_back ≡ area_left
leaves_area = refl

-- with the area for itself, the unit would have had bit 9
takes_area_alone : at_word (area_word main) (λ _. 1 * 2 ^ (8 + 1) % 2 ^ 64) free ≡ 1 ∷ 512 ∷ 0 ∷ 0 ∷ 0 ∷ 0 ∷ 0 ∷ 0 ∷ 0 ∷ 0 ∷ 0 ∷ 0 ∷ 0 ∷ 0 ∷ []
takes_area_alone = refl
