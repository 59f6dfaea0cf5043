-- The core before its first step is the machine before its scripts.
use Rattle.std.proofs.Common.{ℕ, zero, suc, ◌≡◌, ◌+◌, Bool, true, false, ◌&&◌, List, [], ◌∷◌, Option, Some, None, map, length, replicate, slice_get, refl, sym, ap, ◌∙◌, subst, arith}
use Rattle.std.specs.Prelude.{is_some, option_map, if◌then◌else◌}
use Rattle.std.specs.List.{range_with_len, zip}
use Rattle.std.proofs.lemmas.List.{length-map, length-replicate}
use Rattle.std.proofs.lemmas.Option.{slice_get-map}
use Rattle.dbtg_schema.specs.Lists.{Lists}
use Rattle.dbtg_schema.specs.Sound.{IsSound}
use Rattle.dbtg_schema.specs.Structure.{is_system}
use Rattle.dbtg_cells.specs.declared.cell.Cell.{Cell}
use Rattle.dbtg_cells.specs.declared.extent.Number.{Number}
use Rattle.dbtg_cells.specs.declared.key.Owner.{Owner}
use Rattle.dbtg_cells.specs.declared.key.Owner.TheVariants.{System, Rec}
use Rattle.dbtg_cells.specs.declared.name.CellName.{CellName}
use Rattle.dbtg_cells.specs.declared.name.CellName.TheVariants.{Usage, Extent, Ring, Slot}
use Rattle.dbtg_cells.specs.Cells.{shown}
use Rattle.dbtg_cells.specs.Shown.{UsageValue, ExtentValue, RingValue, SlotValue}
use Rattle.dbtg_cells.specs.Names.{name_below}
use Rattle.dbtg_cells.proofs.Public.{has_number, numbered_at, stands_at}
use Rattle.dbtg_cells.specs.CellNumbers.{cell_count, cell_number, cells_in_order, is_cell}
use Rattle.dbtg_unit.specs.declared.statement.Statement.{Statement}
use Rattle.dbtg_unit.specs.Database.State.Base.{opening}
use Rattle.dbtg_unit.specs.Database.State.Cells.{cell, number_of, ring_of}
use Rattle.dbtg_unit.specs.Hands.Local.{AllAgree, names_of}
use Rattle.dbtg_step.specs.declared.parts.Parts.{Parts}
use Rattle.dbtg_step.specs.declared.parts.CellLocation.{CellLocation}
use Rattle.dbtg_step.specs.Machine.Machine.{Home}
use Rattle.dbtg_step.specs.Machine.Network.{network}
use Rattle.dbtg_step.specs.Machine.Headline.{machine_of, opening_of, units_from}
use Rattle.dbtg_step.specs.Laws.{scripts_fit}
use Rattle.dbtg_step.specs.Machine.Lawful.{Lawful}
use Rattle.dbtg_step.specs.Inside.NeverStuck.{AllInTurn}
use Rattle.dbtg_step.specs.Inside.Parts.{core_of, state_of}
use Rattle.dbtg_step.specs.Core.Parts.{found_location, location_at, location_in, location_of, note_of, state_from, unit_state_of}
use Rattle.dbtg_step.specs.Inside.Events.{HaveRings, IsWell, RunnerFits, RunnersFit}
use Rattle.dbtg_step.specs.Core.Openings.{homes_of, homes_shown}
use Rattle.dbtg_step.specs.Inside.Openings.{homes_opened, opening_runner, opening_value, runners_from}
use Rattle.dbtg_step.proofs.Runs.Headlines.{machine_is_opening}
use Rattle.dbtg_step.proofs.Runs.EveryRun.{start_in_turn}
use Rattle.dbtg_step.proofs.Runs.GuessesFit.{AllGuesses}
use Rattle.dbtg_step.proofs.Network.NameOrder.{names_are_ordered}
use Rattle.dbtg_step.proofs.Network.NeededCellsExist.{opening_has_rings}
use Rattle.dbtg_step.proofs.Network.NetworkFacts.{needs_in_order, network_is_sequential}
use Rattle.dbtg_step.proofs.Runs.Opening.{opening_is_lawful}
use Rattle.dbtg_unit.proofs.Public.{opening_is_legal}

-- THE CELLS OF THE OPENING DATABASE

none_numbers : (schema : Lists) (t a n : ℕ) → map (number_of schema (opening schema) t) (range_with_len a n) ≡ replicate n (record { last = 0; calc = None })
none_numbers schema t a zero = refl
none_numbers schema t a (suc n) = ap (λ (xs : List Number). record { last = 0; calc = None } ∷ xs) (none_numbers schema t (a + 1) n)

module _ (schema : Lists) (capacity : ℕ) where
  usage_opens : (a : ℕ) → UsageValue [] ≡ cell schema capacity (opening schema) (Usage a)
  unfolding cell
  usage_opens a = refl

  extent_opens : (t : ℕ) → ExtentValue (replicate capacity (record { last = 0; calc = None })) ≡ cell schema capacity (opening schema) (Extent t)
  unfolding cell
  extent_opens t = ap ExtentValue (sym (none_numbers schema t 1 capacity))

  system_list : (s : ℕ) (b : Bool) → option_map (ring_of schema (opening schema) s System) (if b && true then Some [] else None) ≡ (if b then Some (record { owner = System; members = [] }) else None)
  system_list s true = refl
  system_list s false = refl

  system_opens : (s : ℕ) → RingValue (if is_system schema s then Some (record { owner = System; members = [] }) else None) ≡ cell schema capacity (opening schema) (Ring s None)
  unfolding cell
  system_opens s = ap RingValue (sym (system_list s (is_system schema s)))

  system_is_open : (s : ℕ) → is_system schema s ≡ true → RingValue (Some (record { owner = System; members = [] })) ≡ cell schema capacity (opening schema) (Ring s None)
  system_is_open s e = sym (ap (λ b. RingValue (if b then Some (record { owner = System; members = [] }) else None)) e) ∙ system_opens s

  owned_list : (s : ℕ) (o : Owner) (b : Bool) → None ≡ option_map (ring_of schema (opening schema) s o) (if b && false then Some [] else None)
  owned_list s o true = refl
  owned_list s o false = refl

  owned_opens : (s : ℕ) (p : ℕ × ℕ) → RingValue None ≡ cell schema capacity (opening schema) (Ring s (Some p))
  unfolding cell
  owned_opens s p = ap RingValue (owned_list s (Rec _) (is_system schema s))

  slot_opens : (t n : ℕ) → SlotValue None ≡ cell schema capacity (opening schema) (Slot t n)
  unfolding cell
  slot_opens t n = refl

  -- THE CELLS

  opens : (c : CellName) → is_cell schema capacity c ≡ true → opening_value capacity c ≡ cell schema capacity (opening schema) c
  opens (Usage a) h = usage_opens a
  opens (Extent t) h = extent_opens t
  opens (Ring s None) h = system_is_open s h
  opens (Ring s (Some p)) h = owned_opens s p
  opens (Slot t n) h = slot_opens t n

  each_opens : (names : List CellName) → ((n : ℕ) (c : CellName) → slice_get names n ≡ Some c → is_cell schema capacity c ≡ true) → homes_opened capacity names ≡ homes_of schema capacity names
  each_opens [] h = refl
  each_opens (c ∷ cs) h =
      let here = opens c (h 0 c refl) in
      let rest = each_opens cs (λ n d e. h (suc n) d e) in
      λ i. Home (here i) ∷ rest i

  -- all cells, in the order of their numbers
  pub all_open : (names : List CellName) → names ≡ cells_in_order schema capacity → homes_opened capacity names ≡ homes_of schema capacity names
  all_open names e = each_opens names (λ n c at. sym (has_number schema capacity c) ∙ ap is_some (numbered_at schema capacity n c (subst (λ ns. slice_get ns n ≡ Some c) e at)))

  -- cells beside their names, as the opening database has them
  pub agree_beside : (names : List CellName) (cells : List Cell) → homes_shown cells ≡ homes_of schema capacity names → AllAgree schema capacity (opening schema) (zip names cells)
  agree_beside [] cells e = tt
  agree_beside (n ∷ names) [] e = tt
  agree_beside (n ∷ names) (x ∷ cells) e =
      let rest : homes_shown cells ≡ homes_of schema capacity names = cc (e) in
      (cc (e), agree_beside names cells rest)

  pub as_many : (names : List CellName) (cells : List Cell) → homes_shown cells ≡ homes_of schema capacity names → length cells ≡ length names
  as_many names cells e = sym (length-map cells (λ x. Home (shown x))) ∙ ap length e ∙ length-map names (λ c. Home (cell schema capacity (opening schema) c))

  -- the names beside as many cells
  pub names_beside : (names : List CellName) (cells : List Cell) → length cells ≡ length names → names_of (zip names cells) ≡ names
  names_beside [] cells h = refl
  names_beside (n ∷ names) [] h = absurd (omega arith)
  names_beside (n ∷ names) (x ∷ cells) h = ap (λ ns. n ∷ ns) (names_beside names cells (omega arith))

  -- THE OPENING STATE

  get_of_map : (o : Option CellLocation) (c : CellName) → option_map location_of o ≡ Some (Home (cell schema capacity (opening schema) c)) → found_location schema capacity c o ≡ Home (cell schema capacity (opening schema) c)
  get_of_map None c e = refl
  get_of_map (Some p) c e = cc (e)

  pub table_opens : (table : List CellLocation) → map location_of table ≡ homes_of schema capacity (cells_in_order schema capacity) → (c : CellName) → location_at schema capacity table c ≡ Home (cell schema capacity (opening schema) c)
  unfolding location_at
  table_opens table e c = by (cell_number schema capacity c) refl
    where
      by : (o : Option ℕ) → cell_number schema capacity c ≡ o → location_in schema capacity table c o ≡ Home (cell schema capacity (opening schema) c)
      by None f = refl
      by (Some n) f =
          get_of_map (slice_get table n) c
          (sym (slice_get-map location_of table n) ∙ ap (λ l. slice_get l n) e ∙ slice_get-map (λ d. Home (cell schema capacity (opening schema) d)) (cells_in_order schema capacity) n
          ∙ ap (option_map (λ d. Home (cell schema capacity (opening schema) d))) (stands_at c (cells_in_order schema capacity) n f))

  pub table_count : (table : List CellLocation) → map location_of table ≡ homes_of schema capacity (cells_in_order schema capacity) → length table ≡ cell_count schema capacity
  table_count table e = sym (length-map table location_of) ∙ ap length e ∙ length-map (cells_in_order schema capacity) (λ d. Home (cell schema capacity (opening schema) d))

  units_open : (n : ℕ) (scripts : List (List Statement)) → map (unit_state_of schema capacity) (runners_from schema n scripts) ≡ units_from schema capacity n scripts
  units_open n [] = refl
  units_open n (script ∷ scripts) = ap (λ us. unit_state_of schema capacity (opening_runner schema n script) ∷ us) (units_open (suc n) scripts)

  runners_count : (n : ℕ) (scripts : List (List Statement)) → length (runners_from schema n scripts) ≡ length scripts
  runners_count n [] = refl
  runners_count n (script ∷ scripts) = ap suc (runners_count (suc n) scripts)

  runners_fit : (n : ℕ) (scripts : List (List Statement)) → RunnersFit schema capacity (runners_from schema n scripts)
  runners_fit n [] i r e = absurd (cc (e))
  runners_fit n (script ∷ scripts) zero r e =
      let same : opening_runner schema n script ≡ r = cc (e) in
      subst (RunnerFits schema capacity) same (record { settled = λ q. (refl, refl); guesses = length-replicate (length schema.sets) None; course = λ w q. absurd (cc (q)) })
  runners_fit n (script ∷ scripts) (suc i) r e = runners_fit (suc n) scripts i r e

  module _ (parts : Parts) (scripts : List (List Statement)) (table : map location_of parts.table.items ≡ homes_of schema capacity (cells_in_order schema capacity)) (history : parts.history.items ≡ []) (runners : parts.runners.items ≡ runners_from schema 1 scripts) where
    pub opens_state : state_of schema capacity parts ≡ machine_of schema capacity scripts
    unfolding state_from
    opens_state =
        let units = ap (map (unit_state_of schema capacity)) runners ∙ units_open 1 scripts in
        λ i. record { location = λ c. table_opens parts.table.items table c i; history = map note_of (history i); counter = length (history i); units = units i }

    count : length parts.runners.items ≡ length scripts
    count = ap length runners ∙ runners_count 1 scripts

    pub opens_core : core_of schema capacity parts ≡ record { schema = schema; capacity = capacity; opening = opening_of schema capacity (length scripts); state = machine_of schema capacity scripts }
    opens_core = λ i. record { schema = schema; capacity = capacity; opening = opening_of schema capacity (count i); state = opens_state i }

    pub opens_well : IsSound schema → scripts_fit schema scripts ≡ true → IsWell schema capacity parts
    opens_well sound fit =
        let facts = network_is_sequential schema capacity sound in
        let is_opening = machine_is_opening schema capacity scripts (opening_is_legal schema capacity (length scripts)) fit in
        let lawful = opening_is_lawful (network schema capacity) facts (opening_of schema capacity (length scripts)) (machine_of schema capacity scripts) is_opening in
        let in_turn = start_in_turn (network schema capacity) facts (opening_of schema capacity (length scripts)) name_below names_are_ordered (needs_in_order schema capacity sound) (machine_of schema capacity scripts) is_opening in
        let guessed = subst (AllGuesses (network schema capacity) (HaveRings schema capacity)) (sym opens_state) (opening_has_rings schema capacity scripts) in
        record {
          sound = sound;
          table = table_count parts.table.items table;
          runners = subst (RunnersFit schema capacity) (sym runners) (runners_fit 1 scripts);
          lawful = subst (λ n. Lawful (network schema capacity) (opening_of schema capacity n) (state_of schema capacity parts)) (sym count) (subst (Lawful (network schema capacity) (opening_of schema capacity (length scripts))) (sym opens_state) lawful);
          in_turn = subst (AllInTurn (network schema capacity) name_below) (sym opens_state) in_turn;
          guesses = guessed.each;
        }
