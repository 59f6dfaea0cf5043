-- Two states of a meeting have the same essence exactly if each part of them is the same.
-- m is a meeting, u a unit, c the name of a cell, h and g are histories, o and p are orders; db is a database.
use Rattle.std.proofs.Common.{◌≡◌, refl, sym, ◌∙◌, ap, subst, ◌&&◌, ℕ, zero, suc, ◌+◌, ◌<◌, ◌≤◌, true, false, List, [], ◌∷◌, ◌++◌, append-nil, length, Option, Some, None, arith}
use Rattle.std.specs.Prelude.{flat_map, if◌then◌else◌, is_some, map, nat_le, nat_lt, option_and_then, option_map, option_to_list, unwrap_or}
use Rattle.std.specs.List.{list_all, range_with_len}
use Rattle.std.proofs.lemmas.List.{length-map}
use Rattle.dbtg_schema.specs.Lists.{Lists}
use Rattle.dbtg_schema.specs.Structure.{set_numbers}
use Rattle.dbtg_cells.specs.CellNumbers.{is_cell}
use Rattle.dbtg_cells.specs.declared.extent.Number.{Number}
use Rattle.dbtg_cells.specs.declared.key.DbKey.{DbKey}
use Rattle.dbtg_cells.specs.declared.key.Owner.{Owner}
use Rattle.dbtg_cells.specs.declared.key.Value.{Value}
use Rattle.dbtg_cells.specs.declared.name.CellName.{CellName}
use Rattle.dbtg_cells.specs.declared.name.CellName.TheVariants.{Usage, Extent, Ring, Slot}
use Rattle.dbtg_cells.specs.declared.ring.Occurrence.{Occurrence}
use Rattle.dbtg_cells.proofs.Public.{there_is}
use Rattle.dbtg_unit.specs.declared.statement.Statement.{Statement}
use Rattle.dbtg_unit.specs.declared.unit.Entry.{Entry}
use Rattle.dbtg_unit.specs.declared.unit.Unit.{Unit}
use Rattle.dbtg_unit.specs.Database.State.Base.{Database, Record, calc_items, is_live, items_of, key_at}
use Rattle.dbtg_unit.specs.Database.State.Cells.{cell, owner_at, ring_of, slot_of}
use Rattle.dbtg_program.specs.declared.program.Program.{Program}
use Rattle.dbtg_program.specs.Going.{Due}
use Rattle.dbtg_step.specs.Machine.SequentialDatabase.{unit_at}
use Rattle.dbtg_going.specs.Turns.{comes, statement_due}
use Rattle.dbtg_states.specs.Numbers.{Numbers}
use Rattle.dbtg_states.specs.Parts.{number_numbers, occurrence_numbers, record_numbers, shown_numbers, up_to_used}
use Rattle.dbtg_states.specs.Spelling.{list_numbers, option_numbers, owner_numbers, value_numbers}
use Rattle.dbtg_states.specs.Inside.SpelledUnits.{unit_numbers}
use Rattle.dbtg_states.proofs.States.Numbers.{one_number_of, same_by_number}
use Rattle.dbtg_states.proofs.States.SameImages.{uses_from}
use Rattle.dbtg_states.proofs.States.SameParts.{cells_same, same_at_each, same_last, same_lists, same_records, same_users, unit_spelled}
use Rattle.dbtg_explore.specs.Orders.{IsMeeting, Meeting, history_of}
use Rattle.dbtg_explore.specs.States.{Essence, comes_of_each, essence, essence_of, sequential_after, state_after, state_of}
use Rattle.dbtg_explore.specs.Versions.{at_first, unversioned, unversioned_database, unversioned_unit}
use Rattle.dbtg_explore.specs.Counted.{counted, counted_each}
use Rattle.dbtg_explore.specs.Inside.Keys.{due_numbers, items_read, items_read_by}
use Rattle.dbtg_explore.specs.Inside.Parts.{IsNumberOf, cell_part, kept_count, parts_of, unit_part}
use Rattle.dbtg_explore.proofs.Alike.{comes_at, due_is}
use Rattle.dbtg_explore.proofs.Counted.{counted_at, counted_by, counted_due}
use Rattle.dbtg_explore.proofs.Keyed.{due_apart, due_counted, legal, said_comes, units_count}
use Rattle.dbtg_explore.proofs.Versions.Facts.{owner_is, sort_key_is}
use Rattle.dbtg_explore.proofs.Versions.Images.{legal_first}
use Rattle.dbtg_explore.proofs.Versions.Stored.{first_items, first_lives}

-- WHAT CELLS SHOW WITHOUT VERSIONS

calc_first : (schema : Lists) (t : ℕ) (o : Option Record) → option_map (λ (r : Record). calc_items schema t r.items) o ≡ option_map (λ (r : Record). calc_items schema t r.items) (option_map at_first o)
calc_first schema t None = refl
calc_first schema t (Some r) = refl

module _ (schema : Lists) (capacity : ℕ) (db : Database) where
  abbrev first : Database
  first = unversioned_database db

  live : (k : DbKey) → is_live db k ≡ is_some (first.records k)
  live k = first_lives (db.records k)

  items : (k : DbKey) → items_of db k ≡ unwrap_or (option_map (λ (r : Record). r.items) (first.records k)) []
  items k = first_items (db.records k)

  stored_first : (k : DbKey) (o : Option Record) → flat_map (record_numbers false) (option_to_list (option_map (slot_of schema capacity db k) o)) ≡ flat_map (record_numbers true) (option_to_list (option_map (slot_of schema capacity first k) (option_map at_first o)))
  stored_first k None = refl
  stored_first k (Some r) = λ i. (k.generation ∷ 1 ∷ list_numbers value_numbers r.items ++ flat_map (option_numbers owner_numbers) (map (λ s. owner_is schema capacity db first.records live items s k i) (set_numbers schema))) ++ []

  ring_first : (s : ℕ) (o : Owner) (list : Option (List DbKey)) → option_map (ring_of schema db s o) list ≡ option_map (ring_of schema first s o) list
  ring_first s o None = refl
  ring_first s o (Some ks) = λ i. Some (record { owner = o; members = map {B = DbKey × Option Value} (λ k. (k, sort_key_is schema capacity db first.records live items s k i)) ks })

  -- without versions a cell says what it says of the database without versions
  pub shown_first : (units : ℕ) (c : CellName) → shown_numbers false units (cell schema capacity db c) ≡ shown_numbers true units (cell schema capacity first c)
  unfolding cell
  shown_first units (Usage a) = refl
  shown_first units (Extent t) = λ i. flat_map number_numbers (up_to_used (map {B = Number} (λ n. record { last = db.last t n; calc = calc_first schema t (db.records (key_at db t n)) i }) (range_with_len 1 capacity)))
  shown_first units (Ring s o) = ap (λ (r : Option Occurrence). flat_map occurrence_numbers (option_to_list r)) (ring_first s (owner_at db o) (db.lists s (owner_at db o)))
  shown_first units (Slot t n) = stored_first (key_at db t n) (db.records (key_at db t n))

-- THE SAME PARTS

pub some_at : {X : Type 0} (xs : List X) (v : ℕ) → 0 < v → v ≤ length xs → is_some (unit_at xs v) ≡ true
unfolding unit_at
some_at xs zero none within = absurd (omega (arith, none))
some_at xs (suc i) low within = ap is_some (there_is xs i (omega (arith, within))).1

module _ (m : Meeting) where
  -- WHAT A UNIT'S PART SAYS

  -- by what is due in its program, and by the unit without versions
  abbrev pub said_of : ℕ → Option Due → Option Unit → List ℕ
  said_of u d unit =
      kept_count unit
      ∷ (if is_some (option_and_then (statement_due m.schema) d) then 1 else 0)
      ∷ flat_map (due_numbers (items_read_by m.programs u)) (option_to_list d)
      ++ flat_map unit_numbers (option_to_list unit)

  pub part_said : (h : List Entry) (u : ℕ) → unit_part m h u ≡ said_of u (unit_at (state_after m h).programs u) (unit_at (unversioned (sequential_after m h)).units u)
  part_said h u =
      ap (λ (s : Option Statement). kept_count (unit_at (unversioned (sequential_after m h)).units u) ∷ (if is_some s then 1 else 0) ∷ flat_map (due_numbers (items_read_by m.programs u)) (option_to_list (unit_at (state_after m h).programs u)) ++ flat_map unit_numbers (option_to_list (unit_at (unversioned (sequential_after m h)).units u)))
      (due_is m h u)

  -- what does not count is not said
  said_counted : (u : ℕ) (d : Option Due) (unit : Option Unit) → said_of u (option_map (counted_by (unit_at m.programs u)) d) unit ≡ said_of u d unit
  said_counted u None unit = refl
  said_counted u (Some d) unit =
      λ i. kept_count unit ∷ (if is_some (statement (unit_at m.programs u) i) then 1 else 0) ∷ (numbers (unit_at m.programs u) i ++ []) ++ flat_map unit_numbers (option_to_list unit) where
        statement : (o : Option Program) → statement_due m.schema (counted_by o d) ≡ statement_due m.schema d
        statement None = refl
        statement (Some p) = counted_due m.schema p d

        numbers : (o : Option Program) → due_numbers (unwrap_or (option_map items_read o) []) (counted_by o d) ≡ due_numbers (unwrap_or (option_map items_read o) []) d
        numbers None = refl
        numbers (Some p) = due_counted p d

  pub part_counted : (h : List Entry) (u : ℕ) → unit_part m h u ≡ said_of u (unit_at (essence m (state_after m h)).programs u) (unit_at (unversioned (sequential_after m h)).units u)
  part_counted h u =
      let unit = unit_at (unversioned (sequential_after m h)).units u in
      part_said h u ∙ sym (said_counted u (unit_at (state_after m h).programs u) unit) ∙ ap (λ d. said_of u d unit) (sym (counted_at m.programs (state_after m h).programs u))

  abbrev behind_two : List ℕ → List ℕ
  behind_two [] = []
  behind_two (a ∷ []) = []
  behind_two (a ∷ b ∷ rest) = rest

  -- what counts of a program that is known
  pub counted_there : (h : List Entry) (u : ℕ) (program : Program) (d : Due) → unit_at m.programs u ≡ Some program → unit_at (state_after m h).programs u ≡ Some d → unit_at (essence m (state_after m h)).programs u ≡ Some (counted program d)
  counted_there h u program d found stands = counted_at m.programs (state_after m h).programs u ∙ (λ i. option_map (counted_by (found i)) (stands i))

  -- it tells what counts of the program, and the unit without versions
  pub part_tells : (h g : List Entry) (u : ℕ) (program : Program) → unit_at m.programs u ≡ Some program → is_some (unit_at (unversioned (sequential_after m h)).units u) ≡ true → is_some (unit_at (unversioned (sequential_after m g)).units u) ≡ true → unit_part m h u ≡ unit_part m g u
      → (counted program (comes m.schema program u h) ≡ counted program (comes m.schema program u g)) × (unit_at (unversioned (sequential_after m h)).units u ≡ unit_at (unversioned (sequential_after m g)).units u)
  part_tells h g u program found here there same =
      let x = comes m.schema program u h in
      let y = comes m.schema program u g in
      let rest_of : List Entry → List ℕ = λ es. flat_map unit_numbers (option_to_list (unit_at (unversioned (sequential_after m es)).units u)) in
      let stands : (es : List Entry) → unit_at (state_after m es).programs u ≡ Some (comes m.schema program u es) = λ es. comes_at m es u ∙ ap (option_map (λ (q : Program). comes m.schema q u es)) found in
      let read : items_read_by m.programs u ≡ items_read program = ap (λ o. unwrap_or (option_map items_read o) []) found in
      let one : (es : List Entry) → flat_map (due_numbers (items_read_by m.programs u)) (option_to_list (unit_at (state_after m es).programs u)) ++ rest_of es ≡ due_numbers (items_read program) (comes m.schema program u es) ++ rest_of es
      = λ es. (λ i. flat_map (due_numbers (read i)) (option_to_list (stands es i)) ++ rest_of es) ∙ ap (λ l. l ++ rest_of es) (append-nil (due_numbers (items_read program) (comes m.schema program u es))) in
      let both = due_apart m.schema program x y (rest_of h) (rest_of g) (said_comes m program u h) (said_comes m program u g) (sym (one h) ∙ ap behind_two same ∙ one g) in
      let units = unit_spelled _ _ [] [] here there (ap (λ l. l ++ []) both.1) in
      (both.0, units.0)

  -- the parts of two states are the same
  record HaveSameParts (h g : List Entry) : Type 0 where
    units : (u : ℕ) → 0 < u → u ≤ length m.programs → unit_part m h u ≡ unit_part m g u
    cells : (c : CellName) → is_cell m.schema m.capacity c ≡ true → cell_part m h c ≡ cell_part m g c

  -- so they are if the essence is
  parts_same : (h g : List Entry) → essence m (state_after m h) ≡ essence m (state_after m g) → HaveSameParts h g
  parts_same h g e = record {
    units = λ u low high. part_counted h u ∙ (λ i. said_of u (unit_at (e i).programs u) (unit_at (e i).sequential.units u)) ∙ sym (part_counted g u);
    cells = λ c there. cells_same m.schema m.capacity (length m.programs) (unversioned (sequential_after m h)) (unversioned (sequential_after m g)) (ap (λ (s : Essence). s.sequential) e) c;
  }

  -- and only then
  module _ (meets : IsMeeting m) (o p : List ℕ) (same : HaveSameParts (history_of m o) (history_of m p)) where
    abbrev h : List Entry
    h = history_of m o

    abbrev g : List Entry
    g = history_of m p

    each_unit : (u : ℕ) → 0 < u → u ≤ length m.programs → (program : Program) → unit_at m.programs u ≡ Some program
        → (unit_at (essence m (state_after m h)).programs u ≡ unit_at (essence m (state_after m g)).programs u) × (unit_at (unversioned (sequential_after m h)).units u ≡ unit_at (unversioned (sequential_after m g)).units u)
    each_unit u low high program found =
        let stands : (es : List Entry) → unit_at (essence m (state_after m es)).programs u ≡ Some (counted program (comes m.schema program u es))
        = λ es. counted_there es u program (comes m.schema program u es) found (comes_at m es u ∙ ap (option_map (λ (q : Program). comes m.schema q u es)) found) in
        let both = part_tells h g u program found (unit_there (history_of m o) u low (high_at o high)) (unit_there (history_of m p) u low (high_at p high)) (same.units u low high) in
        (stands h ∙ ap Some both.0 ∙ sym (stands g), both.1) where
          high_at : (q : List ℕ) → u ≤ length m.programs → u ≤ length (unversioned (sequential_after m (history_of m q))).units
          high_at q within =
              let counted = units_count m q in
              let long = length-map (sequential_after m (history_of m q)).units (unversioned_unit (sequential_after m (history_of m q)).database) in
              omega (arith, within, counted, long)

          unit_there : (es : List Entry) (v : ℕ) → 0 < v → v ≤ length (unversioned (sequential_after m es)).units → is_some (unit_at (unversioned (sequential_after m es)).units v) ≡ true
          unit_there es v low within = some_at (unversioned (sequential_after m es)).units v low within

    program_at : (i : ℕ) → i < length m.programs → (program : Program) × (unit_at m.programs (suc i) ≡ Some program)
    unfolding unit_at
    program_at i low = there_is m.programs i low

    programs_same : (essence m (state_after m h)).programs ≡ (essence m (state_after m g)).programs
    unfolding unit_at
    programs_same =
        same_at_each (essence m (state_after m h)).programs (essence m (state_after m g)).programs (count_of h ∙ sym (count_of g)) (λ i low.
        let few : i < length m.programs = let count = count_of h in omega (arith, low, count) in
        let program = program_at i few in
        (each_unit (suc i) (omega arith) (omega (arith, few)) program.0 program.1).0) where
          comes_length : (es : List Entry) (k : ℕ) (ps : List Program) → length (comes_of_each m es k ps) ≡ length ps
          comes_length es k [] = refl
          comes_length es k (q ∷ ps) = ap suc (comes_length es (k + 1) ps)

          each_length : (ps : List Program) (ds : List Due) → length (counted_each ps ds) ≡ length ds
          each_length [] ds = refl
          each_length (q ∷ ps) [] = refl
          each_length (q ∷ ps) (d ∷ ds) = ap suc (each_length ps ds)

          count_of : (es : List Entry) → length (essence m (state_after m es)).programs ≡ length m.programs
          count_of es = each_length m.programs (state_after m es).programs ∙ comes_length es 1 m.programs

    units_same : (unversioned (sequential_after m h)).units ≡ (unversioned (sequential_after m g)).units
    unfolding unit_at
    units_same =
        same_at_each (unversioned (sequential_after m h)).units (unversioned (sequential_after m g)).units (count_of o ∙ sym (count_of p)) (λ i low.
        let counted = count_of o in
        let few : i < length m.programs = omega (arith, low, counted) in
        let program = program_at i few in
        (each_unit (suc i) (omega arith) (omega (arith, few)) program.0 program.1).1) where
          count_of : (q : List ℕ) → length (unversioned (sequential_after m (history_of m q))).units ≡ length m.programs
          count_of q = length-map (sequential_after m (history_of m q)).units (unversioned_unit (sequential_after m (history_of m q)).database) ∙ units_count m q

    users_within : (q : List ℕ) (a : ℕ) → list_all (λ e. nat_lt 0 e.0 && nat_le e.0 (length m.programs)) ((state_of m q).sequential.database.usage a) ≡ true
    users_within q a = subst (λ k. list_all (λ e. nat_lt 0 e.0 && nat_le e.0 k) ((state_of m q).sequential.database.usage a) ≡ true) (units_count m q) ((legal m meets q).users a)

    essence_from_parts : essence_of m o ≡ essence_of m p
    essence_from_parts =
        let n = length m.programs in
        let db = unversioned_database (sequential_after m h).database in
        let eb = unversioned_database (sequential_after m g).database in
        let lo = legal_first m.schema m.capacity (sequential_after m h).database (legal m meets o).legal in
        let lp = legal_first m.schema m.capacity (sequential_after m g).database (legal m meets p).legal in
        λ i. record {
          sequential = record {
            records = λ k. same_records m.schema m.capacity n db eb lo lp same.cells k i;
            lists = λ s w. same_lists m.schema m.capacity n db eb lo lp same.cells s w i;
            last = λ t k. same_last m.schema m.capacity n db eb lo lp same.cells t k i;
            uses = λ a u. uses_from n (db.usage a) (eb.usage a) (users_within o a) (users_within p a) (same_users m.schema m.capacity n db eb lo lp same.cells a) u i;
            units = units_same i;
          };
          programs = programs_same i;
        }

  -- BY NUMBERS

  module _ (meets : IsMeeting m) (kept : Numbers) (o p : List ℕ) where
    -- orders whose states have one number lead to the same state
    pub same_state : (n : ℕ) → IsNumberOf m kept (history_of m o) n → IsNumberOf m kept (history_of m p) n → essence_of m o ≡ essence_of m p
    same_state n h g =
        let same = same_by_number (parts_of m (history_of m o)) (unit_part m (history_of m p)) (cell_part m (history_of m p)) kept n h.number g.number in
        essence_from_parts meets o p (record { units = same.units; cells = same.cells })

    -- and the other way round
    pub same_number : (n k : ℕ) → essence_of m o ≡ essence_of m p → IsNumberOf m kept (history_of m o) n → IsNumberOf m kept (history_of m p) k → n ≡ k
    same_number n k e h g =
        let same = parts_same (history_of m o) (history_of m p) e in
        one_number_of (parts_of m (history_of m o)) (unit_part m (history_of m p)) (cell_part m (history_of m p)) kept n k h.number g.number (record { units = same.units; cells = same.cells })
