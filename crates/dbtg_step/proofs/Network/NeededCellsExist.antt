-- The law: each cell that a statement needs in any run is a cell of the schema at this capacity.
use Rattle.std.proofs.Common.{◌≡◌, refl, sym, ap, subst, ℕ, zero, suc, ◌+◌, true, List, [], ◌∷◌, length, map, Option, Some, None, arith}
use Rattle.std.specs.Prelude.{option_map, replicate, slice_get, slice_set, unwrap_or, ◌==◌, ◌&&◌}
use Rattle.std.specs.List.{list_any, range_with_len}
use Rattle.std.specs.Option.{option_or}
use Rattle.std.proofs.lemmas.Bool.{cond_both}
use Rattle.std.proofs.lemmas.Option.{same_Some}
use Rattle.dbtg_schema.specs.Lists.{Lists}
use Rattle.dbtg_schema.specs.Lookups.{at}
use Rattle.dbtg_schema.specs.Sound.{IsSound}
use Rattle.dbtg_schema.specs.Structure.{set_numbers}
use Rattle.dbtg_cells.specs.declared.key.DbKey.{DbKey}
use Rattle.dbtg_cells.specs.declared.key.Owner.{Owner}
use Rattle.dbtg_cells.specs.declared.name.CellName.{CellName}
use Rattle.dbtg_cells.specs.CellNumbers.{is_cell}
use Rattle.dbtg_unit.specs.declared.statement.Statement.{Statement}
use Rattle.dbtg_unit.specs.declared.statement.Statement.TheVariants.{OpenArea, CloseArea, Find, Get, Store, Insert, Remove, Modify, Delete, Keep, Free}
use Rattle.dbtg_unit.specs.declared.unit.Unit.{Unit}
use Rattle.dbtg_unit.specs.Database.State.Base.{Database, owner_of}
use Rattle.dbtg_unit.specs.Database.Statements.Effect.{effect}
use Rattle.dbtg_unit.specs.Database.Statements.Codes.{is_done}
use Rattle.dbtg_unit.specs.Hands.Guesses.{guesses_after, noted_guesses, with_owners}
use Rattle.dbtg_unit.specs.Database.State.Legal.{Legal}
use Rattle.dbtg_unit.specs.Hands.Needs.{cells_of, guessed_sets, is_wrong_guess, stale_owners, wrong_owner}
use Rattle.dbtg_unit.specs.Database.State.Units.{opening_unit, owners_of}
use Rattle.dbtg_unit.proofs.Public.{all_at, effect_keeps_legal, find_element, nothing_at, opening_is_legal}
use Rattle.dbtg_step.specs.Machine.SequentialDatabase.{MayMake, NeedsCell, unit_at}
use Rattle.dbtg_step.specs.Machine.Machine.{StatementProgress, SequentialState, State, UnitState, replay}
use Rattle.dbtg_step.specs.Machine.Step.{next_need}
use Rattle.dbtg_step.specs.Machine.Headline.{machine_after, machine_of, opening_of, units_from}
use Rattle.dbtg_step.specs.Laws.{NeededCellsExist}
use Rattle.dbtg_step.specs.Machine.Lawful.{Lawful}
use Rattle.dbtg_step.specs.Inside.Events.{HaveRings}
use Rattle.dbtg_step.specs.Machine.Network.{network}
use Rattle.dbtg_step.proofs.Network.CellsExist.{cells_exist, has_ring, owner_exists}
use Rattle.dbtg_step.proofs.Runs.GuessesFit.{AllGuesses, KeepsGuesses, run_keeps_guesses}
use Rattle.dbtg_step.proofs.Runs.Headlines as headlines
use Rattle.dbtg_step.proofs.Network.NeededCells.{not_beyond, unit_is_in}
use Rattle.dbtg_step.proofs.Network.NetworkFacts.{network_is_sequential}
use Rattle.dbtg_step.proofs.Network.NetworkNeeds.{is_not_held, reads_cell}
use Rattle.dbtg_step.proofs.Runs.Opening.{opening_is_lawful}
use Rattle.dbtg_step.proofs.Network.TurnsBack.{noted_at, reads_stale}
use Rattle.dbtg_step.proofs.EachEvent.UnitFacts.{may_make}

-- ENTRIES BY NUMBER

-- what passes, written at i
at_written : {X : Type 0} (P : ℕ → Option X → Type 0) (xs : List (Option X)) (i : ℕ) (v : Option X) → P i v → ((j : ℕ) → P j (at xs j)) → (j : ℕ) → P j (at (slice_set xs i v) j)
at_written P [] i v h w j = w j
at_written P (x ∷ xs) zero v h w zero = h
at_written P (x ∷ xs) zero v h w (suc j) = w (suc j)
at_written P (x ∷ xs) (suc i) v h w zero = w zero
at_written P (x ∷ xs) (suc i) v h w (suc j) = at_written (λ n. P (suc n)) xs i v h (λ n. w (suc n)) j

-- an entry for each number, and none after them
at_number_from : {X : Type 0} (P : ℕ → Option X → Type 0) (f : ℕ → Option X) (a n : ℕ) → ((s : ℕ) → P s (f s)) → ((s : ℕ) → P s None) → (s : ℕ) → P (a + s) (at (map f (range_with_len a n)) s)
at_number_from P f a zero each none s = none (a + s)
at_number_from P f a (suc n) each none zero = let e : a ≡ a + 0 = omega arith in subst (λ m. P m (f a)) e (each a)
at_number_from P f a (suc n) each none (suc s) =
    let e : (a + 1) + s ≡ a + suc s = omega arith in
    subst (λ m. P m (at (map f (range_with_len (a + 1) n)) s)) e (at_number_from P f (a + 1) n each none s)

at_number : {X : Type 0} (P : ℕ → Option X → Type 0) (f : ℕ → Option X) (n : ℕ) → ((s : ℕ) → P s (f s)) → ((s : ℕ) → P s None) → (s : ℕ) → P s (at (map f (range_with_len 0 n)) s)
at_number P f n each none s = let e : 0 + s ≡ s = omega arith in subst (λ m. P m (at (map f (range_with_len 0 n)) s)) e (at_number_from P f 0 n each none s)

-- GUESSES

module _ (schema : Lists) (capacity : ℕ) where
  -- the owner, where there is one, has a ring in set s
  abbrev RingAt : ℕ → Option Owner → Type 0
  RingAt s o = has_ring schema capacity s o ≡ true

  one_of_both : (s : ℕ) (o g : Option Owner) → RingAt s o → RingAt s g → RingAt s (option_or o g)
  one_of_both s None g h k = k
  one_of_both s (Some o) g h k = h

  with_owners_have_rings : (g owners : List (Option Owner)) → HaveRings schema capacity g → HaveRings schema capacity owners → HaveRings schema capacity (with_owners g owners)
  with_owners_have_rings g owners h k s = subst (RingAt s) (sym (noted_at g owners s)) (one_of_both s (at owners s) (at g s) (k s) (h s))

  pub none_guessed : (n : ℕ) → HaveRings schema capacity (replicate n None)
  none_guessed n s = ap (has_ring schema capacity s) (nothing_at n s)

  -- the guesses that a legal database gives
  module _ (db : Database) (legal : Legal schema capacity db) where
    owners_have_rings : (k : DbKey) → HaveRings schema capacity (owners_of schema capacity db k)
    owners_have_rings k = at_number RingAt (λ s. owner_of schema capacity db s k) (length schema.sets) (λ s. owner_exists schema capacity db legal s k) (λ s. refl)

    noted_have_rings : (x : Statement) (g : List (Option Owner)) (o : Option DbKey) → HaveRings schema capacity g → HaveRings schema capacity (noted_guesses schema capacity db x g o)
    noted_have_rings (Find suppress form) g (Some k) h = owners_have_rings k
    noted_have_rings (Store t items suppress) g (Some k) h = owners_have_rings k
    noted_have_rings (Insert s) g (Some k) h = at_written RingAt g s (owner_of schema capacity db s k) (owner_exists schema capacity db legal s k) h
    noted_have_rings (Remove s) g (Some k) h = at_written RingAt g s None refl h
    noted_have_rings (OpenArea a mode) g (Some k) h = h
    noted_have_rings (CloseArea a) g (Some k) h = h
    noted_have_rings (Get r) g (Some k) h = h
    noted_have_rings (Modify t changes) g (Some k) h = h
    noted_have_rings (Delete option) g (Some k) h = h
    noted_have_rings Keep g (Some k) h = h
    noted_have_rings (Free all) g (Some k) h = h
    noted_have_rings (Find suppress form) g None h = h
    noted_have_rings (Store t items suppress) g None h = h
    noted_have_rings (Insert s) g None h = h
    noted_have_rings (Remove s) g None h = h
    noted_have_rings (OpenArea a mode) g None h = h
    noted_have_rings (CloseArea a) g None h = h
    noted_have_rings (Get r) g None h = h
    noted_have_rings (Modify t changes) g None h = h
    noted_have_rings (Delete option) g None h = h
    noted_have_rings Keep g None h = h
    noted_have_rings (Free all) g None h = h

    pub stale_have_rings : (unit : Unit) (g : List (Option Owner)) (x : Statement) → HaveRings schema capacity (stale_owners schema capacity db unit g x)
    stale_have_rings unit g x = go unit.currency.run_unit
      where
        sets : List ℕ
        sets = guessed_sets schema unit x

        go : (o : Option DbKey) → HaveRings schema capacity (unwrap_or (option_map (λ k. map (wrong_owner schema capacity db g sets k) (set_numbers schema)) o) [])
        go None = λ s. refl
        go (Some k) =
            at_number RingAt (wrong_owner schema capacity db g sets k) (length schema.sets)
            (λ s. cond_both (list_any (λ s'. s' == s) sets && is_wrong_guess (owner_of schema capacity db s k) (at g s)) (owner_of schema capacity db s k) None (RingAt s) (λ e. owner_exists schema capacity db legal s k) (λ e. refl))
            (λ s. refl)

    -- after a turn back
    pub turned_have_rings : (unit : Unit) (g : List (Option Owner)) (x : Statement) → HaveRings schema capacity g → HaveRings schema capacity (with_owners g (stale_owners schema capacity db unit g x))
    turned_have_rings unit g x h = with_owners_have_rings g (stale_owners schema capacity db unit g x) h (stale_have_rings unit g x)

  -- after a statement that leaves a legal database
  pub made_have_rings : (db : Database) (unit : Unit) (x : Statement) (g : List (Option Owner)) → Legal schema capacity (effect schema capacity db unit x).database → HaveRings schema capacity g →
      HaveRings schema capacity (guesses_after schema capacity x g (effect schema capacity db unit x))
  made_have_rings db unit x g legal h =
      let outcome = effect schema capacity db unit x in
      cond_both (is_done outcome.answer.status) (noted_guesses schema capacity outcome.database x g outcome.unit.currency.run_unit) g (HaveRings schema capacity)
      (λ e. noted_have_rings outcome.database legal x g outcome.unit.currency.run_unit h)
      (λ e. h)

  -- what statements make of the guesses
  module _ (sound : IsSound schema) where
    after_have_rings : (db : Database) (units : List Unit) (u : ℕ) (unit : Unit) (x : Statement) (g : List (Option Owner)) → MayMake (network schema capacity) db units u unit x → HaveRings schema capacity g →
        HaveRings schema capacity (guesses_after schema capacity x g (effect schema capacity db unit x))
    unfolding unit_at
    after_have_rings db units zero unit x g may h = absurd (none_some may.found) where
      none_some : None ≡ Some unit → ⊥
      none_some e = cc
    after_have_rings db units (suc n) unit x g may h =
        made_have_rings db unit x g (effect_keeps_legal schema capacity db units n unit x sound may.legal may.found may.fits).legal h

    pub statements_keep_rings : KeepsGuesses (network schema capacity) (HaveRings schema capacity)
    statements_keep_rings = record {
      at_ticket = after_have_rings;
      turned_back = λ db units u unit x g others areas cells may h e.
          subst (HaveRings schema capacity) (reads_stale schema capacity db unit x g areas cells others e).1
          (turned_have_rings db may.legal.legal unit g x h);
    }

  -- at the opening nothing is guessed
  opening_guesses : (n : ℕ) (scripts : List (List Statement)) (i : ℕ) (state : UnitState (network schema capacity)) → slice_get (units_from schema capacity n scripts) i ≡ Some state → HaveRings schema capacity state.guesses
  opening_guesses n [] i state e = absurd (cc (e))
  opening_guesses n (script ∷ scripts) zero state e =
      let same : record { unit = opening_unit schema n; guesses = replicate (length schema.sets) None; script = script; remaining = script; progress = None } ≡ state = same_Some _ state e in
      subst (λ (y : UnitState (network schema capacity)). HaveRings schema capacity y.guesses) same (none_guessed (length schema.sets))
  opening_guesses n (script ∷ scripts) (suc i) state e = opening_guesses (suc n) scripts i state e

  pub opening_has_rings : (scripts : List (List Statement)) → AllGuesses (network schema capacity) (HaveRings schema capacity) (machine_of schema capacity scripts)
  unfolding unit_at
  opening_has_rings scripts = record { each = go }
    where
      go : (u : ℕ) (state : UnitState (network schema capacity)) → unit_at (units_from schema capacity 1 scripts) u ≡ Some state → HaveRings schema capacity state.guesses
      go zero state e = absurd (cc (e))
      go (suc i) state e = opening_guesses 1 scripts i state e

-- THE LAW

-- a cell that a unit needs in a lawful state, with guesses that have rings, is a cell of the schema
pub needed_is_cell : (schema : Lists) (capacity : ℕ) → IsSound schema → (opening : SequentialState (network schema capacity)) (s : State (network schema capacity)) → Lawful (network schema capacity) opening s → (u : ℕ) (state : UnitState (network schema capacity)) (w : StatementProgress (network schema capacity)) (x : Statement) (xs : List Statement) (c : CellName) →
    unit_at s.units u ≡ Some state → HaveRings schema capacity state.guesses → state.remaining ≡ x ∷ xs → next_need (network schema capacity) opening s state w x ≡ NeedsCell c → is_cell schema capacity c ≡ true
unfolding next_need
needed_is_cell schema capacity sound opening s lawful u state w x xs c found rings remaining e =
    let db = (replay (network schema capacity) opening s.history).database in
    let may = may_make (network schema capacity) opening s lawful u state found x xs remaining in
    let unit_is = unit_is_in schema capacity db (replay (network schema capacity) opening s.history).units u state.unit may.legal may.found in
    let reads = reads_cell schema capacity db state.unit x state.guesses w.areas w.cells c e in
    let exist = cells_exist schema capacity sound db may.legal.legal state.unit unit_is.of_schema unit_is.within state.guesses rings x may.fits (not_beyond schema capacity state.unit x reads.0) in
    all_at (is_cell schema capacity) c (cells_of schema capacity db state.unit state.guesses x) exist (find_element (is_not_held w.cells) (cells_of schema capacity db state.unit state.guesses x) c reads.2).0

pub needed_cells_exist : (schema : Lists) (capacity : ℕ) → IsSound schema → NeededCellsExist schema capacity
unfolding machine_after
needed_cells_exist schema capacity sound scripts moves fit u state w x xs c found is remaining e =
    let facts = network_is_sequential schema capacity sound in
    let opening = opening_of schema capacity (length scripts) in
    let first = machine_of schema capacity scripts in
    let legal = opening_is_legal schema capacity (length scripts) in
    let is_opening = headlines.machine_is_opening schema capacity scripts legal fit in
    let lawful = headlines.machine_stays_lawful schema capacity scripts legal fit facts moves in
    let all = run_keeps_guesses (network schema capacity) facts (HaveRings schema capacity) (statements_keep_rings schema capacity sound) opening first moves (opening_is_lawful (network schema capacity) facts opening first is_opening) (opening_has_rings schema capacity scripts) in
    needed_is_cell schema capacity sound opening (machine_after schema capacity scripts moves) lawful u state w x xs c found (all.each u state found) remaining e
