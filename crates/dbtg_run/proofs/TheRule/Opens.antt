-- The table as it is made keeps the rule.
use Rattle.std.proofs.Common.{◌≡◌, ℕ, zero, suc, ◌+◌, ◌<◌, ◌≤◌, true, false, List, [], ◌∷◌, map, length, replicate, get_or, Option, Some, None, slice_get, inl, inr, refl, sym, ap, ◌∙◌, subst, arith}
use Rattle.std.proofs.lemmas.List.{length-replicate}
use Rattle.std.proofs.lemmas.Nat.Bits.{bit_at-zero}
use mathlib.Core.Option.{some, some-ne-none, some-injective}
use lib.ListN.{get_elem?}
use Rattle.atomic_table.specs.Table.{opening}
use Rattle.atomic_table.proofs.Lists.{at_map}
use Rattle.dbtg_schema.specs.Lists.{Lists}
use Rattle.dbtg_schema.specs.Sound.{IsSound}
use Rattle.dbtg_cells.specs.declared.cell.Cell.{Cell}
use Rattle.dbtg_cells.specs.declared.name.CellName.{CellName}
use Rattle.dbtg_cells.specs.Cells.{shown}
use Rattle.dbtg_unit.specs.declared.statement.Statement.{Statement}
use Rattle.dbtg_unit.specs.Database.State.Base.{opening as first_database}
use Rattle.dbtg_unit.specs.Database.State.Cells.{cell}
use Rattle.dbtg_unit.specs.Database.State.Units.{opening_unit}
use Rattle.dbtg_unit.proofs.Public.{opening_is_legal}
use Rattle.dbtg_step.specs.Machine.SequentialDatabase.{unit_at}
use Rattle.dbtg_step.specs.Machine.Machine.{Home, UnitState, State as Machine}
use Rattle.dbtg_step.specs.Machine.Lawful.{Lawful}
use Rattle.dbtg_step.specs.Machine.Headline.{machine_of, opening_of, units_from}
use Rattle.dbtg_step.specs.Laws.{scripts_fit}
use Rattle.dbtg_step.proofs.Public.{machine_is_opening, network_is_sequential, opening_is_lawful}
use Rattle.dbtg_run.specs.declared.view.About.{About}
use Rattle.dbtg_run.specs.declared.view.SeatUnit.{SeatUnit}
use Rattle.dbtg_run.specs.declared.view.SeatKnowledge.{SeatKnowledge}
use Rattle.dbtg_run.specs.Views.{Has}
use Rattle.dbtg_run.specs.Inside.Views.{Seated, total_below, latched, once_below, times_place}
use Rattle.dbtg_run.specs.Inside.LatchRule.{net, opens as opening_units, area_count, cells_of_table, area_word, cell_word, slot_name, AreaOk, progress_of, TableShows, LatchRule, numbered, first_view}
use Rattle.dbtg_run.proofs.TheRule.Rested.{rested, rested_keeps}

abbrev pub newcomer : About → ℕ → SeatUnit
newcomer about u = record { place = u; unit = opening_unit about.schema.value (suc u); journal = []; exclusive = false; areas = []; held = [] }

no_scripts_fit : (schema : Lists) (n : ℕ) → scripts_fit schema (replicate n []) ≡ true
no_scripts_fit schema zero = refl
no_scripts_fit schema (suc n) = no_scripts_fit schema n

module _ (about : About) (sound : IsSound about.schema.value) where
  abbrev before : Machine (net about)
  before = machine_of about.schema.value about.capacity (replicate about.units [])

  abbrev pub machine : Machine (net about)
  machine = record { location = before.location; history = []; counter = 0; units = map (rested (net about) (opening_units about)) before.units }

  many : length (replicate {A = List Statement} about.units []) ≡ about.units
  many = length-replicate about.units []

  lawful_before : Lawful (net about) (opening_units about) before
  lawful_before = subst (λ n. Lawful (net about) (opening_of about.schema.value about.capacity n) before) many
      (opening_is_lawful (net about) (network_is_sequential about.schema.value about.capacity sound) (opening_of about.schema.value about.capacity (length (replicate {A = List Statement} about.units []))) before
      (machine_is_opening about.schema.value about.capacity (replicate about.units []) (opening_is_legal about.schema.value about.capacity (length (replicate {A = List Statement} about.units []))) (no_scripts_fit about.schema.value about.units)))

  idle : (k n i : ℕ) (state : UnitState (net about)) → slice_get (units_from about.schema.value about.capacity k (replicate n [])) i ≡ Some state → state.progress ≡ None
  idle k zero i state e = absurd (cc (e))
  idle k (suc n) zero state e = let h : record { unit = opening_unit about.schema.value k; guesses = replicate (length about.schema.value.sets) None; script = []; remaining = []; progress = None } ≡ state = cc (e) in sym (ap (λ (x : UnitState (net about)). x.progress) h)
  idle k (suc n) (suc i) state e = idle (suc k) n i state e

  pub lawful : Lawful (net about) (opening_units about) machine
  unfolding unit_at
  lawful = rested_keeps (net about) (opening_units about) before lawful_before none
    where
      none : (u : ℕ) (state : UnitState (net about)) → unit_at before.units u ≡ Some state → state.progress ≡ None
      none zero state e = absurd (cc (e))
      none (suc i) state e = idle 1 about.units i state e

  found_from : (k n u : ℕ) → u < n → (state : UnitState (net about)) × (slice_get (map (rested (net about) (opening_units about)) (units_from about.schema.value about.capacity k (replicate n []))) u ≡ Some state) × (state.unit ≡ opening_unit about.schema.value (k + u)) × (state.progress ≡ Some (progress_of about (newcomer about 0)))
  found_from k zero u l = absurd (omega arith)
  found_from k (suc n) zero l = (_, refl, ap (opening_unit about.schema.value) (let e : k ≡ k + 0 = omega arith in e), refl)
  found_from k (suc n) (suc u) l =
      let t = found_from (suc k) n u (omega arith) in
      (t.0, t.1, t.2 ∙ ap (opening_unit about.schema.value) (let e : suc k + u ≡ k + suc u = omega arith in e), t.3)

  count_from : (k n : ℕ) → length (map (rested (net about) (opening_units about)) (units_from about.schema.value about.capacity k (replicate n []))) ≡ n
  count_from k zero = refl
  count_from k (suc n) = ap suc (count_from (suc k) n)

  no_entries : (n : ℕ) → total_below (λ u. 0) n ≡ 0
  no_entries zero = refl
  no_entries (suc n) = let h = no_entries n in omega arith

  pub worded : (words : List ℕ) (slots : List (Option Cell)) → length words ≡ 1 + area_count about + cells_of_table about → ((i : ℕ) → get_or words i 0 ≡ 0)
      → ((k : ℕ) (c : CellName) → slot_name about k ≡ Some c → (x : Cell) × (get_elem? slots k ≡ some (Some x)) × (shown x ≡ cell about.schema.value about.capacity (first_database about.schema.value) c))
      → TableShows about words (map (λ (x : Option Cell). some x) slots) (newcomer about)
  unfolding unit_at
  worded words slots wide zeros homes = record {
    log = [];
    machine = machine;
    wide = wide;
    lawful = lawful;
    history = refl;
    fitting = refl;
    counter = zeros 0;
    count = count_from 1 about.units;
    shows = λ u l. let t = found_from 1 about.units u l in record { state = t.0; found = t.1; unit = t.2 ∙ ap (opening_unit about.schema.value) (let e : 1 + u ≡ suc u = omega arith in e); progress = t.3 };
    place = λ u l. refl;
    journal = λ u l. refl;
    short = λ u l. omega arith;
    none = λ u l. refl;
    entries = no_entries about.units;
    areas = λ a l. subst (λ (n : ℕ). AreaOk n (λ x u. latched x a (newcomer about u))) (sym (zeros (area_word a))) (record { small = omega arith; shared = λ u b. bit_at-zero u; alone = λ u b. bit_at-zero (8 + u) });
    home = λ k c named free. let h = homes k c named in record { value = h.0; is = at_map (λ (x : Option Cell). some x) slots k (Some h.0) h.1; location_is = ap (λ v. Home v) (sym h.2) };
    out = λ k c named busy. absurd (busy (zeros (cell_word about k)));
  }

  -- THE FIRST VIEW

  numbered_once : (p n u : ℕ) → times_place u (numbered about p n) + once_below u p ≡ once_below u (p + n)
  numbered_once p zero u = let f : once_below u p ≡ once_below u (p + 0) = (let e : p ≡ p + 0 = omega arith in ap (once_below u) e) in omega arith
  numbered_once p (suc n) u = let h : times_place u (numbered about (suc p) n) + once_below u (suc p) ≡ once_below u (suc p + n) = numbered_once (suc p) n u in
      let e : once_below u (suc p + n) ≡ once_below u (p + suc n) = (let q : suc p + n ≡ p + suc n = omega arith in ap (once_below u) q) in omega arith

  numbered_length : (p n : ℕ) → length (numbered about p n) ≡ n
  numbered_length p zero = refl
  numbered_length p (suc n) = ap suc (numbered_length (suc p) n)

  numbered_has : (p n : ℕ) (m : SeatUnit) → Has m (numbered about p n) → (i : ℕ) × (i < n) × (m ≡ newcomer about (p + i))
  numbered_has p zero m h = absurd h
  numbered_has p (suc n) m (inl e) = (0, omega arith, sym e ∙ ap (newcomer about) (let q : p ≡ p + 0 = omega arith in q))
  numbered_has p (suc n) m (inr r) = let t = numbered_has (suc p) n m r in (suc t.0, (let l = t.1 in omega arith), t.2 ∙ ap (newcomer about) (let q : suc p + t.0 ≡ p + suc t.0 = omega arith in q))

  only : (i : ℕ) (v : SeatKnowledge) → get_elem? (first_view about ∷ []) i ≡ some v → (i ≡ 0) × (first_view about ≡ v)
  only zero v e = (refl, some-injective (first_view about) v e)
  only (suc i) v e = absurd (some-ne-none v (sym e))

  seats : Seated about (newcomer about) (first_view about ∷ [])
  seats = record {
    seat = λ _. 0;
    live = λ i v e l. ap (λ (x : SeatKnowledge). x.about) (sym (only i v e).1);
    seated = λ i v m e h.
        let o = only i v e in
        let t = numbered_has 0 about.units m (subst (λ (x : SeatKnowledge). Has m x.members) (sym o.1) h) in
        let is : m ≡ newcomer about t.0 = t.2 ∙ ap (newcomer about) (let q : 0 + t.0 ≡ t.0 = omega arith in q) in
        let place : m.place ≡ t.0 = ap (λ (x : SeatUnit). x.place) is in
        record { same = is ∙ ap (newcomer about) (sym place); here = sym o.0; inside = (let l = t.1 in omega arith) };
    each_once = λ u. let h = numbered_once 0 about.units u in let e : once_below u (0 + about.units) ≡ once_below u about.units = (let q : 0 + about.units ≡ about.units = omega arith in ap (once_below u) q) in omega arith;
    all_there = let h = numbered_length 0 about.units in omega arith;
  }

  pub opens : about.units ≤ 8 → (words : List ℕ) (slots : List (Option Cell)) → length words ≡ 1 + area_count about + cells_of_table about → ((i : ℕ) → get_or words i 0 ≡ 0)
      → ((k : ℕ) (c : CellName) → slot_name about k ≡ Some c → (x : Cell) × (get_elem? slots k ≡ some (Some x)) × (shown x ≡ cell about.schema.value about.capacity (first_database about.schema.value) c))
      → LatchRule about (opening words slots (first_view about))
  opens few words slots wide zeros homes = record { sound = sound; few = few; all = newcomer about; seats = seats; worded = worded words slots wide zeros homes }
