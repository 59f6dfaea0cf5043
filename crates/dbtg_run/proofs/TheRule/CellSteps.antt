-- Cells taken and put back keep the rule.
use Rattle.std.proofs.Common.{◌≡◌, ◌≢◌, ℕ, zero, suc, ◌+◌, ◌-◌, ◌<◌, ◌≤◌, eqb, Bool, true, false, List, [], ◌∷◌, ◌++◌, reverse, set, get_or, Option, Some, None, refl, sym, ap, ◌∙◌, subst, arith, length-set, get_or-set_other, get_or-set_same}
use Rattle.std.proofs.lemmas.Nat.{and_le_r}
use Rattle.std.specs.Int.RustNames.{bit_and}
use Rattle.std.proofs.lemmas.Option.{slice_get_within}
use mathlib.Core.Logic.{dite}
use mathlib.Core.Option.{some, none, some-ne-none}
use mathlib.Core.Option as maybe
use native.Mathlib.Decide.{ℕ_discrete}
use lib.ListN.{get_elem?}
use prog.Atomic.{either}
use Rattle.atomic_table.specs.Table.{State, step, Act, keeps, takes, gives, stepped, Allows, carried_after, Valid}
use Rattle.atomic_table.proofs.Lists.{exchanged, set_here, set_else}
use Rattle.dbtg_cells.specs.declared.cell.Cell.{Cell}
use Rattle.dbtg_cells.specs.declared.name.CellName.{CellName}
use Rattle.dbtg_cells.specs.declared.key.Owner.{Owner}
use Rattle.dbtg_cells.specs.Cells.{shown}
use Rattle.dbtg_cells.specs.Shown.{CellValue}
use Rattle.dbtg_cells.proofs.Public.{numbered_at}
use Rattle.dbtg_unit.specs.declared.held.Need.TheVariants.{Take}
use Rattle.dbtg_unit.specs.declared.statement.Statement.{Statement}
use Rattle.dbtg_unit.specs.Database.State.Base.{Database}
use Rattle.dbtg_unit.specs.Database.Statements.Fits.{fits}
use Rattle.dbtg_unit.specs.Hands.Local.{Agrees}
use Rattle.dbtg_unit.specs.Hands.Needs.{need}
use Rattle.dbtg_step.specs.Inside.SequentialDatabase.{IsSequentialDatabase}
use Rattle.dbtg_step.specs.Machine.SequentialDatabase.{In}
use Rattle.dbtg_step.specs.Machine.Machine.{CellLocation, Home, HeldBy, StatementProgress, relocated, held_cells}
use Rattle.dbtg_step.specs.Core.Parts.{held_cells_of, held_of}
use Rattle.dbtg_step.proofs.Public.{SafeUpdate, back_is_safe, held_behind, relocated_at, relocated_elsewhere, take_is_safe}
use Rattle.dbtg_run.specs.declared.view.About.{About}
use Rattle.dbtg_run.specs.declared.view.SeatUnit.{SeatUnit}
use Rattle.dbtg_run.specs.declared.view.SeatKnowledge.{SeatKnowledge}
use Rattle.dbtg_run.specs.Inside.Views.{put, latched, with_cell, less_cell, bare, init, lone}
use Rattle.dbtg_run.specs.Inside.LatchRule.{net, opens, area_count, cells_of_table, area_word, cell_word, slot_name, progress_of, hands_of, Sat, AtHome, AreaOk, LatchRule, TakesAt, TakesCell, PutsCell}
use Rattle.dbtg_run.proofs.TheRule.Base.{each_put}
use Rattle.dbtg_run.proofs.TheRule.Areas.{ok_same}
use Rattle.dbtg_run.proofs.TheRule.Facts.{init_more, shown_bare, area_of_cell_held}
use Rattle.dbtg_run.proofs.TheRule.Moves.{laws, is_at_place, mine, moved, kept_with, still}
use Rattle.dbtg_run.proofs.TheRule.Alone.{tells_real, cell_free_alone}

-- two slots have two names
pub apart : (about : About) (j k : ℕ) (c : CellName) → slot_name about j ≡ Some c → slot_name about k ≡ Some c → j ≡ k
apart about j k c a b =
    let e : Some j ≡ Some k = sym (numbered_at about.schema.value about.capacity j c a) ∙ numbered_at about.schema.value about.capacity k c b in cc (e)

latched_held : (y : Bool) (a : ℕ) (m : SeatUnit) (held : List (CellName × Cell)) → latched y a (record m { held = held }) ≡ latched y a m
latched_held true a m held = refl
latched_held false a m held = refl

and_zero : (n z : ℕ) → z ≡ 0 → bit_and n z ≡ 0
and_zero n z e = let h : bit_and n z ≤ z = and_le_r n z in omega arith

pub there_here : {A : Type 0} (xs : List A) (i : ℕ) (a b : A) → get_elem? xs i ≡ some a → get_elem? (set xs i b) i ≡ some b
there_here [] i a b e = absurd (some-ne-none a (sym e))
there_here (x ∷ xs) zero a b e = refl
there_here (x ∷ xs) (suc i) a b e = there_here xs i a b e

module _ (about : About) (s : State (Option Cell) SeatKnowledge) (K : LatchRule about s) (id : ℕ) (m : SeatUnit) (at : get_elem? s.views id ≡ some (lone about m)) where
  -- a step on the word of the slot k, which has the cell c; the unit then has other cells
  pub cell_moved : (k x : ℕ) (c : CellName) (w : SeatUnit) (location : CellName → CellLocation CellValue) (homes : List (maybe.Option (Option Cell))) → slot_name about k ≡ Some c
      → w.place ≡ m.place → w.unit ≡ m.unit → w.journal ≡ m.journal → ((y : Bool) (a : ℕ) → latched y a w ≡ latched y a m)
      → SafeUpdate (net about) (opens about) K.worded.machine (suc m.place) location (Some (progress_of about w))
      → ((d : CellName) → d ≢ c → location d ≡ K.worded.machine.location d)
      → ((j : ℕ) → j ≢ k → get_elem? homes j ≡ get_elem? s.homes j)
      → (x ≡ 0 → AtHome location (get_elem? homes k) c)
      → (x ≢ 0 → location c ≡ HeldBy x)
      → LatchRule about record { words = set s.words (cell_word about k) x; homes = homes; views = set s.views id (lone about w) }
  cell_moved k x c w location homes named place unit journal same safe elsewhere rest home out =
      let W = K.worded in
      let inside : k < cells_of_table about = slice_get_within _ k c named in
      let here : get_or (set s.words (cell_word about k) x) (cell_word about k) 0 ≡ x = get_or-set_same s.words (cell_word about k) x 0 (let w = W.wide in omega arith) in
      let beside : (j : ℕ) → j ≢ k → get_or (set s.words (cell_word about k) x) (cell_word about j) 0 ≡ get_or s.words (cell_word about j) 0 = λ j ne. get_or-set_other s.words (cell_word about k) (cell_word about j) x 0 (λ e. ne (omega arith)) in
      let other : (j : ℕ) (d : CellName) → j ≢ k → slot_name about j ≡ Some d → d ≢ c = λ j d ne n e. ne (apart about j k c (n ∙ ap (λ y. Some y) e) named) in
      kept_with about s K id m at w (set s.words (cell_word about k) x) homes place
      (moved about s K id m at w location (set s.words (cell_word about k) x) homes place unit journal safe (length-set s.words (cell_word about k) x)
      (get_or-set_other s.words (cell_word about k) 0 x 0 (λ e. omega arith))
      (λ a l. subst (λ (n : ℕ). AreaOk n (λ y u. latched y a (put K.all m.place w u))) (sym (get_or-set_other s.words (cell_word about k) (area_word a) x 0 (λ e. omega arith)))
      (ok_same (get_or s.words (area_word a) 0) (λ y u. latched y a (K.all u)) (λ y u. latched y a (put K.all m.place w u))
      (λ y u. each_put (λ (u : ℕ) (z : SeatUnit). latched y a z ≡ latched y a (K.all u)) K.all m.place w (same y a ∙ sym (ap (λ (z : SeatUnit). latched y a z) (is_at_place about s K id m at))) (λ u ne. refl) u)
      (W.areas a l)))
      (λ j d n free. dite (ℕ_discrete j k)
      (λ e. let q : d ≡ c = let p : Some d ≡ Some c = sym n ∙ ap (slot_name about) e ∙ named in cc (p) in
      let z : x ≡ 0 = sym here ∙ ap (λ i. get_or (set s.words (cell_word about k) x) (cell_word about i) 0) (sym e) ∙ free in
      subst (λ (i : ℕ). AtHome location (get_elem? homes i) d) (sym e) (subst (λ (y : CellName). AtHome location (get_elem? homes k) y) (sym q) (home z)))
      (λ ne. let o = W.home j d n (sym (beside j ne) ∙ free) in record { value = o.value; is = rest j ne ∙ o.is; location_is = elsewhere d (other j d ne n) ∙ o.location_is }))
      (λ j d n busy. dite (ℕ_discrete j k)
      (λ e. let q : d ≡ c = let p : Some d ≡ Some c = sym n ∙ ap (slot_name about) e ∙ named in cc (p) in
      let word : get_or (set s.words (cell_word about k) x) (cell_word about j) 0 ≡ x = ap (λ i. get_or (set s.words (cell_word about k) x) (cell_word about i) 0) e ∙ here in
      ap location q ∙ out (λ z. busy (word ∙ z)) ∙ ap (λ n. HeldBy n) (sym word))
      (λ ne. elsewhere d (other j d ne n) ∙ W.out j d n (λ z. busy (beside j ne ∙ z)) ∙ ap (λ n. HeldBy n) (sym (beside j ne)))))

module _ (about : About) (id : ℕ) (m : SeatUnit) (slots : ℕ) (rest : List (ℕ × Option Cell)) where
  abbrev me : Sat
  me = (lone about m, rest)

  fewer : (k : ℕ) → 1 + area_count about + k - (1 + area_count about) ≡ k
  fewer k = omega arith

  abbrev GoesAt : ℕ → State (Option Cell) SeatKnowledge → ℕ → ℕ → ℕ → Type 0
  GoesAt b s k x found = (w : SeatKnowledge) × (a : Act (Option Cell)) × Valid s.homes rest a × LatchRule about (stepped s (cell_word about k) x id rest w a) × TakesAt b me found (w, carried_after rest a)

  -- kind 3
  pub takes_cell : (k new : ℕ) (c : CellName) (x : Statement) (g : List (Option Owner)) → slot_name about k ≡ Some c → fits about.schema.value x ≡ true
      → ((db : Database) → Agrees about.schema.value about.capacity db (hands_of m) m.unit → Take c ≡ need about.schema.value about.capacity db m.unit (record { areas = m.areas; cells = m.held; guesses = g }) x)
      → new ≡ suc m.place
      → Allows (LatchRule about) slots id me (cell_word about k) (λ n. either (eqb n 0) new n) (TakesCell (step slots (cell_word about k) 0 new none) me)
  takes_cell k new c x g named fit wanted is s K deep at bound =
      let told = cell_free_alone about s K id m at k in
      exchanged (get_or s.words (cell_word about k) 0) 0 new
      (λ n. GoesAt (1 + area_count about + k - (1 + area_count about)) s k n (get_or s.words (cell_word about k) 0))
      (λ hit. subst (λ (b : ℕ). GoesAt b s k new (get_or s.words (cell_word about k) 0)) (sym (fewer k))
      (let h = K.worded.home k c named hit in (
        lone about (with_cell c (bare (shown h.value)) m),
        takes k (Some h.value),
        h.is,
        kept hit,
        ((λ _. ((c, h.value, named, refl), tells_real about _ (kept hit) id (with_cell c (bare (shown h.value)) m) (there_here s.views id (lone about m) _ at))), (λ ne. absurd (ne hit)), told),
      )))
      (λ miss. subst (λ (b : ℕ). GoesAt b s k (get_or s.words (cell_word about k) 0) (get_or s.words (cell_word about k) 0)) (sym (fewer k))
      (lone about m, keeps, tt, still about s K id m at (cell_word about k) rest, ((λ hit. absurd (miss hit)), (λ _. refl), told)))
    where
      kept : (hit : get_or s.words (cell_word about k) 0 ≡ 0) → LatchRule about record { words = set s.words (cell_word about k) new; homes = set s.homes k none; views = set s.views id (lone about (with_cell c (bare (shown (K.worded.home k c named hit).value)) m)) }
      kept hit =
          let h = K.worded.home k c named hit in
          let my = mine about s K id m at in
          let l = laws about s K id m at in
          let w = with_cell c (bare (shown h.value)) m in
          let area : In ((net about).area c) (progress_of about m).areas = area_of_cell_held about K.worded.machine K.worded.lawful m.place m my x g c fit wanted l in
          let progress : ◌≡◌ {A = StatementProgress (net about)} (record { exclusive = m.exclusive; areas = reverse m.areas; cells = record { name = c; value = shown h.value } ∷ held_cells_of m.held; turning_back = false; ticket = None; linked = 0 }) (progress_of about w) =
          λ i. record { exclusive = m.exclusive; areas = reverse m.areas; cells = ((λ j. record { name = c; value = sym (shown_bare (shown h.value)) j } ∷ held_cells_of m.held) ∙ sym (held_behind m.held (c, bare (shown h.value)))) i; turning_back = false; ticket = None; linked = 0 } in
          cell_moved about s K id m at k new c w (relocated (net about) K.worded.machine.location c (HeldBy (suc m.place))) (set s.homes k none) named refl refl refl (λ y a. latched_held y a m _)
          (subst (λ (p : StatementProgress (net about)). SafeUpdate (net about) (opens about) K.worded.machine (suc m.place) (relocated (net about) K.worded.machine.location c (HeldBy (suc m.place))) (Some p)) progress
          (take_is_safe (net about) l (opens about) K.worded.machine (suc m.place) my.state (progress_of about m) c (shown h.value) K.worded.lawful my.found my.progress refl area h.location_is))
          (λ d ne. relocated_elsewhere (net about) l.names K.worded.machine.location c d (HeldBy (suc m.place)) ne)
          (λ j ne. set_else s.homes k j none ne)
          (λ z. absurd (let p = is in omega arith))
          (λ _. relocated_at (net about) l.names K.worded.machine.location c (HeldBy (suc m.place)) ∙ ap (λ n. HeldBy n) (sym is))

-- kind 5
pub puts_cell : (about : About) (id : ℕ) (m : SeatUnit) (slots zeros k : ℕ) (c : CellName) (x y : Cell) (es : List (CellName × Cell)) (rest : List (ℕ × Option Cell)) → m.held ≡ es ++ (c, y) ∷ [] → shown x ≡ shown y → slot_name about k ≡ Some c → zeros ≡ 0 → slots ≡ cells_of_table about
    → Allows (LatchRule about) slots id (lone about m, (k, Some x) ∷ rest) (cell_word about k) (λ n. bit_and n zeros) (PutsCell (step slots (cell_word about k) zeros 0 none) (lone about m, (k, Some x) ∷ rest))
unfolding held_cells
puts_cell about id m slots zeros k c x y es rest is value named zero_is size s K deep at bound = (
  lone about (less_cell m),
  gives,
  tt,
  subst (λ (w : SeatUnit). LatchRule about record { words = set s.words (cell_word about k) (bit_and (get_or s.words (cell_word about k) 0) zeros); homes = set s.homes k (some (Some x)); views = set s.views id (lone about w) }) same kept,
  refl,
)
  where
    left : SeatUnit
    left = record m { held = es }

    same : left ≡ less_cell m
    same = λ i. record m { held = (sym (init_more es (c, y)) ∙ ap init (sym is)) i }

    l : IsSequentialDatabase (net about)
    l = laws about s K id m at

    location : CellName → CellLocation CellValue
    location = relocated (net about) K.worded.machine.location c (Home (shown y))

    word : bit_and (get_or s.words (cell_word about k) 0) zeros ≡ 0
    word = and_zero (get_or s.words (cell_word about k) 0) zeros zero_is

    there : get_elem? (set s.homes k (some (Some x))) k ≡ some (some (Some x))
    there = set_here s.homes k (some (Some x)) (let h = slice_get_within _ k c named in omega arith)

    kept : LatchRule about record { words = set s.words (cell_word about k) (bit_and (get_or s.words (cell_word about k) 0) zeros); homes = set s.homes k (some (Some x)); views = set s.views id (lone about left) }
    kept =
        let my = mine about s K id m at in
        cell_moved about s K id m at k (bit_and (get_or s.words (cell_word about k) 0) zeros) c left location (set s.homes k (some (Some x))) named refl refl refl (λ y a. latched_held y a m _)
        (back_is_safe (net about) l (opens about) K.worded.machine (suc m.place) my.state (progress_of about m) (progress_of about left) (held_of (c, y)) K.worded.lawful my.found my.progress
        (ap held_cells_of is ∙ held_behind es (c, y)) refl refl refl)
        (λ d ne. relocated_elsewhere (net about) l.names K.worded.machine.location c d (Home (shown y)) ne)
        (λ j ne. set_else s.homes k j (some (Some x)) ne)
        (λ z. record { value = x; is = there; location_is = relocated_at (net about) l.names K.worded.machine.location c (Home (shown y)) ∙ ap (λ v. Home v) (sym value) })
        (λ ne. absurd (ne word))
