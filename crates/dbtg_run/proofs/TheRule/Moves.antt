-- The rule after a step of a seat that has one unit.
use Rattle.std.proofs.Common.{◌≡◌, ◌≢◌, ℕ, suc, ◌+◌, ◌<◌, ◌≤◌, eqb, Bool, true, false, ◌&&◌, ◌||◌, List, [], ◌∷◌, length, set, get_or, cond, Option, Some, inl, refl, sym, ap, ◌∙◌, subst, arith, length-set, get_or-set_other, get_or-set_same, eq-eqb, ne_eqb}
use Rattle.std.specs.Int.{bit_at}
use Rattle.std.specs.List.{list_any}
use Rattle.std.proofs.lemmas.List.{set-get_or}
use Rattle.std.proofs.lemmas.Nat.Bits.{bit_at_above, bit_at-zero}
use Rattle.std.proofs.lemmas.Option.{slice_get_within}
use mathlib.Core.Logic.{dite}
use mathlib.Core.Option.{some, none}
use mathlib.Core.Option as maybe
use native.Mathlib.Decide.{ℕ_discrete}
use lib.ListN.{get_elem?}
use Rattle.atomic_table.specs.Table.{State, keeps, stepped}
use Rattle.atomic_table.proofs.Lists.{set_again}
use Rattle.dbtg_cells.specs.declared.cell.Cell.{Cell}
use Rattle.dbtg_cells.specs.declared.name.CellName.{CellName}
use Rattle.dbtg_cells.specs.Shown.{CellValue}
use Rattle.dbtg_unit.specs.declared.limits.TheConstants.{MOST_STATEMENTS}
use Rattle.dbtg_unit.specs.declared.unit.Entry.{Entry}
use Rattle.dbtg_unit.specs.Database.Laws.Replay.{entries_of}
use Rattle.dbtg_step.specs.Inside.SequentialDatabase.{IsSequentialDatabase}
use Rattle.dbtg_step.specs.Machine.SequentialDatabase.{unit_at, with_unit_at}
use Rattle.dbtg_step.specs.Machine.Machine.{CellLocation, HeldBy, UnitState, State as Machine, held_areas, holds_exclusively}
use Rattle.dbtg_step.specs.Machine.Step.{any_other, conflicts, updated}
use Rattle.dbtg_step.proofs.Public.{SafeUpdate, any_reverse, network_is_sequential, safe_update_keeps, set_at, set_elsewhere}
use Rattle.dbtg_run.specs.declared.view.About.{About}
use Rattle.dbtg_run.specs.declared.view.SeatUnit.{SeatUnit}
use Rattle.dbtg_run.specs.declared.view.SeatKnowledge.{SeatKnowledge}
use Rattle.dbtg_run.specs.Inside.Views.{put, Sits, latched, times, one_if, lone}
use Rattle.dbtg_run.specs.Inside.LatchRule.{net, opens, area_count, area_word, cell_word, slot_name, progress_of, Shows, AreaOk, AtHome, TableShows, LatchRule, FreeAlone}
use Rattle.dbtg_run.proofs.TheRule.Base.{each_put, below_same, seats_changed}
use Rattle.dbtg_run.proofs.TheRule.Areas.{had, ok_same, free_word}
use Rattle.dbtg_run.proofs.TheRule.Machines.{others_none}

pub latched_none : (x : Bool) (a : ℕ) (m : SeatUnit) → m.areas ≡ [] → latched x a m ≡ 0
latched_none x a m e = by x m.exclusive (ap (times a) e)
  where
    both : (b : Bool) (n k : ℕ) → n ≡ 0 → k ≡ 0 → cond b n k ≡ 0
    both true n k e f = e
    both false n k e f = f

    by : (x b : Bool) → times a m.areas ≡ 0 → latched x a m ≡ 0
    by true b e = both m.exclusive (times a m.areas) 0 e refl
    by false b e = both m.exclusive 0 (times a m.areas) refl e

-- who has the area, where one member is another
pub latched_put : (x : Bool) (a : ℕ) (all : ℕ → SeatUnit) (k : ℕ) (w : SeatUnit) (v : ℕ) → latched x a (put all k w v) ≡ put (λ u. latched x a (all u)) k (latched x a w) v
latched_put x a all k w v = by (eqb v k)
  where
    by : (b : Bool) → latched x a (cond b w (all v)) ≡ cond b (latched x a w) (latched x a (all v))
    by true = refl
    by false = refl

not_any : (a : ℕ) (xs : List ℕ) → times a xs ≡ 0 → list_any (eqb a) xs ≡ false
not_any a [] e = refl
not_any a (x ∷ xs) e = dite (ℕ_discrete x a)
    (λ q. let o : one_if (eqb x a) ≡ 1 = ap one_if (eq-eqb x a q) in absurd (omega arith))
    (λ n. let z : one_if (eqb x a) ≡ 0 = ap one_if (ne_eqb x a n) in
    ap (λ b. b || list_any (eqb a) xs) (ne_eqb a x (λ q. n (sym q))) ∙ not_any a xs (omega arith))

module _ (about : About) (s : State (Option Cell) SeatKnowledge) (K : LatchRule about s) (id : ℕ) (m : SeatUnit) (at : get_elem? s.views id ≡ some (lone about m)) where
  pub laws : IsSequentialDatabase (net about)
  laws = network_is_sequential about.schema.value about.capacity K.sound

  pub sits : Sits about K.all K.seats.seat id m
  sits = K.seats.seated id (lone about m) m at (inl refl)

  pub is_at_place : K.all m.place ≡ m
  is_at_place = sym sits.same

  pub small : m.place < 8
  small = let i = sits.inside in let f = K.few in omega arith

  pub mine : Shows about K.worded.machine m.place m
  mine = subst (Shows about K.worded.machine m.place) is_at_place (K.worded.shows m.place sits.inside)

  abbrev pub next : (CellName → CellLocation CellValue) → SeatUnit → Machine (net about)
  next location w = updated (net about) K.worded.machine (suc m.place) mine.state location mine.state.guesses (Some (progress_of about w))

  -- the history stays
  pub moved : (w : SeatUnit) (location : CellName → CellLocation CellValue) (words : List ℕ) (homes : List (maybe.Option (Option Cell))) → w.place ≡ m.place → w.unit ≡ m.unit → w.journal ≡ m.journal
      → SafeUpdate (net about) (opens about) K.worded.machine (suc m.place) location (Some (progress_of about w))
      → length words ≡ length s.words → get_or words 0 0 ≡ get_or s.words 0 0
      → ((a : ℕ) → a < area_count about → AreaOk (get_or words (area_word a) 0) (λ x u. latched x a (put K.all m.place w u)))
      → ((k : ℕ) (c : CellName) → slot_name about k ≡ Some c → get_or words (cell_word about k) 0 ≡ 0 → AtHome location (get_elem? homes k) c)
      → ((k : ℕ) (c : CellName) → slot_name about k ≡ Some c → get_or words (cell_word about k) 0 ≢ 0 → location c ≡ HeldBy (get_or words (cell_word about k) 0))
      → TableShows about words homes (put K.all m.place w)
  unfolding updated with_unit_at
  moved w location words homes place unit journal safe wide counter areas home out =
      let W = K.worded in
      let new : UnitState (net about) = record { unit = mine.state.unit; guesses = mine.state.guesses; script = mine.state.script; remaining = mine.state.remaining; progress = Some (progress_of about w) } in
      record {
        log = W.log;
        machine = next location w;
        wide = wide ∙ W.wide;
        lawful = safe_update_keeps (net about) (opens about) W.machine (suc m.place) mine.state location mine.state.guesses (Some (progress_of about w)) W.lawful mine.found safe;
        history = W.history;
        fitting = W.fitting;
        counter = counter ∙ W.counter;
        count = length-set W.machine.units m.place new ∙ W.count;
        shows = each_put (λ (u : ℕ) (y : SeatUnit). u < about.units → Shows about (next location w) u y) K.all m.place w
            (λ l. record { state = new; found = set_at W.machine.units (suc m.place) mine.state new mine.found; unit = mine.unit ∙ sym unit; progress = refl })
            (λ u ne l. let o = W.shows u l in record { state = o.state; found = set_elsewhere W.machine.units (suc m.place) (suc u) new (λ q. ne (cc (q))) ∙ o.found; unit = o.unit; progress = o.progress });
        place = each_put (λ (u : ℕ) (y : SeatUnit). u < about.units → y.place ≡ u) K.all m.place w (λ l. place) (λ u ne l. W.place u l);
        journal = each_put (λ (u : ℕ) (y : SeatUnit). u < about.units → entries_of (suc u) W.log ≡ y.journal) K.all m.place w
            (λ l. W.journal m.place l ∙ (ap (λ (y : SeatUnit). y.journal) is_at_place ∙ sym journal)) (λ u ne l. W.journal u l);
        short = each_put (λ (u : ℕ) (y : SeatUnit). u < about.units → length y.journal ≤ MOST_STATEMENTS) K.all m.place w
            (λ l. subst (λ (j : List Entry). length j ≤ MOST_STATEMENTS) (ap (λ (y : SeatUnit). y.journal) is_at_place ∙ sym journal) (W.short m.place l)) (λ u ne l. W.short u l);
        none = each_put (λ (u : ℕ) (y : SeatUnit). about.units ≤ u → y.areas ≡ []) K.all m.place w (λ l. let k = sits.inside in absurd (omega arith)) (λ u ne l. W.none u l);
        entries = below_same (λ u. length (put K.all m.place w u).journal) (λ u. length (K.all u).journal) about.units
            (each_put (λ (u : ℕ) (y : SeatUnit). length y.journal ≡ length (K.all u).journal) K.all m.place w (ap (λ (j : List Entry). length j) journal ∙ sym (ap (λ (y : SeatUnit). length y.journal) is_at_place)) (λ u ne. refl)) ∙ W.entries;
        areas = areas;
        home = home;
        out = out;
      }

  pub kept_with : (w : SeatUnit) (words : List ℕ) (homes : List (maybe.Option (Option Cell))) → w.place ≡ m.place → TableShows about words homes (put K.all m.place w) → LatchRule about record { words = words; homes = homes; views = set s.views id (lone about w) }
  kept_with w words homes place worded = record { sound = K.sound; few = K.few; all = put K.all m.place w; seats = seats_changed about K.all s.views id m w at place K.seats; worded = worded }

  -- nothing changes
  pub still : (i : ℕ) (c : List (ℕ × Option Cell)) → LatchRule about (stepped s i (get_or s.words i 0) id c (lone about m) keeps)
  still i c = subst (LatchRule about) (λ j. record { words = sym (set-get_or s.words i 0) j; homes = s.homes; views = sym (set_again s.views id (lone about m) at) j }) K

  -- a step on the word of the area a, after which the unit has other areas
  pub area_moved : (a x : ℕ) (w : SeatUnit) → a < area_count about → w.place ≡ m.place → w.unit ≡ m.unit → w.journal ≡ m.journal
      → SafeUpdate (net about) (opens about) K.worded.machine (suc m.place) K.worded.machine.location (Some (progress_of about w))
      → ((b : ℕ) (y : Bool) → b ≢ a → latched y b w ≡ latched y b m)
      → AreaOk x (had (λ y u. latched y a (K.all u)) m.place (λ y. latched y a w))
      → LatchRule about record { words = set s.words (area_word a) x; homes = s.homes; views = set s.views id (lone about w) }
  area_moved a x w inside place unit journal safe others ok =
      let W = K.worded in
      let beside : (k : ℕ) → get_or (set s.words (area_word a) x) (cell_word about k) 0 ≡ get_or s.words (cell_word about k) 0 = λ k. get_or-set_other s.words (area_word a) (cell_word about k) x 0 (λ e. omega arith) in
      kept_with w (set s.words (area_word a) x) s.homes place
      (moved w W.machine.location (set s.words (area_word a) x) s.homes place unit journal safe (length-set s.words (area_word a) x)
      (get_or-set_other s.words (area_word a) 0 x 0 (λ e. omega arith))
      (λ b l. dite (ℕ_discrete b a)
      (λ e. subst (λ (b : ℕ). AreaOk (get_or (set s.words (area_word a) x) (area_word b) 0) (λ y u. latched y b (put K.all m.place w u))) (sym e)
      (subst (λ (n : ℕ). AreaOk n (λ y u. latched y a (put K.all m.place w u))) (sym (get_or-set_same s.words (area_word a) x 0 (let w = W.wide in omega arith)))
      (ok_same x (had (λ y u. latched y a (K.all u)) m.place (λ y. latched y a w)) (λ y u. latched y a (put K.all m.place w u)) (λ y u. latched_put y a K.all m.place w u) ok)))
      (λ ne. subst (λ (n : ℕ). AreaOk n (λ y u. latched y b (put K.all m.place w u))) (sym (get_or-set_other s.words (area_word a) (area_word b) x 0 (λ e. ne (omega arith))))
      (ok_same (get_or s.words (area_word b) 0) (λ y u. latched y b (K.all u)) (λ y u. latched y b (put K.all m.place w u))
      (λ y u. each_put (λ (u : ℕ) (z : SeatUnit). latched y b z ≡ latched y b (K.all u)) K.all m.place w (others b y ne ∙ sym (ap (λ (z : SeatUnit). latched y b z) is_at_place)) (λ u ne. refl) u)
      (W.areas b l))))
      (λ k c named free. W.home k c named (sym (beside k) ∙ free))
      (λ k c named busy. W.out k c named (λ z. busy (beside k ∙ z)) ∙ ap (λ n. HeldBy n) (sym (beside k))))

  -- in a database of one unit
  pub free_alone : (a : ℕ) → a < area_count about → FreeAlone a (lone about m) (get_or s.words (area_word a) 0)
  free_alone a l y is one shared alone =
      let zero_is : m.place ≡ 0 = let i = sits.inside in omega arith in
      let here : K.all 0 ≡ y = ap K.all (sym zero_is) ∙ is_at_place ∙ heads m y is in
      free_word (get_or s.words (area_word a) 0) (λ x u. latched x a (K.all u))
      (λ x u b. dite (ℕ_discrete u 0)
      (λ e. ap (λ v. latched x a (K.all v)) e ∙ ap (λ (z : SeatUnit). latched x a z) here ∙ which x shared alone)
      (λ ne. latched_none x a (K.all u) (K.worded.none u (omega arith))))
      (K.worded.areas a l)
    where
      heads : (p q : SeatUnit) → p ∷ [] ≡ q ∷ [] → p ≡ q
      heads p q e = cc (e)

      which : (x : Bool) → latched false a y ≡ 0 → latched true a y ≡ 0 → latched x a y ≡ 0
      which true f t = t
      which false f t = f

  -- nobody else has the area in a way that conflicts
  pub nobody : (x : Bool) (a : ℕ) → ((u : ℕ) → u < about.units → u ≢ m.place → (list_any (eqb a) (K.all u).areas && (x || (K.all u).exclusive)) ≡ false) → any_other (conflicts (net about) x a) (suc m.place) K.worded.machine.units ≡ false
  unfolding conflicts unit_at held_areas holds_exclusively
  nobody x a h = others_none (conflicts (net about) x a) m.place K.worded.machine.units (λ i b ne e.
      let l : i < about.units = let k = slice_get_within K.worded.machine.units i b e in let c = K.worded.count in omega arith in
      let sh = K.worded.shows i l in
      let same : sh.state ≡ b = let p : Some sh.state ≡ Some b = sym sh.found ∙ e in cc (p) in
      let pr : b.progress ≡ Some (progress_of about (K.all i)) = ap (λ (z : UnitState (net about)). z.progress) (sym same) ∙ sh.progress in
      ap (λ o. list_any (eqb a) (held_areas (net about) o) && (x || holds_exclusively (net about) o)) pr
      ∙ ap (λ b. b && (x || (K.all i).exclusive)) (any_reverse (eqb a) (K.all i).areas) ∙ h i l ne)

  pub nobody_shared : (a word : ℕ) → a < area_count about → get_or s.words (area_word a) 0 ≡ word → word < 256 → any_other (conflicts (net about) false a) (suc m.place) K.worded.machine.units ≡ false
  nobody_shared a word l e small = nobody false a (λ u b ne. by (K.all u).exclusive refl (none_alone u b))
    where
      none_alone : (u : ℕ) → u < about.units → latched true a (K.all u) ≡ 0
      none_alone u b = let ok = K.worded.areas a l in let f = K.few in
          sym (ok.alone u (omega arith)) ∙ bit_at_above (get_or s.words (area_word a) 0) 8 (8 + u) (omega arith) (omega arith)

      by : {u : ℕ} (b : Bool) → (K.all u).exclusive ≡ b → latched true a (K.all u) ≡ 0 → (list_any (eqb a) (K.all u).areas && (false || (K.all u).exclusive)) ≡ false
      by {u} true q z = ap (λ b. b && (K.all u).exclusive) (not_any a (K.all u).areas (sym (ap (λ b. cond b (times a (K.all u).areas) 0) q) ∙ z))
      by {u} false q z = ap (λ b. list_any (eqb a) (K.all u).areas && b) q ∙ off (list_any (eqb a) (K.all u).areas)
        where
          off : (b : Bool) → (b && false) ≡ false
          off true = refl
          off false = refl

  pub nobody_alone : (a : ℕ) → a < area_count about → get_or s.words (area_word a) 0 ≡ 0 → any_other (conflicts (net about) true a) (suc m.place) K.worded.machine.units ≡ false
  nobody_alone a l e = nobody true a (λ u b ne. ap (λ b. b && true) (not_any a (K.all u).areas (by (K.all u).exclusive refl (no false u b) (no true u b))))
    where
      no : (x : Bool) (u : ℕ) → u < about.units → latched x a (K.all u) ≡ 0
      no true u b = let ok = K.worded.areas a l in let f = K.few in sym (ok.alone u (omega arith)) ∙ ap (λ n. bit_at n (8 + u)) e ∙ bit_at-zero (8 + u)
      no false u b = let ok = K.worded.areas a l in let f = K.few in sym (ok.shared u (omega arith)) ∙ ap (λ n. bit_at n u) e ∙ bit_at-zero u

      by : {u : ℕ} (b : Bool) → (K.all u).exclusive ≡ b → latched false a (K.all u) ≡ 0 → latched true a (K.all u) ≡ 0 → times a (K.all u).areas ≡ 0
      by {u} true q f t = sym (ap (λ b. cond b (times a (K.all u).areas) 0) q) ∙ t
      by {u} false q f t = sym (ap (λ b. cond b 0 (times a (K.all u).areas)) q) ∙ f
