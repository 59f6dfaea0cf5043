-- The steps, at a seat and a key that are known by equations; and what is held with one cell less.
use Rattle.std.proofs.Common.{◌≡◌, ◌⊎◌, ◌||◌, cond, ℕ, suc, ◌-◌, ◌+◌, ◌*◌, ◌%◌, ◌^◌, ◌<◌, arith, Bool, true, false, not, ◌&&◌, List, [], ◌∷◌, ◌++◌, map, reverse, Option, Some, None, refl, sym, ap, ◌∙◌, subst}
use Rattle.std.specs.Int.{bit_not, w64}
use Rattle.std.specs.Int.RustNames.{bit_and, bit_or}
use Rattle.std.proofs.lemmas.Nat.{one_shl}
use Rattle.std.specs.Prelude.{◌==◌, unwrap_or}
use prog.Atomic.{either}
use mathlib.Core.Option.{none}
use Rattle.atomic_table.specs.Table.{step, Allows, rest}
use Rattle.dbtg_schema.specs.Lists.{Lists}
use Rattle.dbtg_cells.specs.declared.cell.Cell.{Cell}
use Rattle.dbtg_cells.specs.declared.cell.Cell.TheVariants.{Slot as SlotCell}
use Rattle.dbtg_cells.specs.CellNumbers.{cell_number}
use Rattle.dbtg_cells.specs.declared.name.CellName.{CellName}
use Rattle.dbtg_cells.specs.Cells.{shown}
use Rattle.dbtg_unit.specs.declared.unit.Entry.{Entry}
use Rattle.dbtg_unit.specs.declared.unit.Unit.{Unit}
use Rattle.dbtg_unit.specs.Database.State.Base.{Database}
use Rattle.dbtg_unit.specs.Hands.Hands.{Hands, cell_of}
use Rattle.dbtg_unit.specs.Database.State.Legal.{pairwise}
use Rattle.std.specs.List.{list_all, list_any}
use Rattle.std.proofs.lemmas.Bool.{and_parts}
use Rattle.dbtg_cells.specs.Names.{name_eq}
use Rattle.dbtg_cells.specs.Shown.{CellValue}
use Rattle.dbtg_cells.proofs.Public.{reverse_more}
use Rattle.dbtg_unit.specs.declared.held.Need.TheVariants.{Take}
use Rattle.dbtg_unit.specs.declared.statement.Statement.{Statement}
use Rattle.dbtg_unit.specs.Database.Statements.Fits.{fits}
use Rattle.dbtg_unit.specs.Hands.Local.{Agrees, AllAgree, holds}
use Rattle.dbtg_unit.specs.Hands.Needs.{need}
use Rattle.dbtg_step.specs.Machine.SequentialDatabase.{HeldCell}
use Rattle.dbtg_step.specs.Machine.Network.{holding}
use Rattle.dbtg_step.specs.Core.Parts.{held_of}
use Rattle.dbtg_step.proofs.Public.{need_of_holding}
use Rattle.dbtg_run.specs.declared.view.About.{About}
use Rattle.dbtg_run.specs.declared.view.SeatUnit.{SeatUnit}
use Rattle.dbtg_run.specs.declared.view.SeatKnowledge.{SeatKnowledge}
use Rattle.dbtg_run.specs.Inside.Views.{lone, latched, times, bare, bared, with_cell}
use Rattle.dbtg_run.specs.Inside.LatchRule.{Sat, LatchRule, area_count, area_word, LooksAtArea, TakesArea, TakesCell, FreeAlone, CellFreeAlone, TookAt, slot_of_word, PutsCell, LeavesArea, IsReal, TellsReal, hands_of, cells_of_table, cell_word, slot_name}
use Rattle.dbtg_run.specs.Inside.Posed.{posed, member_of, empty_slot, empty_slots}
use Rattle.dbtg_run.proofs.TheRule.Facts.{bared_more, shown_bare}
use Rattle.dbtg_run.proofs.TheRule.CellSteps.{puts_cell, takes_cell}
use Rattle.dbtg_run.proofs.TheRule.Steps.{leaves_area, looks_at_area, takes_area_alone, takes_area_shared}

-- the slot of the cell that was taken last is in front
pub slots_more : (about : About) (es : List (CellName × Cell)) (e : CellName × Cell) → empty_slots about (es ++ e ∷ []) ≡ empty_slot about e ∷ empty_slots about es
slots_more about es e = ap reverse (go es) ∙ reverse_more (map (empty_slot about) es) (empty_slot about e)
  where
    go : (es : List (CellName × Cell)) → map (empty_slot about) (es ++ e ∷ []) ≡ map (empty_slot about) es ++ empty_slot about e ∷ []
    go [] = refl
    go (x ∷ xs) = ap (λ ys. empty_slot about x ∷ ys) (go xs)

pub puts_as : (key about : About) (id slots zeros k word : ℕ) (me : Sat) (m : SeatUnit) (c : CellName) (x : Cell) (es : List (CellName × Cell)) (slots_left : List (ℕ × Option Cell)) → key ≡ about → me ≡ (lone about m, (k, Some x) ∷ slots_left) → m.held ≡ bared (es ++ (c, x) ∷ []) → slot_name about k ≡ Some c → zeros ≡ 0 → slots ≡ cells_of_table about → word ≡ cell_word about k
    → Allows (LatchRule key) slots id me word (λ n. bit_and n zeros) (PutsCell (step slots word zeros 0 none) me)
puts_as key about id slots zeros k word me m c x es slots_left known is held named z size at =
    subst (λ (t : About × (Sat × ℕ)). Allows (LatchRule t.0) slots id t.1.0 t.1.1 (λ n. bit_and n zeros) (PutsCell (step slots t.1.1 zeros 0 none) t.1.0)) (λ i. (sym known i, (sym is i, sym at i)))
    (puts_cell about id m slots zeros k c x (bare (shown x)) (bared es) slots_left (held ∙ bared_more es (c, x)) (sym (shown_bare (shown x))) named z size)

front_agrees : (schema : Lists) (capacity : ℕ) (db : Database) (es fs : List (CellName × Cell)) → AllAgree schema capacity db (es ++ fs) → AllAgree schema capacity db es
front_agrees schema capacity db [] fs a = tt
front_agrees schema capacity db (e ∷ es) fs a = (a.0, front_agrees schema capacity db es fs a.1)

pub front_all : {X : Type 0} (p : X → Bool) (xs ys : List X) → list_all p (xs ++ ys) ≡ true → list_all p xs ≡ true
front_all p [] ys e = refl
front_all p (x ∷ xs) ys e = let h = and_parts (p x) (list_all p (xs ++ ys)) e in λ i. h.0 i && front_all p xs ys h.1 i

pub last_all : {X : Type 0} (p : X → Bool) (xs : List X) (x : X) → list_all p (xs ++ x ∷ []) ≡ true → p x ≡ true
last_all p [] x e = (and_parts (p x) true e).0
last_all p (y ∷ xs) x e = last_all p xs x (and_parts (p y) (list_all p (xs ++ x ∷ [])) e).1

pub all_more : {X : Type 0} (p : X → Bool) (xs : List X) (x : X) → list_all p xs ≡ true → p x ≡ true → list_all p (xs ++ x ∷ []) ≡ true
all_more p [] x e h = λ i. h i && true
all_more p (y ∷ xs) x e h = let b = and_parts (p y) (list_all p xs) e in λ i. b.0 i && all_more p xs x b.1 h i

front_once : (es fs : List (CellName × Cell)) → pairwise (λ (e f : CellName × Cell). not (name_eq e.0 f.0)) (es ++ fs) ≡ true → pairwise (λ (e f : CellName × Cell). not (name_eq e.0 f.0)) es ≡ true
front_once [] fs h = refl
front_once (e ∷ es) fs h =
    let b = and_parts (list_all (λ (f : CellName × Cell). not (name_eq e.0 f.0)) (es ++ fs)) (pairwise (λ (e f : CellName × Cell). not (name_eq e.0 f.0)) (es ++ fs)) h in
    λ i. front_all (λ (f : CellName × Cell). not (name_eq e.0 f.0)) es fs b.0 i && front_once es fs b.1 i

front_cell : (c : CellName) (es fs : List (CellName × Cell)) (x : Cell) → cell_of c es ≡ Some x → cell_of c (es ++ fs) ≡ Some x
front_cell c [] fs x e = absurd (cc (e))
front_cell c (y ∷ ys) fs x e = by (name_eq c y.0) e (front_cell c ys fs x)
  where
    by : (b : Bool) → cond b (Some y.1) (cell_of c ys) ≡ Some x → (cell_of c ys ≡ Some x → cell_of c (ys ++ fs) ≡ Some x) → cond b (Some y.1) (cell_of c (ys ++ fs)) ≡ Some x
    by true e rest = e
    by false e rest = rest e

-- with a cell less
pub real_less : (about : About) (unit : Unit) (journal : List Entry) (old new : Hands) (es : List (CellName × Cell)) → old.cells ≡ new.cells ++ es → IsReal about unit journal old → IsReal about unit journal new
real_less about unit journal old new es is r = record {
  db = r.db;
  agrees = record {
    legal = r.agrees.legal;
    cells = front_agrees about.schema.value about.capacity r.db new.cells es (subst (AllAgree about.schema.value about.capacity r.db) is r.agrees.cells);
    usage = r.agrees.usage;
  };
  alone = r.alone;
  once = front_once new.cells es (ap (pairwise (λ (e f : CellName × Cell). not (name_eq e.0 f.0))) (sym is) ∙ r.once);
  versions = λ c stored e. r.versions c stored (ap (cell_of c) is ∙ front_cell c new.cells es (SlotCell (Some stored)) e);
}

-- the slot in front has another value
pub pushed : (about : About) (unit : Unit) (journal : List Entry) (exclusive : Bool) (hands : Hands) (es : List (CellName × Cell)) (e : CellName × Cell) (k : ℕ) (new : Option Cell) (me after : Sat) → me ≡ posed about unit journal exclusive hands → hands.cells ≡ es ++ e ∷ [] → after ≡ (me.0, (k, new) ∷ rest me.1)
    → after ≡ (lone about (member_of unit journal exclusive hands), (k, new) ∷ empty_slots about es)
pushed about unit journal exclusive hands es e k new me after is cells then =
    then ∙ ((λ i. let y : Sat = ((is i).0, (k, new) ∷ rest (is i).1) in y)
    ∙ (λ i. let y : Sat = (lone about (member_of unit journal exclusive hands), (k, new) ∷ rest ((ap (empty_slots about) cells ∙ slots_more about es e) i)) in y))

-- AREAS

module _ (key about : About) (id slots word : ℕ) (me : Sat) (m : SeatUnit) (left : List (ℕ × Option Cell)) (a : ℕ) (known : key ≡ about) (is : me ≡ (lone about m, left)) (inside : a < area_count about) (at : word ≡ area_word a) where
  pub looks_as : Allows (LatchRule key) slots id me word (λ n. n) (LooksAtArea (step slots word 0 0 none) me)
  looks_as = subst (λ (t : About × (Sat × ℕ)). Allows (LatchRule t.0) slots id t.1.0 t.1.1 (λ n. n) (LooksAtArea (step slots t.1.1 0 0 none) t.1.0)) (λ i. (sym known i, (sym is i, sym at i)))
      (looks_at_area about id m slots left a inside)

  pub alone_as : (new : ℕ) → (m.areas ≡ []) ⊎ (m.exclusive ≡ true) → times a m.areas ≡ 0 → m.place < 8 → new ≡ 1 * 2 ^ (8 + m.place) % 2 ^ 64
      → Allows (LatchRule key) slots id me word (λ n. either (n == 0) new n) (TakesArea true (step slots word 0 new none) me)
  alone_as new how none_held small n = subst (λ (t : About × (Sat × ℕ)). Allows (LatchRule t.0) slots id t.1.0 t.1.1 (λ n. either (n == 0) new n) (TakesArea true (step slots t.1.1 0 new none) t.1.0)) (λ i. (sym known i, (sym is i, sym at i)))
      (takes_area_alone about id m slots left a new inside how none_held (n ∙ one_shl (8 + m.place) 64 (omega arith)))

  pub shared_as : (old new : ℕ) → old < 256 → (m.areas ≡ []) ⊎ (m.exclusive ≡ false) → times a m.areas ≡ 0 → m.place < 8 → new ≡ bit_or old (1 * 2 ^ m.place % 2 ^ 64)
      → Allows (LatchRule key) slots id me word (λ n. either (n == old) new n) (TakesArea false (step slots word old new none) me)
  shared_as old new free how none_held small n = subst (λ (t : About × (Sat × ℕ)). Allows (LatchRule t.0) slots id t.1.0 t.1.1 (λ n. either (n == old) new n) (TakesArea false (step slots t.1.1 old new none) t.1.0)) (λ i. (sym known i, (sym is i, sym at i)))
      (takes_area_shared about id m slots left a old new inside free how none_held (n ∙ ap (bit_or old) (one_shl m.place 64 (omega arith))))

-- CELLS

agree_unbared : (schema : Lists) (capacity : ℕ) (db : Database) (es : List (CellName × Cell)) → AllAgree schema capacity db (bared es) → AllAgree schema capacity db es
agree_unbared schema capacity db [] a = tt
agree_unbared schema capacity db (e ∷ es) a = (sym (shown_bare (shown e.1)) ∙ a.0, agree_unbared schema capacity db es a.1)

once_bared : (es : List (CellName × Cell)) → pairwise (λ (e f : CellName × Cell). not (name_eq e.0 f.0)) (bared es) ≡ pairwise (λ (e f : CellName × Cell). not (name_eq e.0 f.0)) es
once_bared [] = refl
once_bared (e ∷ es) = λ i. others es i && once_bared es i
  where
    others : (ds : List (CellName × Cell)) → list_all (λ (f : CellName × Cell). not (name_eq e.0 f.0)) (bared ds) ≡ list_all (λ (f : CellName × Cell). not (name_eq e.0 f.0)) ds
    others [] = refl
    others (d ∷ ds) = ap (λ b. not (name_eq e.0 d.0) && b) (others ds)

cell_bared : (c : CellName) (es : List (CellName × Cell)) (x : Cell) → cell_of c es ≡ Some x → cell_of c (bared es) ≡ Some (bare (shown x))
cell_bared c [] x e = absurd (cc (e))
cell_bared c (y ∷ ys) x e = by (name_eq c y.0) e (cell_bared c ys x)
  where
    by : (b : Bool) → cond b (Some y.1) (cell_of c ys) ≡ Some x → (cell_of c ys ≡ Some x → cell_of c (bared ys) ≡ Some (bare (shown x))) → cond b (Some (bare (shown y.1))) (cell_of c (bared ys)) ≡ Some (bare (shown x))
    by true e rest = let same : y.1 ≡ x = cc (e) in ap (λ (z : Cell). Some (bare (shown z))) same
    by false e rest = rest e

-- what is real of cells without room is real of the cells
pub real_bared : (about : About) (unit : Unit) (journal : List Entry) (told hands : Hands) → told.cells ≡ bared hands.cells → IsReal about unit journal told → IsReal about unit journal hands
real_bared about unit journal told hands is r = record {
  db = r.db;
  agrees = record {
    legal = r.agrees.legal;
    cells = agree_unbared about.schema.value about.capacity r.db hands.cells (subst (AllAgree about.schema.value about.capacity r.db) is r.agrees.cells);
    usage = r.agrees.usage;
  };
  alone = r.alone;
  once = sym (ap (pairwise (λ (e f : CellName × Cell). not (name_eq e.0 f.0))) is ∙ once_bared hands.cells) ∙ r.once;
  versions = λ c stored e. r.versions c stored (ap (cell_of c) is ∙ cell_bared c hands.cells (SlotCell (Some stored)) e);
}

held_bared : (es : List (CellName × Cell)) → map held_of (bared es) ≡ map held_of es
held_bared [] = refl
held_bared (e ∷ es) = λ i. record { name = e.0; value = shown_bare (shown e.1) i } ∷ held_bared es i

-- a need does not see room
pub need_bared : (schema : Lists) (capacity : ℕ) (db : Database) (unit : Unit) (x : Statement) (hands : Hands) → need schema capacity db unit hands x ≡ need schema capacity db unit (record { areas = hands.areas; cells = bared hands.cells; guesses = hands.guesses }) x
need_bared schema capacity db unit x hands =
    sym (need_of_holding schema capacity db unit x hands)
    ∙ ap (λ (l : List (HeldCell CellName CellValue)). need schema capacity db unit (holding hands.guesses (reverse hands.areas) (reverse l)) x) (sym (held_bared hands.cells))
    ∙ need_of_holding schema capacity db unit x (record { areas = hands.areas; cells = bared hands.cells; guesses = hands.guesses })

pub takes_as : (key about : About) (id slots word k new : ℕ) (me : Sat) (unit : Unit) (journal : List Entry) (exclusive : Bool) (hands : Hands) (c : CellName) (x : Statement) → key ≡ about → me ≡ posed about unit journal exclusive hands → slot_name about k ≡ Some c → fits about.schema.value x ≡ true
    → ((db : Database) → Agrees about.schema.value about.capacity db hands unit → Take c ≡ need about.schema.value about.capacity db unit hands x)
    → new ≡ suc (unit.number - 1) → word ≡ cell_word about k
    → Allows (LatchRule key) slots id me word (λ n. either (n == 0) new n) (TakesCell (step slots word 0 new none) me)
takes_as key about id slots word k new me unit journal exclusive hands c x known is named fit wanted n at =
    subst (λ (t : About × (Sat × ℕ)). Allows (LatchRule t.0) slots id t.1.0 t.1.1 (λ n. either (n == 0) new n) (TakesCell (step slots t.1.1 0 new none) t.1.0)) (λ i. (sym known i, (sym is i, sym at i)))
    (takes_cell about id (member_of unit journal exclusive hands) slots (empty_slots about hands.cells) k new c x hands.guesses named fit
    (λ db a. wanted db (record { legal = a.legal; cells = agree_unbared about.schema.value about.capacity db hands.cells a.cells; usage = a.usage }) ∙ need_bared about.schema.value about.capacity db unit x hands) n)

-- what a taken cell leaves, at a seat that is known by an equation
pub took_as : (about : About) (k word : ℕ) (me after : Sat) (unit : Unit) (journal : List Entry) (exclusive : Bool) (hands : Hands) (c : CellName) → me ≡ posed about unit journal exclusive hands → word ≡ cell_word about k → slot_name about k ≡ Some c → TookAt (slot_of_word me.0 word) me after
    → (x : Cell) × (after ≡ (lone about (with_cell c (bare (shown x)) (member_of unit journal exclusive hands)), (k, Some x) ∷ empty_slots about hands.cells))
took_as about k word me after unit journal exclusive hands c is at named took =
    let fewer : 1 + area_count about + k - (1 + area_count about) ≡ k = omega arith in
    let index : slot_of_word me.0 word ≡ k = ap (λ (y : Sat). slot_of_word y.0 word) is ∙ ap (λ (n : ℕ). n - (1 + area_count about)) at ∙ fewer in
    let t : TookAt k (posed about unit journal exclusive hands) after = subst (λ (p : Sat × ℕ). TookAt p.1 p.0 after) (λ i. (is i, index i)) took in
    let same : t.0 ≡ c = let p : Some t.0 ≡ Some c = sym t.2 ∙ named in cc (p) in
    (t.1, t.3 ∙ (λ i. let y : Sat = (lone about (with_cell (same i) (bare (shown t.1)) (member_of unit journal exclusive hands)), (k, Some t.1) ∷ empty_slots about hands.cells) in y))

abbrev first_slot : List (ℕ × Option Cell) → Option Cell
first_slot [] = None
first_slot (e ∷ es) = e.1

-- the same, by the cell that was read in the slot
pub took_it : (about : About) (k word : ℕ) (me after : Sat) (unit : Unit) (journal : List Entry) (exclusive : Bool) (hands : Hands) (c : CellName) (o : Option Cell) (y : Cell) → me ≡ posed about unit journal exclusive hands → word ≡ cell_word about k → slot_name about k ≡ Some c → TookAt (slot_of_word me.0 word) me after
    → after.1 ≡ (k, o) ∷ rest after.1 → o ≡ Some y
    → after ≡ (lone about (with_cell c (bare (shown y)) (member_of unit journal exclusive hands)), (k, Some y) ∷ empty_slots about hands.cells)
took_it about k word me after unit journal exclusive hands c o y is at named took was read =
    let t = took_as about k word me after unit journal exclusive hands c is at named took in
    let p : Some t.0 ≡ Some y = ap (λ (z : Sat). first_slot z.1) (sym t.1) ∙ (ap first_slot was ∙ read) in
    let same : t.0 ≡ y = cc (p) in
    t.1 ∙ (λ i. let z : Sat = (lone about (with_cell c (bare (shown (same i))) (member_of unit journal exclusive hands)), (k, Some (same i)) ∷ empty_slots about hands.cells) in z)

-- the cell of slot k was taken
pub taken_as : (about : About) (k : ℕ) (me after : Sat) (unit : Unit) (journal : List Entry) (exclusive : Bool) (old new : Hands) (c : CellName) (x : Cell)
    → me ≡ (lone about (with_cell c (bare (shown x)) (member_of unit journal exclusive old)), (k, Some x) ∷ empty_slots about old.cells) → after ≡ (me.0, (k, None) ∷ rest me.1) → new ≡ record old { cells = old.cells ++ (c, x) ∷ [] } → cell_number about.schema.value about.capacity c ≡ Some k
    → after ≡ posed about unit journal exclusive new
taken_as about k me after unit journal exclusive old new c x is then held named =
    then
    ∙ ((λ i. let y : Sat = ((is i).0, (k, None) ∷ rest (is i).1) in y)
    ∙ ((λ i. let y : Sat = (lone about (record (member_of unit journal exclusive old) { held = sym (bared_more old.cells (c, x)) i }), front i) in y)
    ∙ ap (posed about unit journal exclusive) (sym held)))
  where
    front : ◌≡◌ {A = List (ℕ × Option Cell)} ((k, None) ∷ empty_slots about old.cells) (empty_slots about (old.cells ++ (c, x) ∷ []))
    front = ap (λ (o : Option ℕ). let l : List (ℕ × Option Cell) = (unwrap_or o 0, None) ∷ empty_slots about old.cells in l) (sym named) ∙ sym (slots_more about old.cells (c, x))

-- and what is then held is real
pub real_taken : (about : About) (me : Sat) (l : List (ℕ × Option Cell)) (unit : Unit) (journal : List Entry) (exclusive : Bool) (old new : Hands) (c : CellName) (x : Cell)
    → me ≡ (lone about (with_cell c (bare (shown x)) (member_of unit journal exclusive old)), l) → TellsReal me.0 → new ≡ record old { cells = old.cells ++ (c, x) ∷ [] } → IsReal about unit journal new
real_taken about me l unit journal exclusive old new c x is tells held =
    let t : TellsReal (lone about (with_cell c (bare (shown x)) (member_of unit journal exclusive old))) = subst (λ (y : Sat). TellsReal y.0) is tells in
    real_bared about unit journal (hands_of (with_cell c (bare (shown x)) (member_of unit journal exclusive old))) new
    (sym (bared_more old.cells (c, x)) ∙ ap (λ (h : Hands). bared h.cells) (sym held))
    (t (with_cell c (bare (shown x)) (member_of unit journal exclusive old)) refl)

-- the slot was emptied and has a cell again
pub again_as : (v : SeatKnowledge) (l : List (ℕ × Option Cell)) (one two three : Sat) (k : ℕ) (o p q : Option Cell) → one ≡ (v, (k, o) ∷ l) → two ≡ (one.0, (k, p) ∷ rest one.1) → three ≡ (two.0, (k, q) ∷ rest two.1) → three ≡ (v, (k, q) ∷ l)
again_as v l one two three k o p q first second third =
    third
    ∙ ((λ i. let y : Sat = ((second i).0, (k, q) ∷ rest (second i).1) in y)
    ∙ (λ i. let y : Sat = ((first i).0, (k, q) ∷ rest (first i).1) in y))

pub slot_asks : (v : SeatKnowledge) (l : List (ℕ × Option Cell)) (me : Sat) (k : ℕ) (y : Option Cell) → me ≡ (v, (k, y) ∷ l) → (old : Option Cell) × (me.1 ≡ (k, old) ∷ rest me.1)
slot_asks v l me k y is = (y, ap (λ (z : Sat). z.1) is ∙ ap (λ (z : List (ℕ × Option Cell)). (k, y) ∷ z) (sym (ap (λ (z : Sat). rest z.1) is)))

not_bared : (es : List (CellName × Cell)) (c : CellName) → list_any (λ (e : CellName × Cell). name_eq c e.0) es ≡ holds (bared es) c
not_bared [] c = refl
not_bared (e ∷ es) c = by (name_eq c e.0) (not_bared es c)
  where
    by : (b : Bool) → list_any (λ (e : CellName × Cell). name_eq c e.0) es ≡ holds (bared es) c → (b || list_any (λ (e : CellName × Cell). name_eq c e.0) es) ≡ cond b true (holds (bared es) c)
    by true h = refl
    by false h = h

-- in a database of one unit a cell that is not held is free
pub cell_free_as : (about : About) (k word found : ℕ) (me : Sat) (unit : Unit) (journal : List Entry) (exclusive : Bool) (hands : Hands) (c : CellName) → me ≡ posed about unit journal exclusive hands → word ≡ cell_word about k → slot_name about k ≡ Some c → CellFreeAlone (slot_of_word me.0 word) me.0 found → about.units ≡ 1 → list_any (λ (e : CellName × Cell). name_eq c e.0) hands.cells ≡ false → found ≡ 0
cell_free_as about k word found me unit journal exclusive hands c is at named free one none_held =
    let fewer : 1 + area_count about + k - (1 + area_count about) ≡ k = omega arith in
    let index : slot_of_word me.0 word ≡ k = ap (λ (y : Sat). slot_of_word y.0 word) is ∙ ap (λ (n : ℕ). n - (1 + area_count about)) at ∙ fewer in
    let t : CellFreeAlone k (lone about (member_of unit journal exclusive hands)) found = subst (λ (p : Sat × ℕ). CellFreeAlone p.1 p.0.0 found) (λ i. (is i, index i)) free in
    t (member_of unit journal exclusive hands) c refl one named (sym (not_bared hands.cells c) ∙ none_held)

-- and an area that is not held
pub free_as : (about : About) (a word found : ℕ) (me : Sat) (m : SeatUnit) (l : List (ℕ × Option Cell)) → me ≡ (lone about m, l) → word ≡ area_word a → FreeAlone (word - 1) me.0 found → about.units ≡ 1 → times a m.areas ≡ 0 → found ≡ 0
free_as about a word found me m l is at free one none_held =
    let less : 1 + a - 1 ≡ a = omega arith in
    let t : FreeAlone a (lone about m) found = subst (λ (p : Sat × ℕ). FreeAlone p.1 p.0.0 found) (λ i. (is i, (ap (λ (n : ℕ). n - 1) at ∙ less) i)) free in
    t m refl one (zeros false m.exclusive) (zeros true m.exclusive)
  where
    zeros : (x b : Bool) → latched x a (record m { exclusive = b }) ≡ 0
    zeros true true = none_held
    zeros true false = refl
    zeros false true = refl
    zeros false false = none_held

-- an area that was taken last is left
pub leaves_as : (key about : About) (id slots word mask a : ℕ) (me : Sat) (unit : Unit) (journal : List Entry) (exclusive : Bool) (hands : Hands) (left : List ℕ) → key ≡ about → me ≡ posed about unit journal exclusive hands → hands.areas ≡ left ++ a ∷ [] → hands.cells ≡ [] → a < area_count about
    → mask ≡ bit_not w64 (1 * 2 ^ (cond exclusive (8 + (unit.number - 1)) (unit.number - 1)) % 2 ^ 64) → word ≡ area_word a
    → Allows (LatchRule key) slots id me word (λ n. bit_and n mask) (LeavesArea (step slots word mask 0 none) me)
leaves_as key about id slots word mask a me unit journal exclusive hands left known is areas cells inside m at =
    subst (λ (t : About × (Sat × ℕ)). Allows (LatchRule t.0) slots id t.1.0 t.1.1 (λ n. bit_and n mask) (LeavesArea (step slots t.1.1 mask 0 none) t.1.0)) (λ i. (sym known i, (sym is i, sym at i)))
    (leaves_area about id (member_of unit journal exclusive hands) slots (empty_slots about hands.cells) a mask left inside areas (ap bared cells) m)
