-- The ticket, at a seat and a key that are known by equations; and what it leaves.
use Rattle.std.proofs.Common.{◌≡◌, ℕ, suc, ◌+◌, ◌-◌, ◌<◌, ◌^◌, ◌%◌, arith, Bool, true, false, not, nat_lt, cond, List, [], ◌∷◌, ◌++◌, map, reverse, length, Option, Some, None, inl, inr, refl, sym, ap, ◌∙◌, subst}
use Rattle.std.specs.Prelude.{is_some, ◌==◌, ◌&&◌}
use Rattle.std.specs.List.{list_all, range_with_len}
use Rattle.std.proofs.lemmas.List.{same_from_push}
use mathlib.Core.Option.{none}
use Rattle.atomic_table.specs.Table.{step, Allows}
use Rattle.dbtg_schema.specs.Sound.{IsSound}
use Rattle.dbtg_cells.specs.declared.cell.Cell.{Cell}
use Rattle.dbtg_cells.specs.declared.name.CellName.{CellName}
use Rattle.dbtg_cells.specs.CellNumbers.{cell_number}
use Rattle.dbtg_cells.specs.Names.{name_eq}
use Rattle.dbtg_cells.specs.Cells.{shown}
use Rattle.dbtg_cells.specs.Shown.{CellValue}
use Rattle.dbtg_unit.specs.declared.limits.TheConstants.{MOST_STATEMENTS}
use Rattle.dbtg_unit.specs.declared.edit.CellEdit.{CellEdit}
use Rattle.dbtg_unit.specs.declared.statement.Statement.{Statement}
use Rattle.dbtg_unit.specs.declared.unit.Answer.{Answer}
use Rattle.dbtg_unit.specs.declared.unit.Entry.{Entry}
use Rattle.dbtg_unit.specs.declared.unit.Unit.{Unit}
use Rattle.dbtg_unit.specs.Database.State.Base.{Database}
use Rattle.dbtg_unit.specs.Database.State.Belongs.{IsUnitOf, IsWithin}
use Rattle.dbtg_unit.specs.Database.State.Cells.{cell}
use Rattle.dbtg_unit.specs.Hands.Edits.{edited}
use Rattle.dbtg_unit.specs.Database.Statements.Effect.{effect}
use Rattle.dbtg_unit.specs.Database.Statements.Fits.{fits}
use Rattle.dbtg_unit.specs.Hands.Hands.{Hands}
use Rattle.dbtg_unit.specs.Database.State.Legal.{pairwise}
use Rattle.dbtg_unit.specs.Database.State.LegalWith.{IsUnitIn}
use Rattle.dbtg_unit.specs.Hands.Local.{Agrees, names_of}
use Rattle.dbtg_unit.specs.Hands.Making.{CanFinish, IsReady}
use Rattle.dbtg_unit.specs.Hands.Prepared.{Plan, edited_values, guesses_edited, unit_after, value_edited, values_of}
use Rattle.dbtg_unit.specs.Database.Laws.Replay.{IsHistoryOf, entries_of, opening_state, replay as replay_entries, unit_of}
use Rattle.dbtg_unit.proofs.Public.{agrees_same, cells_made, entries_mine, opening_is_legal, replay_keeps_legal}
use Rattle.dbtg_step.proofs.Public.{guesses_length}
use Rattle.dbtg_run.specs.declared.view.About.{About}
use Rattle.dbtg_run.specs.declared.view.SeatUnit.{SeatUnit}
use Rattle.dbtg_run.specs.declared.view.SeatKnowledge.{SeatKnowledge}
use Rattle.dbtg_run.specs.Views.{Has}
use Rattle.dbtg_run.specs.Inside.Views.{lone, bare, bared, changed, drawn}
use Rattle.dbtg_run.specs.Inside.LatchRule.{Sat, LatchRule, Draws, IsReal, Recorded, TellsReal, area_count, hands_of}
use Rattle.dbtg_run.specs.Entries.{entry}
use Rattle.dbtg_run.specs.Inside.Posed.{AreInside, posed, member_of, empty_slot, empty_slots, number_or_0, IsOurs}
use Rattle.dbtg_run.specs.Drawn.{IsDone}
use Rattle.dbtg_run.specs.Inside.Drawn.{cells_after}
use Rattle.dbtg_run.proofs.TheRule.Facts.{shown_bare, values_bared}
use Rattle.dbtg_run.proofs.TheRule.Tickets.{Comes, whole_draw}
use Rattle.dbtg_run.proofs.Units.Uses.{need_bared, real_bared}

-- CELLS AFTER A PLAN

values_back : (vs : List (CellName × CellValue)) → values_of (map (λ (v : CellName × CellValue). (v.0, bare v.1)) vs) ≡ vs
values_back [] = refl
values_back (v ∷ vs) = λ i. (v.0, shown_bare v.1 i) ∷ values_back vs i

bared_shown : (es : List (CellName × Cell)) → bared es ≡ map (λ (v : CellName × CellValue). (v.0, bare v.1)) (values_of es)
bared_shown [] = refl
bared_shown (e ∷ es) = ap (λ (l : List (CellName × Cell)). (e.0, bare (shown e.1)) ∷ l) (bared_shown es)

-- what shows what the plan makes is without room what the ticket was given
pub bared_after : (plan : Plan) (old new : List (CellName × Cell)) → values_of new ≡ edited_values plan.cells (values_of old) → cells_after plan old ≡ bared new
bared_after plan old new e = ap (map (λ (v : CellName × CellValue). (v.0, bare v.1))) (sym e) ∙ sym (bared_shown new)

abbrev named : CellName × CellValue → CellName
named v = v.0

names_shown : (es : List (CellName × Cell)) → names_of es ≡ map named (values_of es)
names_shown [] = refl
names_shown (e ∷ es) = ap (λ (l : List CellName). e.0 ∷ l) (names_shown es)

-- the same values, the same names
pub names_of_values : (new old : List (CellName × Cell)) → values_of new ≡ values_of old → names_of new ≡ names_of old
names_of_values new old e = names_shown new ∙ (ap (map named) e ∙ sym (names_shown old))

names_edited : (e : CellEdit) (vs : List (CellName × CellValue)) → map named (value_edited e vs) ≡ map named vs
names_edited e [] = refl
names_edited e (v ∷ vs) = by (name_eq e.name v.0) (names_edited e vs)
  where
    by : (b : Bool) → map named (value_edited e vs) ≡ map named vs → map named (cond b ((v.0, edited e.edit v.1) ∷ vs) (v ∷ value_edited e vs)) ≡ map named (v ∷ vs)
    by true h = refl
    by false h = ap (λ (l : List CellName). v.0 ∷ l) h

names_all : (es : List CellEdit) (vs : List (CellName × CellValue)) → map named (edited_values es vs) ≡ map named vs
names_all [] vs = refl
names_all (e ∷ es) vs = names_all es (value_edited e vs) ∙ names_edited e vs

pub names_after : (es : List CellEdit) (old new : List (CellName × Cell)) → values_of new ≡ edited_values es (values_of old) → names_of new ≡ names_of old
names_after es old new e = names_shown new ∙ (ap (map named) e ∙ (names_all es (values_of old) ∙ sym (names_shown old)))

abbrev slot_for : About → CellName → ℕ × Option Cell
slot_for about c = (number_or_0 about c, None)

slots_named : (about : About) (es : List (CellName × Cell)) → map (empty_slot about) es ≡ map (slot_for about) (names_of es)
slots_named about [] = refl
slots_named about (e ∷ es) = ap (λ (l : List (ℕ × Option Cell)). empty_slot about e ∷ l) (slots_named about es)

pub slots_after : (about : About) (old new : List (CellName × Cell)) → names_of new ≡ names_of old → empty_slots about new ≡ empty_slots about old
slots_after about old new e = ap reverse (slots_named about new ∙ (ap (map (slot_for about)) e ∙ sym (slots_named about old)))

pub inside_named : (about : About) (es : List (CellName × Cell)) → list_all (λ (e : CellName × Cell). is_some (cell_number about.schema.value about.capacity e.0)) es ≡ list_all (λ (c : CellName). is_some (cell_number about.schema.value about.capacity c)) (names_of es)
inside_named about [] = refl
inside_named about (e ∷ es) = ap (λ b. is_some (cell_number about.schema.value about.capacity e.0) && b) (inside_named about es)

pub inside_after : (about : About) (unit : Unit) (journal : List Entry) (hands new : Hands) (x : Statement) (plan : Plan) → CanFinish about.schema.value about.capacity unit hands x plan → IsReal about unit journal hands → AreInside about hands
    → new.areas ≡ hands.areas → names_of new.cells ≡ names_of hands.cells → new.guesses ≡ guesses_edited plan.unit hands.guesses → AreInside about new
inside_after about unit journal hands new x plan can real inside areas names guesses = record {
  areas = ap (list_all (λ a. nat_lt a (area_count about))) areas ∙ inside.areas;
  cells = inside_named about new.cells ∙ (ap (list_all (λ (c : CellName). is_some (cell_number about.schema.value about.capacity c))) names ∙ (sym (inside_named about hands.cells) ∙ inside.cells));
  guesses = ap length (guesses ∙ (can.prepared.effects real.db real.agrees).guesses_are) ∙ guesses_length about.schema.value about.capacity x hands.guesses (effect about.schema.value about.capacity real.db unit x) inside.guesses;
}

-- THE STEP

-- what the database has of these cells
abbrev due_of : About → Database → List (CellName × Cell) → List (CellName × CellValue)
due_of about db es = map (λ (e : CellName × Cell). (e.0, cell about.schema.value about.capacity db e.0)) es

due_bared : (about : About) (db : Database) (es : List (CellName × Cell)) → due_of about db (bared es) ≡ due_of about db es
due_bared about db [] = refl
due_bared about db (e ∷ es) = ap (λ (l : List (CellName × CellValue)). (e.0, cell about.schema.value about.capacity db e.0) ∷ l) (due_bared about db es)

module _ (about : About) (unit : Unit) (journal : List Entry) (exclusive : Bool) (hands : Hands) (x : Statement) (plan : Plan)
    (can : CanFinish about.schema.value about.capacity unit hands x plan)
    (once : pairwise (λ (e f : CellName × Cell). not (name_eq e.0 f.0)) hands.cells ≡ true) where
  abbrev m : SeatUnit
  m = member_of unit journal exclusive hands

  in_hand : (db : Database) → Agrees about.schema.value about.capacity db (hands_of m) unit → Agrees about.schema.value about.capacity db hands unit
  in_hand db a = agrees_same about.schema.value about.capacity db unit (record { areas = hands.areas; cells = bared hands.cells; guesses = hands.guesses }) hands
      (record { areas = refl; cells = sym (values_bared hands.cells); guesses = refl }) (record { legal = a.legal; cells = a.cells; usage = a.usage })

  comes : (answer : Answer) (unit' : Unit) (held' : List (CellName × Cell)) → answer ≡ plan.answer → unit' ≡ unit_after about.schema.value plan unit → held' ≡ cells_after plan hands.cells → (db : Database) → Agrees about.schema.value about.capacity db (hands_of m) unit → Comes about m x answer unit' held' db
  comes answer unit' held' a u h db agrees =
      let e = can.prepared.effects db (in_hand db agrees) in
      record {
        answer_is = a ∙ e.answer;
        unit_is = u ∙ e.unit_is;
        cells_are = ap values_of h ∙ values_back (edited_values plan.cells (values_of hands.cells)) ∙ cells_made about.schema.value about.capacity unit x plan db hands once (in_hand db agrees) e
            ∙ sym (due_bared about (effect about.schema.value about.capacity db unit x).database hands.cells);
      }

  pub draws_as : (key : About) (id slots : ℕ) (me : Sat) (picked : Statement) (answer : Answer) (unit' : Unit) (held' : List (CellName × Cell)) → key ≡ about → me ≡ posed about unit journal exclusive hands
      → picked ≡ x → answer ≡ plan.answer → unit' ≡ unit_after about.schema.value plan unit → held' ≡ cells_after plan hands.cells
      → fits about.schema.value x ≡ true → IsReady about.schema.value about.capacity unit hands x → length journal < MOST_STATEMENTS
      → Allows (LatchRule key) slots id me 0 (λ n. (n + 1) % 2 ^ 64) (Draws picked answer unit' held' (step slots 0 1 0 none) me)
  draws_as key id slots me picked answer unit' held' known is p a u h fit ready room =
      subst (λ (t : About × (Sat × Statement)). Allows (LatchRule t.0) slots id t.1.0 0 (λ n. (n + 1) % 2 ^ 64) (Draws t.1.1 answer unit' held' (step slots 0 1 0 none) t.1.0)) (λ i. (sym known i, (sym is i, sym p i)))
      (whole_draw about id m slots (empty_slots about hands.cells) x hands.guesses answer unit' held' fit
      (λ db agrees. sym (ready db (in_hand db agrees)) ∙ need_bared about.schema.value about.capacity db unit x hands)
      (comes answer unit' held' a u h) room)

-- WHAT IT LEAVES

-- a recorded unit is one of the schema
pub recorded_unit : (about : About) (m : SeatUnit) → IsSound about.schema.value → (r : Recorded about m) → IsUnitIn about.schema.value about.capacity (replay_entries about.schema.value about.capacity (opening_state about.schema.value about.units) (r.before ++ r.last ∷ [])).database (suc m.place) m.unit
recorded_unit about m sound r =
    (replay_keeps_legal about.schema.value about.capacity (opening_state about.schema.value about.units) (r.before ++ r.last ∷ []) sound (opening_is_legal about.schema.value about.capacity about.units) r.history.fitting).each m.place m.unit r.unit

-- an entry of a unit is one of the history
has_entry : (u : ℕ) (e : Entry) (es : List Entry) → Has e (entries_of u es) → Has e es
has_entry u e [] h = h
has_entry u e (x ∷ es) h = by (x.unit == u) (has_entry u e es) h
  where
    by : (b : Bool) → (Has e (entries_of u es) → Has e es) → Has e (cond b (x ∷ entries_of u es) (entries_of u es)) → Has e (x ∷ es)
    by true f (inl q) = inl q
    by true f (inr q) = inr (f q)
    by false f q = inr (f q)

ticket_below : (k : ℕ) (e : Entry) (es : List Entry) → map (λ (e : Entry). e.ticket) es ≡ range_with_len k (length es) → Has e es → e.ticket < k + length es
ticket_below k e [] q h = absurd h
ticket_below k e (x ∷ es) q (inl h) = let t : x.ticket ≡ k = cc (q) in let s : x.ticket ≡ e.ticket = ap (λ (y : Entry). y.ticket) h in omega arith
ticket_below k e (x ∷ es) q (inr h) = let t : map (λ (e : Entry). e.ticket) es ≡ range_with_len (k + 1) (length es) = cc (q) in let l = ticket_below (k + 1) e es t h in omega arith

tickets_front : (k : ℕ) (e : Entry) (es : List Entry) → map (λ (e : Entry). e.ticket) (es ++ e ∷ []) ≡ range_with_len k (length (es ++ e ∷ [])) → map (λ (e : Entry). e.ticket) es ≡ range_with_len k (length es)
tickets_front k e [] q = refl
tickets_front k e (x ∷ es) q =
    let first : x.ticket ≡ k = cc (q) in
    let t : map (λ (e : Entry). e.ticket) (es ++ e ∷ []) ≡ range_with_len (k + 1) (length (es ++ e ∷ [])) = cc (q) in
    λ i. first i ∷ tickets_front (k + 1) e es t i

-- what the ticket's own step says, in the words of callers
pub record Drew (about : About) (after : Sat) (journal journal' : List Entry) (unit unit' : Unit) (exclusive : Bool) (new : Hands) (x : Statement) (answer : Answer) : Type 0 where
  pub tied : after ≡ posed about unit' journal' exclusive new
  pub ours : IsOurs about unit'
  pub real : IsReal about unit' journal' new
  pub done : IsDone about journal journal' unit' x answer
  pub number : unit'.number ≡ unit.number

module _ (about : About) (me after : Sat) (unit unit' : Unit) (journal journal' : List Entry) (exclusive : Bool) (hands new : Hands) (x picked : Statement) (answer noted : Answer) (made : Unit) (held' : List (CellName × Cell)) (found : ℕ)
    (ours : IsOurs about unit) (is : me ≡ posed about unit journal exclusive hands)
    (then : after ≡ (changed (λ m. drawn (entry found (suc m.place) picked answer) made held' m) me.0, me.1))
    (recorded : (m : SeatUnit) → after.0.members ≡ m ∷ [] → Recorded me.0.about m)
    (tells : TellsReal after.0)
    (p : picked ≡ x) (a : answer ≡ noted) (u : unit' ≡ made) (h : held' ≡ bared new.cells) (areas : new.areas ≡ hands.areas) (names : names_of new.cells ≡ names_of hands.cells)
    (j : journal' ≡ journal ++ entry found unit.number x noted ∷ []) where
  abbrev after_is : Sat
  after_is = (lone about (drawn (entry found (suc (unit.number - 1)) picked answer) made held' (member_of unit journal exclusive hands)), empty_slots about hands.cells)

  comes_to : after ≡ after_is
  comes_to = then ∙ (λ i. let y : Sat = (changed (λ m. drawn (entry found (suc m.place) picked answer) made held' m) (is i).0, (is i).1) in y)

  abbrev mine : SeatUnit
  mine = drawn (entry found (suc (unit.number - 1)) picked answer) made held' (member_of unit journal exclusive hands)

  has_mine : after.0.members ≡ mine ∷ []
  has_mine = ap (λ (y : Sat). y.0.members) comes_to

  my_record : Recorded about mine
  my_record = subst (λ (b : About). Recorded b mine) (ap (λ (y : Sat). y.0.about) is) (recorded mine has_mine)

  whole : suc (unit.number - 1) ≡ unit.number
  whole = let n = ours.numbered in omega arith

  unit_in : IsUnitIn about.schema.value about.capacity (replay_entries about.schema.value about.capacity (opening_state about.schema.value about.units) (my_record.before ++ my_record.last ∷ [])).database (suc (unit.number - 1)) made
  unit_in = recorded_unit about mine ours.sound my_record

  same_number : unit'.number ≡ unit.number
  same_number = ap (λ (y : Unit). y.number) u ∙ (unit_in.number_is ∙ whole)

  journal_is : journal ++ entry found (suc (unit.number - 1)) picked answer ∷ [] ≡ journal'
  journal_is = (λ i. journal ++ entry found (whole i) (p i) (a i) ∷ []) ∙ sym j

  member_is : mine ≡ member_of unit' journal' exclusive new
  member_is = λ i. record { place = sym same_number i - 1; unit = sym u i; journal = journal_is i; exclusive = exclusive; areas = sym areas i; held = h i }

  tied : after ≡ posed about unit' journal' exclusive new
  tied = comes_to ∙ (λ i. let y : Sat = (lone about (member_is i), sym (slots_after about hands.cells new.cells names) i) in y)

  our_unit : IsOurs about unit'
  our_unit = record {
    sound = ours.sound;
    of_schema = subst (IsUnitOf about.schema.value) (sym u) unit_in.of_schema;
    within = subst (IsWithin about.capacity) (sym u) unit_in.within;
    numbered = let n = ours.numbered in let s = same_number in omega arith;
    inside = let n = ours.inside in let s = same_number in omega arith;
    few = ours.few;
  }

  is_real : IsReal about unit' journal' new
  is_real =
      let told = subst (λ (v : SeatKnowledge). TellsReal v) (ap (λ (y : Sat). y.0) tied) tells (member_of unit' journal' exclusive new) refl in
      real_bared about unit' journal' (hands_of (member_of unit' journal' exclusive new)) new refl told

  done_is : IsDone about journal journal' unit' x noted
  done_is =
      let r = subst (Recorded about) member_is my_record in
      let number : suc (unit'.number - 1) ≡ unit'.number = let n = ours.numbered in let s = same_number in omega arith in
      let cut = same_from_push r.mine journal r.last (entry found unit.number x noted) (sym r.ends ∙ j) in
      let of_mine : r.last.unit ≡ suc (unit'.number - 1) = ap (λ (e : Entry). e.unit) cut.1 ∙ (sym same_number ∙ sym number) in
      let before_is : entries_of (suc (unit'.number - 1)) r.before ≡ journal = (same_from_push (entries_of (suc (unit'.number - 1)) r.before) journal r.last (entry found unit.number x noted) (sym (entries_mine (suc (unit'.number - 1)) r.before r.last of_mine) ∙ (r.entries ∙ j))).0 in
      let ticket : found ≡ length r.before = ap (λ (e : Entry). e.ticket) (sym cut.1) ∙ r.ticket in
      let last : r.last ≡ entry (length r.before) unit'.number x noted = cut.1 ∙ (λ i. entry (ticket i) (sym same_number i) x noted) in
      record {
        before = r.before;
        journal = j ∙ (λ i. journal ++ entry (ticket i) (sym same_number i) x noted ∷ []);
        above = λ e has. let l = ticket_below 0 e r.before (tickets_front 0 r.last r.before r.history.tickets) (has_entry (suc (unit'.number - 1)) e r.before (subst (Has e) (sym before_is) has)) in omega arith;
        history = subst (λ (l : Entry). IsHistoryOf about.schema.value about.capacity about.units (r.before ++ l ∷ [])) last r.history;
        unit_is = subst (λ (t : Entry × ℕ). unit_of (replay_entries about.schema.value about.capacity (opening_state about.schema.value about.units) (r.before ++ t.0 ∷ [])) t.1 ≡ Some unit') (λ i. (last i, number i)) r.unit;
        entries = subst (λ (t : Entry × ℕ). entries_of t.1 (r.before ++ t.0 ∷ []) ≡ journal') (λ i. (last i, number i)) r.entries;
      }

  pub drew : Drew about after journal journal' unit unit' exclusive new x noted
  drew = record { tied = tied; ours = our_unit; real = is_real; done = done_is; number = same_number }
