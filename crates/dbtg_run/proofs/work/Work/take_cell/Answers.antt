use Rattle.std.proofs.Common.{◌≡◌, ℕ, ◌+◌, ◌<◌, [], ◌∷◌, ◌++◌, length, true, Option, Some, None, arith, refl, sym, ap, ◌∙◌, subst}
use Rattle.std.specs.Prelude.{is_some}
use Rattle.dbtg_schema.specs.Lists.{Lists}
use Rattle.dbtg_cells.specs.declared.cell.Cell.{Cell}
use Rattle.dbtg_cells.specs.declared.name.CellName.{CellName}
use Rattle.dbtg_cells.specs.CellNumbers.{cell_number, cells_in_order}
use Rattle.dbtg_unit.specs.declared.held.Need.TheVariants.{Take}
use Rattle.dbtg_unit.specs.Database.State.Base.{Database}
use Rattle.dbtg_unit.specs.Database.Statements.Fits.{fits}
use Rattle.dbtg_unit.specs.Hands.Hands.{Hands}
use Rattle.dbtg_unit.specs.Hands.Local.{Agrees}
use Rattle.dbtg_unit.specs.Hands.Needs.{need}
use Rattle.dbtg_step.specs.Inside.Events.{HaveRings}
use Rattle.dbtg_step.proofs.Public.{needed_not_in_hand, number_within}
use Rattle.dbtg_run.specs.declared.view.About.{About}
use Rattle.dbtg_cells.specs.Cells.{shown}
use Rattle.dbtg_cells.proofs.Public.{stands_at}
use Rattle.dbtg_run.specs.Inside.Views.{bare, bared, with_cell, lone}
use Rattle.dbtg_run.specs.Inside.LatchRule.{area_count, cells_of_table, slot_name}
use Rattle.dbtg_run.specs.Inside.Posed.{AreInside, empty_slots, member_of, posed}
use Rattle.dbtg_run.proofs.TheRule.Facts.{bared_more}
use Rattle.dbtg_run.proofs.Units.Uses.{again_as, all_more, cell_free_as, puts_as, real_taken, slot_asks, taken_as, takes_as, took_as, took_it}
use Rattle.dbtg_run.proofs.work.Work.take_cell.Goals as goal

pub overflow_add-word-2 : goal.overflow_add-word-2
overflow_add-word-2 c =
    let db = c.args.db.now in let w = c.args.self.now in
    let named : cell_number db.about.schema.value db.about.capacity c.args.name ≡ Some c.args.number = subst (λ (a : About). cell_number a.schema.value a.capacity c.args.name ≡ Some c.args.number) c.requires.belongs.about c.requires.named in
    let l : c.args.number < cells_of_table db.about = number_within db.about.schema.value db.about.capacity c.args.name c.args.number named in
    let s = db.sized.small in
    let f = c.areas.ensures.few in
    omega arith

pub compare_exchange-requires : goal.compare_exchange-requires
compare_exchange-requires c =
    let db = c.args.db.now in let w = c.args.self.now in
    let b = c.requires.belongs.about in
    let named : cell_number db.about.schema.value db.about.capacity c.args.name ≡ Some c.args.number = subst (λ (a : About). cell_number a.schema.value a.capacity c.args.name ≡ Some c.args.number) b c.requires.named in
    let l : c.args.number < cells_of_table db.about = number_within db.about.schema.value db.about.capacity c.args.name c.args.number named in
    let word : 1 + length c.areas.result.now + c.args.number ≡ 1 + area_count db.about + c.args.number = ap (λ (n : ℕ). 1 + n + c.args.number) (ap length c.areas.ensures.areas ∙ sym (ap (λ (s : Lists). length s.areas) db.same)) in (
      c.requires.belongs.table,
      (let q = word in let z = db.sized.words in omega arith),
      takes_as db.board.shared.key db.about w.seat.id db.board.shared.table_id.slots (1 + length c.areas.result.now + c.args.number) c.args.number w.unit.number w.seat.me w.unit w.journal.items w.exclusive w.held c.args.name c.args.statement.now
          db.keyed
          (subst (λ (a : About). w.seat.me ≡ posed a w.unit w.journal.items w.exclusive w.held) b w.tied)
          (stands_at c.args.name (cells_in_order db.about.schema.value db.about.capacity) c.args.number named)
          (subst (λ (a : About). fits a.schema.value c.args.statement.now ≡ true) b c.requires.fits)
          (subst (λ (a : About). (d : Database) → Agrees a.schema.value a.capacity d w.held w.unit → Take c.args.name ≡ need a.schema.value a.capacity d w.unit w.held c.args.statement.now) b c.requires.needed)
          (let n = c.requires.work.ours.numbered in omega arith) word,
    )

pub exchange-requires : goal.exchange-requires
exchange-requires c =
    let db = c.args.db.now in let w = c.args.self.now in
    let b = c.requires.belongs.about in
    let e = c.compare_exchange.ensures in
    let named : cell_number db.about.schema.value db.about.capacity c.args.name ≡ Some c.args.number = subst (λ (a : About). cell_number a.schema.value a.capacity c.args.name ≡ Some c.args.number) b c.requires.named in
    let word : 1 + length c.areas.result.now + c.args.number ≡ 1 + area_count db.about + c.args.number = ap (λ (n : ℕ). 1 + n + c.args.number) (ap length c.areas.ensures.areas ∙ sym (ap (λ (s : Lists). length s.areas) db.same)) in
    let t = took_as db.about c.args.number (1 + length c.areas.result.now + c.args.number) w.seat.me c.compare_exchange.new.seat.me w.unit w.journal.items w.exclusive w.held c.args.name
    (subst (λ (a : About). w.seat.me ≡ posed a w.unit w.journal.items w.exclusive w.held) b w.tied) word (stands_at c.args.name (cells_in_order db.about.schema.value db.about.capacity) c.args.number named) (e.2.0 c.if-compare_exchange-ne0.false).0 in
    (e.0 ∙ c.requires.belongs.table, slot_asks _ _ _ c.args.number (Some t.0) t.1)

pub invariant_of-self-in-Ok : goal.invariant_of-self-in-Ok
invariant_of-self-in-Ok c =
    let db = c.args.db.now in let w = c.args.self.now in
    let b = c.requires.belongs.about in
    let e = c.compare_exchange.ensures in
    let x = c.exchange.ensures in
    let word : 1 + length c.areas.result.now + c.args.number ≡ 1 + area_count w.about + c.args.number = ap (λ (n : ℕ). 1 + n + c.args.number) (ap length c.areas.ensures.areas ∙ (sym (ap (λ (s : Lists). length s.areas) db.same) ∙ sym (ap (λ (a : About). length a.schema.value.areas) b))) in
    let named = stands_at c.args.name (cells_in_order w.about.schema.value w.about.capacity) c.args.number c.requires.named in
    let told = e.2.0 c.if-compare_exchange-ne0.false in
    let t = took_it w.about c.args.number (1 + length c.areas.result.now + c.args.number) w.seat.me c.compare_exchange.new.seat.me w.unit w.journal.items w.exclusive w.held c.args.name c.exchange.result c.in-Some.cell w.tied word named told.0 x.2 c.in-Some.is in
    let held = c.in-Ok.ensures.ok in
    record {
      tied = taken_as w.about c.args.number c.compare_exchange.new.seat.me c.exchange.new.seat.me w.unit w.journal.items w.exclusive w.held c.push_cell.new.self c.args.name c.in-Some.cell t x.3 held c.requires.named;
      inside = subst (AreInside w.about) (sym held) (record {
        areas = w.inside.areas;
        cells = all_more (λ (f : CellName × Cell). is_some (cell_number w.about.schema.value w.about.capacity f.0)) w.held.cells (c.args.name, c.in-Some.cell) w.inside.cells (ap (λ (o : Option ℕ). is_some o) c.requires.named);
        guesses = w.inside.guesses;
      });
    }

pub fetch_and-requires : goal.fetch_and-requires
fetch_and-requires c =
    let db = c.args.db.now in let w = c.args.self.now in
    let b = c.requires.belongs.about in
    let e = c.compare_exchange.ensures in
    let x = c.exchange.ensures in
    let word : 1 + length c.areas.result.now + c.args.number ≡ 1 + area_count w.about + c.args.number = ap (λ (n : ℕ). 1 + n + c.args.number) (ap length c.areas.ensures.areas ∙ (sym (ap (λ (s : Lists). length s.areas) db.same) ∙ sym (ap (λ (a : About). length a.schema.value.areas) b))) in
    let named = stands_at c.args.name (cells_in_order w.about.schema.value w.about.capacity) c.args.number c.requires.named in
    let told = e.2.0 c.if-compare_exchange-ne0.false in
    let t = took_it w.about c.args.number (1 + length c.areas.result.now + c.args.number) w.seat.me c.compare_exchange.new.seat.me w.unit w.journal.items w.exclusive w.held c.args.name c.exchange.result c.in-Some.cell w.tied word named told.0 x.2 c.in-Some.is in
    let y = c.exchange-in-Err.ensures in
    let given : c.in-Err.failed.value ≡ c.in-Some.cell = c.in-Err.ensures.value_returned in
    let m = with_cell c.args.name (bare (shown c.in-Some.cell)) (member_of w.unit w.journal.items w.exclusive w.held) in
    let is = again_as (lone w.about m) (empty_slots w.about w.held.cells) c.compare_exchange.new.seat.me c.exchange.new.seat.me c.exchange-in-Err.new.seat.me c.args.number (Some c.in-Some.cell) None (Some c.in-Err.failed.value) t x.3 y.3 in
    let here : 1 + length c.areas.result.now + c.args.number ≡ 1 + area_count db.about + c.args.number = word ∙ ap (λ (a : About). 1 + area_count a + c.args.number) b in
    let l : c.args.number < cells_of_table w.about = number_within w.about.schema.value w.about.capacity c.args.name c.args.number c.requires.named in
    let inside : c.args.number < cells_of_table db.about = subst (λ (a : About). c.args.number < cells_of_table a) b l in (
      y.0 ∙ (x.0 ∙ (e.0 ∙ c.requires.belongs.table)),
      (let q = here in let z = db.sized.words in omega arith),
      puts_as db.board.shared.key db.about c.exchange-in-Err.new.seat.id db.board.shared.table_id.slots 0 c.args.number (1 + length c.areas.result.now + c.args.number) c.exchange-in-Err.new.seat.me m c.args.name c.in-Err.failed.value w.held.cells (empty_slots db.about w.held.cells)
          db.keyed
          (subst (λ (a : About). c.exchange-in-Err.new.seat.me ≡ (lone a m, (c.args.number, Some c.in-Err.failed.value) ∷ empty_slots a w.held.cells)) b is)
          (sym (bared_more w.held.cells (c.args.name, c.in-Some.cell)) ∙ ap (λ (z : Cell). bared (w.held.cells ++ (c.args.name, z) ∷ [])) (sym given))
          (subst (λ (a : About). slot_name a c.args.number ≡ Some c.args.name) b named)
          refl db.sized.slots here,
    )

pub returns-in-Ok-clause-work : goal.returns-in-Ok-clause-work
returns-in-Ok-clause-work c =
    let db = c.args.db.now in let w = c.args.self.now in
    let b = c.requires.belongs.about in
    let e = c.compare_exchange.ensures in
    let x = c.exchange.ensures in
    let word : 1 + length c.areas.result.now + c.args.number ≡ 1 + area_count w.about + c.args.number = ap (λ (n : ℕ). 1 + n + c.args.number) (ap length c.areas.ensures.areas ∙ (sym (ap (λ (s : Lists). length s.areas) db.same) ∙ sym (ap (λ (a : About). length a.schema.value.areas) b))) in
    let named = stands_at c.args.name (cells_in_order w.about.schema.value w.about.capacity) c.args.number c.requires.named in
    let told = e.2.0 c.if-compare_exchange-ne0.false in
    let t = took_it w.about c.args.number (1 + length c.areas.result.now + c.args.number) w.seat.me c.compare_exchange.new.seat.me w.unit w.journal.items w.exclusive w.held c.args.name c.exchange.result c.in-Some.cell w.tied word named told.0 x.2 c.in-Some.is in
    let held = c.in-Ok.ensures.ok in
    record {
      ours = c.requires.work.ours;
      real = real_taken w.about c.compare_exchange.new.seat.me ((c.args.number, Some c.in-Some.cell) ∷ empty_slots w.about w.held.cells) w.unit w.journal.items w.exclusive w.held c.push_cell.new.self c.args.name c.in-Some.cell t told.1 held;
      rings = subst (λ (h : Hands). HaveRings w.about.schema.value w.about.capacity h.guesses) (sym held) c.requires.work.rings;
    }

pub returns-then-compare_exchange-ne0-clause-alone : goal.returns-then-compare_exchange-ne0-clause-alone
returns-then-compare_exchange-ne0-clause-alone c one =
    let db = c.args.db.now in let w = c.args.self.now in
    let b = c.requires.belongs.about in
    let e = c.compare_exchange.ensures in
    let r = c.requires.work.real in
    let named : cell_number db.about.schema.value db.about.capacity c.args.name ≡ Some c.args.number = subst (λ (a : About). cell_number a.schema.value a.capacity c.args.name ≡ Some c.args.number) b c.requires.named in
    let word : 1 + length c.areas.result.now + c.args.number ≡ 1 + area_count db.about + c.args.number = ap (λ (n : ℕ). 1 + n + c.args.number) (ap length c.areas.ensures.areas ∙ sym (ap (λ (s : Lists). length s.areas) db.same)) in
    let fresh = needed_not_in_hand w.about.schema.value w.about.capacity r.db w.unit w.held c.args.statement.now c.args.name (c.requires.needed r.db r.agrees) in
    let z = cell_free_as db.about c.args.number (1 + length c.areas.result.now + c.args.number) c.compare_exchange.result w.seat.me w.unit w.journal.items w.exclusive w.held c.args.name
    (subst (λ (a : About). w.seat.me ≡ posed a w.unit w.journal.items w.exclusive w.held) b w.tied) word (stands_at c.args.name (cells_in_order db.about.schema.value db.about.capacity) c.args.number named) e.2.2
    (sym (ap (λ (a : About). a.units) b) ∙ one) fresh in
    absurd (c.if-compare_exchange-ne0.true z)

pub push_cell-requires : goal.push_cell-requires
push_cell-requires c =
    let w = c.args.self.now in
    let r = c.requires.work.real in
    needed_not_in_hand w.about.schema.value w.about.capacity r.db w.unit w.held c.args.statement.now c.args.name (c.requires.needed r.db r.agrees)

pub returns-then-compare_exchange-ne0-clause-same : goal.returns-then-compare_exchange-ne0-clause-same
returns-then-compare_exchange-ne0-clause-same c = record { about = refl; unit = refl; journal = refl; table = c.compare_exchange.ensures.0 }

pub returns-then-compare_exchange-ne0-clause-work : goal.returns-then-compare_exchange-ne0-clause-work
returns-then-compare_exchange-ne0-clause-work c = let work = c.requires.work in record { ours = work.ours; real = work.real; rings = work.rings }

pub returns-then-compare_exchange-ne0-clause-exclusive : goal.returns-then-compare_exchange-ne0-clause-exclusive
returns-then-compare_exchange-ne0-clause-exclusive c = refl

pub returns-then-compare_exchange-ne0-clause-took : goal.returns-then-compare_exchange-ne0-clause-took
returns-then-compare_exchange-ne0-clause-took c = refl

pub returns-in-Ok-clause-same : goal.returns-in-Ok-clause-same
returns-in-Ok-clause-same c = record { about = refl; unit = refl; journal = refl; table = c.exchange.ensures.0 ∙ c.compare_exchange.ensures.0 }

pub returns-in-Ok-clause-exclusive : goal.returns-in-Ok-clause-exclusive
returns-in-Ok-clause-exclusive c = refl

pub returns-in-Ok-clause-took : goal.returns-in-Ok-clause-took
returns-in-Ok-clause-took c = (c.in-Some.cell, c.in-Ok.ensures.ok)
