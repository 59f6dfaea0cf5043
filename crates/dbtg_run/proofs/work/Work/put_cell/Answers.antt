use Rattle.std.proofs.Common.{◌≡◌, ℕ, ◌+◌, ◌<◌, List, ◌∷◌, length, slice_get, Some, arith, refl, sym, ap, ◌∙◌, subst}
use Rattle.dbtg_schema.specs.Lists.{Lists}
use Rattle.dbtg_cells.specs.declared.cell.Cell.{Cell}
use Rattle.dbtg_cells.specs.declared.name.CellName.{CellName}
use Rattle.dbtg_cells.specs.CellNumbers.{cell_count, cells_in_order}
use Rattle.dbtg_cells.proofs.Public.{stands_at}
use Rattle.dbtg_unit.specs.Hands.Hands.{Hands}
use Rattle.dbtg_step.specs.Inside.Events.{HaveRings}
use Rattle.dbtg_step.proofs.Public.{number_within}
use Rattle.dbtg_run.specs.declared.view.About.{About}
use Rattle.dbtg_run.specs.Inside.Views.{lone, bared}
use Rattle.dbtg_run.specs.Inside.Posed.{member_of, empty_slots}
use Rattle.dbtg_run.proofs.Units.Uses.{real_less, puts_as, pushed}
use Rattle.dbtg_run.proofs.work.Work.put_cell.Goals as goal

pub overflow_add-word-2 : goal.overflow_add-word-2
overflow_add-word-2 c =
    let db = c.args.db.now in
    let named = sym c.cell_number.ensures ∙ c.in-Some-cell_number.is in
    let l : c.in-Some-cell_number.number < cell_count db.schema db.about.capacity = number_within db.schema db.about.capacity c.in-Some.name c.in-Some-cell_number.number named in
    let same : cell_count db.about.schema.value db.about.capacity ≡ cell_count db.schema db.about.capacity = ap (λ (s : Lists). cell_count s db.about.capacity) db.same in
    let s = db.sized.small in
    let f = c.areas.ensures.few in
    omega arith

pub fetch_and-requires : goal.fetch_and-requires
fetch_and-requires c =
    let db = c.args.db.now in
    let w = c.args.self.now in
    let k : ℕ = c.in-Some-cell_number.number in
    let es : List (CellName × Cell) = c.pop_cell.new.self.cells in
    let x = c.exchange.ensures in
    let named = sym c.cell_number.ensures ∙ c.in-Some-cell_number.is in
    let l : k < cell_count db.schema db.about.capacity = number_within db.schema db.about.capacity c.in-Some.name k named in
    let same : cell_count db.about.schema.value db.about.capacity ≡ cell_count db.schema db.about.capacity = ap (λ (s : Lists). cell_count s db.about.capacity) db.same in
    let word : 1 + length c.areas.result.now + k ≡ 1 + length db.about.schema.value.areas + k = ap (λ (n : ℕ). 1 + n + k) (ap length c.areas.ensures.areas ∙ sym (ap (λ (s : Lists). length s.areas) db.same)) in
    let z = db.sized.words in
    let cells = c.in-Some.ensures.cells in
    let is = pushed w.about w.unit w.journal.items w.exclusive w.held es (c.in-Some.name, c.in-Some.cell) k (Some c.in-Some.cell) w.seat.me c.exchange.new.seat.me w.tied cells x.3 in (
      x.0 ∙ c.requires.belongs.table,
      (let q = word in omega arith),
      puts_as db.board.shared.key db.about c.exchange.new.seat.id db.board.shared.table_id.slots 0 k (1 + length c.areas.result.now + k) c.exchange.new.seat.me (member_of w.unit w.journal.items w.exclusive w.held) c.in-Some.name c.in-Some.cell es (empty_slots db.about es)
          db.keyed
          (subst (λ (a : About). c.exchange.new.seat.me ≡ (lone a (member_of w.unit w.journal.items w.exclusive w.held), (k, Some c.in-Some.cell) ∷ empty_slots a es)) c.requires.belongs.about is)
          (ap bared cells)
          (subst (λ (s : Lists). slice_get (cells_in_order s db.about.capacity) k ≡ Some c.in-Some.name) (sym db.same) (stands_at c.in-Some.name (cells_in_order db.schema db.about.capacity) k named))
          refl db.sized.slots word,
    )

pub returns-clause-work : goal.returns-clause-work
returns-clause-work c =
    let w = c.args.self.now in
    record {
      ours = c.requires.work.ours;
      real = real_less w.about w.unit w.journal.items w.held c.pop_cell.new.self _ (c.pop_cell.ensures.cells) c.requires.work.real;
      rings = subst (λ (h : Hands). HaveRings w.about.schema.value w.about.capacity h.guesses) (sym c.pop_cell.ensures.rest) c.requires.work.rings;
    }

pub returns-clause-same : goal.returns-clause-same
returns-clause-same c = record { about = refl; unit = refl; journal = refl; table = c.fetch_and.ensures.0 ∙ c.exchange.ensures.0 }

pub returns-clause-exclusive : goal.returns-clause-exclusive
returns-clause-exclusive c = refl

pub returns-clause-rest : goal.returns-clause-rest
returns-clause-rest c = c.pop_cell.ensures.rest

pub returns-clause-held : goal.returns-clause-held
returns-clause-held c = ((c.in-Some.name, c.in-Some.cell), c.in-Some.ensures.cells)
