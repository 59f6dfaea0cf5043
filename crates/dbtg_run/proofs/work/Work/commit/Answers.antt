use Rattle.std.proofs.Common.{◌≡◌, arith, sym, ap, ◌∙◌}
use Rattle.dbtg_schema.specs.Lists.{Lists}
use Rattle.dbtg_unit.specs.Hands.Prepared.{unit_after}
use Rattle.dbtg_run.specs.declared.view.About.{About}
use Rattle.dbtg_run.proofs.Units.Commits.{bared_after, draws_as, drew, inside_after, names_after}
use Rattle.dbtg_run.proofs.Units.Rings.{rings_after}
use Rattle.dbtg_run.proofs.work.Work.commit.Goals as goal

pub fetch_add-ticket-requires : goal.fetch_add-ticket-requires
fetch_add-ticket-requires g c =
    let db = c.args.db.now in let w = c.args.self.now in
    let p = c.requires.picked in
    let key : db.board.shared.key ≡ w.about = db.keyed ∙ sym c.requires.belongs.about in (
      c.requires.belongs.table,
      (let z = db.sized.words in omega arith),
      draws_as w.about w.unit w.journal.items w.exclusive w.held c.args.statement c.args.prepared c.requires.can c.requires.work.real.once db.board.shared.key w.seat.id db.board.shared.table_id.slots w.seat.me _ _ _ _
          key w.tied p.0 (p.1 ∙ c.requires.noted) p.2 p.3 c.requires.fits c.requires.ready c.requires.room.1,
    )

pub invariant_of-self : goal.invariant_of-self
invariant_of-self g c =
    let db = c.args.db.now in let w = c.args.self.now in
    let p = c.requires.picked in
    let f = c.fetch_add-ticket.ensures in
    let e = c.finish.ensures in
    let names = names_after c.args.prepared.cells w.held.cells c.finish.new.held.cells e.cells in
    let d = drew w.about w.seat.me c.fetch_add-ticket.new.seat.me w.unit c.finish.new.unit w.journal.items c.push_reserved.new.self.items w.exclusive w.held c.finish.new.held c.args.statement _ _ c.args.noted _ _ c.fetch_add-ticket.result
    c.requires.work.ours w.tied f.2.0 f.2.2 f.2.3 p.0 p.1
    (e.unit ∙ (ap (λ (s : Lists). unit_after s c.args.prepared w.unit) (sym (ap (λ (a : About). a.schema.value) c.requires.belongs.about ∙ db.same)) ∙ sym p.2))
    (p.3 ∙ bared_after c.args.prepared w.held.cells c.finish.new.held.cells e.cells) e.areas names c.push_reserved.ensures.items in
    record {
      tied = d.tied;
      inside = inside_after w.about w.unit w.journal.items w.held c.finish.new.held c.args.statement c.args.prepared c.requires.can c.requires.work.real w.inside e.areas names e.guesses;
    }

pub returns-clause-work : goal.returns-clause-work
returns-clause-work g c =
    let db = c.args.db.now in let w = c.args.self.now in
    let p = c.requires.picked in
    let f = c.fetch_add-ticket.ensures in
    let e = c.finish.ensures in
    let names = names_after c.args.prepared.cells w.held.cells c.finish.new.held.cells e.cells in
    let d = drew w.about w.seat.me c.fetch_add-ticket.new.seat.me w.unit c.finish.new.unit w.journal.items c.push_reserved.new.self.items w.exclusive w.held c.finish.new.held c.args.statement _ _ c.args.noted _ _ c.fetch_add-ticket.result
    c.requires.work.ours w.tied f.2.0 f.2.2 f.2.3 p.0 p.1
    (e.unit ∙ (ap (λ (s : Lists). unit_after s c.args.prepared w.unit) (sym (ap (λ (a : About). a.schema.value) c.requires.belongs.about ∙ db.same)) ∙ sym p.2))
    (p.3 ∙ bared_after c.args.prepared w.held.cells c.finish.new.held.cells e.cells) e.areas names c.push_reserved.ensures.items in
    record {
      ours = d.ours;
      real = d.real;
      rings = rings_after w.about w.unit w.journal.items w.held c.args.statement c.requires.work.ours c.requires.work.real c.requires.fits c.requires.work.rings c.args.prepared c.finish.new.held.guesses c.requires.can e.guesses;
    }

pub returns-clause-done : goal.returns-clause-done
returns-clause-done g c =
    let db = c.args.db.now in let w = c.args.self.now in
    let p = c.requires.picked in
    let f = c.fetch_add-ticket.ensures in
    let e = c.finish.ensures in
    let names = names_after c.args.prepared.cells w.held.cells c.finish.new.held.cells e.cells in
    let d = drew w.about w.seat.me c.fetch_add-ticket.new.seat.me w.unit c.finish.new.unit w.journal.items c.push_reserved.new.self.items w.exclusive w.held c.finish.new.held c.args.statement _ _ c.args.noted _ _ c.fetch_add-ticket.result
    c.requires.work.ours w.tied f.2.0 f.2.2 f.2.3 p.0 p.1
    (e.unit ∙ (ap (λ (s : Lists). unit_after s c.args.prepared w.unit) (sym (ap (λ (a : About). a.schema.value) c.requires.belongs.about ∙ db.same)) ∙ sym p.2))
    (p.3 ∙ bared_after c.args.prepared w.held.cells c.finish.new.held.cells e.cells) e.areas names c.push_reserved.ensures.items in
    d.done
