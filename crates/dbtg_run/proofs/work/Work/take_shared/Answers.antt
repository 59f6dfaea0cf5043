use Rattle.std.proofs.Common.{◌≡◌, ℕ, ◌+◌, ◌<◌, arith, refl, sym, ap, ◌∙◌, subst}
use Rattle.dbtg_run.specs.declared.view.About.{About}
use Rattle.dbtg_run.specs.Inside.Views.{lone}
use Rattle.dbtg_run.specs.Inside.LatchRule.{area_count}
use Rattle.dbtg_run.specs.Inside.Posed.{member_of, empty_slots}
use Rattle.dbtg_run.proofs.Units.Uses.{looks_as, shared_as, free_as}
use Rattle.dbtg_run.proofs.work.Work.take_shared.Goals as goal

pub load-seen-requires : goal.load-seen-requires
load-seen-requires c =
    let db = c.args.db.now in let w = c.args.self.now in
    let word : 1 + c.index.result ≡ 1 + c.args.area = ap (λ (n : ℕ). 1 + n) c.index.ensures in
    let inside : c.args.area < area_count db.about = subst (λ (a : About). c.args.area < area_count a) c.requires.belongs.about c.requires.area.0 in
    let is = subst (λ (a : About). w.seat.me ≡ (lone a (member_of w.unit w.journal.items w.exclusive w.held), empty_slots a w.held.cells)) c.requires.belongs.about w.tied in (
      c.requires.belongs.table,
      (let z = db.sized.words in omega arith),
      looks_as db.board.shared.key db.about w.seat.id db.board.shared.table_id.slots (1 + c.index.result) w.seat.me (member_of w.unit w.journal.items w.exclusive w.held) (empty_slots db.about w.held.cells) c.args.area db.keyed is inside word,
    )

pub compare_exchange-found-requires : goal.compare_exchange-found-requires
compare_exchange-found-requires c =
    let db = c.args.db.now in let w = c.args.self.now in
    let ours = c.requires.work.ours in
    let e = c.load-seen.ensures in
    let word : 1 + c.index.result ≡ 1 + c.args.area = ap (λ (n : ℕ). 1 + n) c.index.ensures in
    let inside : c.args.area < area_count db.about = subst (λ (a : About). c.args.area < area_count a) c.requires.belongs.about c.requires.area.0 in
    let is = e.2.0 ∙ subst (λ (a : About). w.seat.me ≡ (lone a (member_of w.unit w.journal.items w.exclusive w.held), empty_slots a w.held.cells)) c.requires.belongs.about w.tied in (
      e.0 ∙ c.requires.belongs.table,
      (let z = db.sized.words in omega arith),
      shared_as db.board.shared.key db.about c.load-seen.new.seat.id db.board.shared.table_id.slots (1 + c.index.result) c.load-seen.new.seat.me (member_of w.unit w.journal.items w.exclusive w.held) (empty_slots db.about w.held.cells) c.args.area db.keyed is inside word
          c.load-seen.result _ (let z = c.if-seen-ge256.false in omega arith) c.requires.so c.requires.area.1 (let i = ours.inside in let f = ours.few in let n = ours.numbered in omega arith) refl,
    )

pub returns-then-seen-ge256-clause-alone : goal.returns-then-seen-ge256-clause-alone
returns-then-seen-ge256-clause-alone c one =
    let w = c.args.self.now in
    let word : 1 + c.index.result ≡ 1 + c.args.area = ap (λ (n : ℕ). 1 + n) c.index.ensures in
    let z = free_as w.about c.args.area (1 + c.index.result) c.load-seen.result w.seat.me (member_of w.unit w.journal.items w.exclusive w.held) (empty_slots w.about w.held.cells) w.tied word c.load-seen.ensures.2.2 one c.requires.area.1 in
    let busy = c.if-seen-ge256.true in
    absurd (omega arith)

pub returns-then-found-seen-clause-alone : goal.returns-then-found-seen-clause-alone
returns-then-found-seen-clause-alone c one =
    let w = c.args.self.now in
    let word : 1 + c.index.result ≡ 1 + c.args.area = ap (λ (n : ℕ). 1 + n) c.index.ensures in
    let e = c.load-seen.ensures in
    let z = free_as w.about c.args.area (1 + c.index.result) c.load-seen.result w.seat.me (member_of w.unit w.journal.items w.exclusive w.held) (empty_slots w.about w.held.cells) w.tied word e.2.2 one c.requires.area.1 in
    let found = free_as w.about c.args.area (1 + c.index.result) c.compare_exchange-found.result c.load-seen.new.seat.me (member_of w.unit w.journal.items w.exclusive w.held) (empty_slots w.about w.held.cells) (e.2.0 ∙ w.tied) word c.compare_exchange-found.ensures.2.2 one c.requires.area.1 in
    absurd (c.if-found-seen.true (found ∙ sym z))

pub returns-then-seen-ge256-clause-same : goal.returns-then-seen-ge256-clause-same
returns-then-seen-ge256-clause-same c = record { about = refl; unit = refl; journal = refl; table = c.load-seen.ensures.0 }

pub returns-then-seen-ge256-clause-work : goal.returns-then-seen-ge256-clause-work
returns-then-seen-ge256-clause-work c = let work = c.requires.work in record { ours = work.ours; real = work.real; rings = work.rings }

pub returns-then-seen-ge256-clause-took : goal.returns-then-seen-ge256-clause-took
returns-then-seen-ge256-clause-took c = (refl, refl)

pub returns-then-found-seen-clause-same : goal.returns-then-found-seen-clause-same
returns-then-found-seen-clause-same c = record { about = refl; unit = refl; journal = refl; table = c.compare_exchange-found.ensures.0 ∙ c.load-seen.ensures.0 }

pub returns-clause-same : goal.returns-clause-same
returns-clause-same c = record { about = refl; unit = refl; journal = refl; table = c.compare_exchange-found.ensures.0 ∙ c.load-seen.ensures.0 }
