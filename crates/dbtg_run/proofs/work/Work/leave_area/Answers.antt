use Rattle.std.proofs.Common.{◌≡◌, ℕ, ◌+◌, ◌*◌, ◌%◌, ◌^◌, ◌<◌, List, arith, sym, ap, ◌∙◌, subst, refl}
use Rattle.std.specs.Int.{bit_not, w64}
use Rattle.std.specs.Prelude.{nat_lt}
use Rattle.std.specs.List.{list_all}
use Rattle.std.proofs.lemmas.Bool.{ltb-true}
use Rattle.dbtg_run.specs.declared.view.About.{About}
use Rattle.dbtg_run.specs.Inside.LatchRule.{area_count}
use Rattle.dbtg_run.specs.Inside.Posed.{posed}
use Rattle.dbtg_run.proofs.Units.Uses.{last_all, leaves_as}
use Rattle.dbtg_run.proofs.work.Work.leave_area.Goals as goal

pub fetch_and-requires : goal.fetch_and-requires
fetch_and-requires c =
    let db = c.args.db.now in let w = c.args.self.now in
    let a : ℕ = c.in-Some.area in
    let left : List ℕ = c.pop_area.new.self.areas in
    let inside : a < area_count w.about = ltb-true a (area_count w.about) (last_all (λ (b : ℕ). nat_lt b (area_count w.about)) left a (ap (list_all (λ (b : ℕ). nat_lt b (area_count w.about))) (sym c.in-Some.ensures.areas) ∙ w.inside.areas)) in
    let here : a < area_count db.about = subst (λ (x : About). a < area_count x) c.requires.belongs.about inside in
    let word : 1 + c.index.result ≡ 1 + a = ap (λ (n : ℕ). 1 + n) c.index.ensures in (
      c.requires.belongs.table,
      (let z = db.sized.words in omega arith),
      leaves_as db.board.shared.key db.about w.seat.id db.board.shared.table_id.slots (1 + c.index.result) _ a w.seat.me w.unit w.journal.items w.exclusive w.held left
          db.keyed (subst (λ (x : About). w.seat.me ≡ posed x w.unit w.journal.items w.exclusive w.held) c.requires.belongs.about w.tied)
          c.in-Some.ensures.areas c.requires.no_cells here (ap (λ (b : ℕ). bit_not w64 (1 * 2 ^ b % 2 ^ 64)) c.latch_bit-bit.ensures) word,
    )

pub returns-clause-same : goal.returns-clause-same
returns-clause-same c = record { about = refl; unit = refl; journal = refl; table = c.fetch_and.ensures.0 }

pub returns-clause-exclusive : goal.returns-clause-exclusive
returns-clause-exclusive c = refl

pub returns-clause-rest : goal.returns-clause-rest
returns-clause-rest c = c.pop_area.ensures.rest
