use Rattle.std.proofs.Common.{◌≡◌, ◌<◌, ◌++◌, ◌∷◌, [], true, false, List, Option, sym, ap, ◌∙◌, subst}
use Rattle.dbtg_schema.specs.Lists.{Lists}
use Rattle.dbtg_cells.specs.CellNumbers.{cell_number}
use Rattle.dbtg_cells.specs.declared.cell.Cell.{Cell}
use Rattle.dbtg_cells.specs.declared.key.Owner.{Owner}
use Rattle.dbtg_unit.specs.Database.State.Base.{Database}
use Rattle.dbtg_unit.specs.Hands.Hands.{Hands}
use Rattle.dbtg_unit.specs.Hands.Needs.{is_stale}
use Rattle.dbtg_step.proofs.Public.{match_true, needed_not_in_hand, ok_also}
use Rattle.dbtg_run.specs.declared.view.About.{About}
use Rattle.dbtg_run.specs.Inside.Posed.{turns_left}
use Rattle.dbtg_run.specs.Inside.Tries.{IsVain}
use Rattle.dbtg_run.proofs.Units.Courses.{all_with_area, all_with_cell, same_without_area, same_without_cell}
use Rattle.dbtg_run.proofs.Units.Needing.{area_needed, stale_needed, not_stale_then, area_nearer, cell_nearer, no_times}
use Rattle.dbtg_run.proofs.Units.Rings.{needed_has_number}
use Rattle.dbtg_run.proofs.work.Work.meet.Goals as goal

pub take_area-requires-clause-area : goal.take_area-requires-clause-area
take_area-requires-clause-area c =
    let w = c.args.self.now in
    let r = c.requires.work.real in
    let h = area_needed w.about.schema.value w.about.capacity r.db w.unit w.held c.args.statement.now c.in-Area.area (sym c.in-Area.is ∙ c.requires.needed r.db r.agrees) in
    (h.inside, no_times c.in-Area.area w.held.areas h.fresh)

pub unreachable-requires : goal.unreachable-requires
unreachable-requires c =
    let w = c.args.self.now in
    let r = c.requires.work.real in
    let number = ap (λ (a : About). cell_number a.schema.value a.capacity c.in-Take.name) c.requires.belongs.about ∙ ap (λ (s : Lists). cell_number s c.args.db.now.about.capacity c.in-Take.name) c.args.db.now.same ∙ sym c.cell_number.ensures ∙ c.in-None.is in
    needed_has_number w.about w.unit w.journal.items w.held c.args.statement.now c.requires.work.ours r c.requires.fits c.requires.work.rings c.in-Take.name (sym c.in-Take.is ∙ c.requires.needed r.db r.agrees) number

pub returns-in-Area-clause-vain : goal.returns-in-Area-clause-vain
returns-in-Area-clause-vain c =
    ok_also c.take_area.result _ _ (λ b took no. subst (λ wanted. IsVain wanted c.args.self.now.held c.take_area.new.self.held) (sym c.in-Area.is) (same_without_area b c.args.self.now.held c.take_area.new.self.held _ _ took no)) c.take_area.ensures.took

pub returns-in-Some-clause-vain : goal.returns-in-Some-clause-vain
returns-in-Some-clause-vain c =
    ok_also c.take_cell.result _ _ (λ b took no. subst (λ wanted. IsVain wanted c.args.self.now.held c.take_cell.new.self.held) (sym c.in-Take.is) (same_without_cell b c.args.self.now.held c.take_cell.new.self.held _ took no)) c.take_cell.ensures.took

pub turn_back-requires-clause-owners : goal.turn_back-requires-clause-owners
turn_back-requires-clause-owners c d agrees = c.requires.owners d c.in-Stale.is agrees

pub returns-in-Stale-clause-vain : goal.returns-in-Stale-clause-vain
returns-in-Stale-clause-vain c failed =
    subst (λ wanted. IsVain wanted c.args.self.now.held c.turn_back.new.self.held) (sym c.in-Stale.is) c.turn_back.ensures.turned

pub returns-in-Area-clause-noted : goal.returns-in-Area-clause-noted
returns-in-Area-clause-noted c d stale agrees = let q = sym c.in-Area.is ∙ stale in absurd (cc (q))

pub returns-in-Some-clause-noted : goal.returns-in-Some-clause-noted
returns-in-Some-clause-noted c d stale agrees = let q = sym c.in-Take.is ∙ stale in absurd (cc (q))

pub returns-in-Stale-clause-noted : goal.returns-in-Stale-clause-noted
returns-in-Stale-clause-noted c d stale agrees = c.turn_back.ensures.noted d agrees

pub returns-in-Area-clause-more : goal.returns-in-Area-clause-more
returns-in-Area-clause-more c =
    ok_also c.take_area.result _ _ (λ b took. all_with_area b c.args.self.now.held c.take_area.new.self.held c.in-Area.area _ _ took) c.take_area.ensures.took

pub returns-in-Some-clause-more : goal.returns-in-Some-clause-more
returns-in-Some-clause-more c =
    ok_also c.take_cell.result _ _ (λ b took. all_with_cell b c.args.self.now.held c.take_cell.new.self.held c.in-Take.name _ took) c.take_cell.ensures.took

pub returns-in-Area-clause-nearer : goal.returns-in-Area-clause-nearer
returns-in-Area-clause-nearer c =
    let w = c.args.self.now in
    let r = c.requires.work.real in
    let h = area_needed w.about.schema.value w.about.capacity r.db w.unit w.held c.args.statement.now c.in-Area.area (sym c.in-Area.is ∙ c.requires.needed r.db r.agrees) in
    ok_also c.take_area.result _ _
    (λ b t q tries. let held : c.take_area.new.self.held ≡ record w.held { areas = w.held.areas ++ c.in-Area.area ∷ [] } = (match_true b ((c.take_area.new.self.held ≡ record w.held { areas = w.held.areas ++ c.in-Area.area ∷ [] }) × (c.take_area.new.self.exclusive ≡ c.args.exclusive)) ((c.take_area.new.self.held ≡ w.held) × (c.take_area.new.self.exclusive ≡ w.exclusive)) q t).0 in
    subst (λ (a : About). turns_left a tries c.take_area.new.self.held < turns_left w.about tries w.held) (sym c.take_area.ensures.same.about)
    (subst (λ (hands : Hands). turns_left w.about tries hands < turns_left w.about tries w.held) (sym held) (area_nearer w.about tries w.held c.in-Area.area h.in_range_of h.fresh)))
    c.take_area.ensures.took

pub returns-in-Some-clause-nearer : goal.returns-in-Some-clause-nearer
returns-in-Some-clause-nearer c =
    let w = c.args.self.now in
    let r = c.requires.work.real in
    let named = ap (λ (a : About). cell_number a.schema.value a.capacity c.in-Take.name) c.requires.belongs.about ∙ ap (λ (s : Lists). cell_number s c.args.db.now.about.capacity c.in-Take.name) c.args.db.now.same ∙ sym c.cell_number.ensures ∙ c.in-Some.is in
    let fresh = needed_not_in_hand w.about.schema.value w.about.capacity r.db w.unit w.held c.args.statement.now c.in-Take.name (sym c.in-Take.is ∙ c.requires.needed r.db r.agrees) in
    ok_also c.take_cell.result _ _
    (λ b t q tries. let held : (y : Cell) × (c.take_cell.new.self.held ≡ record w.held { cells = w.held.cells ++ (c.in-Take.name, y) ∷ [] }) = match_true b ((y : Cell) × (c.take_cell.new.self.held ≡ record w.held { cells = w.held.cells ++ (c.in-Take.name, y) ∷ [] })) (c.take_cell.new.self.held ≡ w.held) q t in
    subst (λ (a : About). turns_left a tries c.take_cell.new.self.held < turns_left w.about tries w.held) (sym c.take_cell.ensures.same.about)
    (subst (λ (hands : Hands). turns_left w.about tries hands < turns_left w.about tries w.held) (sym held.1) (cell_nearer w.about tries c.in-Some.number w.held c.in-Take.name held.0 named fresh)))
    c.take_cell.ensures.took

pub returns-in-Stale-clause-alone : goal.returns-in-Stale-clause-alone
returns-in-Stale-clause-alone c one =
    let w = c.args.self.now in
    let r = c.requires.work.real in
    let s = stale_needed w.about.schema.value w.about.capacity r.db w.unit w.held c.args.statement.now (sym c.in-Stale.is ∙ c.requires.needed r.db r.agrees) in
    let no = not_stale_then w.about.schema.value w.about.capacity r.db w.unit w.held c.args.statement.now c.requires.fits in (
      subst (λ (db : Database). is_stale w.about.schema.value w.about.capacity db w.unit w.held.guesses c.args.statement.now ≡ true) (r.alone one) s,
      subst (λ (db : Database). is_stale w.about.schema.value w.about.capacity db w.unit c.turn_back.new.self.held.guesses c.args.statement.now ≡ false) (r.alone one)
          (subst (λ (g : List (Option Owner)). is_stale w.about.schema.value w.about.capacity r.db w.unit g c.args.statement.now ≡ false) (sym (c.turn_back.ensures.noted r.db r.agrees)) no),
    )

pub returns-in-Area-clause-same : goal.returns-in-Area-clause-same
returns-in-Area-clause-same c = c.take_area.ensures.same

pub returns-in-Area-clause-work : goal.returns-in-Area-clause-work
returns-in-Area-clause-work c = c.take_area.ensures.work

pub returns-in-Some-clause-same : goal.returns-in-Some-clause-same
returns-in-Some-clause-same c = c.take_cell.ensures.same

pub returns-in-Some-clause-work : goal.returns-in-Some-clause-work
returns-in-Some-clause-work c = c.take_cell.ensures.work

pub returns-in-Stale-clause-same : goal.returns-in-Stale-clause-same
returns-in-Stale-clause-same c = c.turn_back.ensures.same

pub returns-in-Stale-clause-work : goal.returns-in-Stale-clause-work
returns-in-Stale-clause-work c = c.turn_back.ensures.work
