use Rattle.std.proofs.Common.{[], List, Option, length, sym, ap, ◌∙◌, subst}
use Rattle.dbtg_cells.specs.declared.key.Owner.{Owner}
use Rattle.dbtg_unit.specs.Hands.Hands.{Hands}
use Rattle.dbtg_step.specs.Inside.Events.{HaveRings}
use Rattle.dbtg_step.proofs.Public.{noted_length}
use Rattle.dbtg_run.specs.declared.view.About.{About}
use Rattle.dbtg_run.proofs.Units.Rings.{rings_turned}
use Rattle.dbtg_run.proofs.work.Work.turn_back.Goals as goal

pub guess-requires-clause-count : goal.guess-requires-clause-count
guess-requires-clause-count c =
    let w = c.args.self.now in
    let r = c.requires.work.real in
    ap length (c.requires.owners r.db r.agrees)
    ∙ noted_length w.about.schema.value w.about.capacity r.db w.unit c.args.statement.now w.held.guesses w.inside.guesses
    ∙ sym (ap (λ (a : About). length a.schema.value.sets) c.put_each_cell.ensures.same.about)

pub guess-requires-clause-rings : goal.guess-requires-clause-rings
guess-requires-clause-rings c =
    let w = c.args.self.now in
    let r = c.requires.work.real in
    let guesses : List (Option Owner) = c.args.guesses in
    subst (λ (a : About). HaveRings a.schema.value a.capacity guesses) (sym c.put_each_cell.ensures.same.about)
    (subst (HaveRings w.about.schema.value w.about.capacity) (sym (c.requires.owners r.db r.agrees))
    (rings_turned w.about w.unit w.journal.items w.held c.args.statement.now c.requires.work.ours r c.requires.fits c.requires.work.rings))

pub returns-clause-turned : goal.returns-clause-turned
returns-clause-turned c =
    let w = c.args.self.now in
    let turned = c.guess.ensures.held ∙ ap (λ (h : Hands). record h { guesses = c.args.guesses }) c.put_each_cell.ensures.held in
    turned ∙ ap (λ (g : List (Option Owner)). record w.held { cells = []; guesses = g }) (sym (ap (λ (h : Hands). h.guesses) turned))

pub returns-clause-noted : goal.returns-clause-noted
returns-clause-noted c d agrees = ap (λ (h : Hands). h.guesses) c.guess.ensures.held ∙ c.requires.owners d agrees
