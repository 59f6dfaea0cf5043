use Rattle.std.proofs.Common.{◌≡◌, ◌⊎◌, ℕ, List, [], IfOk, sym, ap, ◌∙◌, subst}
use Rattle.dbtg_schema.specs.Lists.{Lists}
use Rattle.dbtg_unit.specs.Hands.EditsOf.{is_delete}
use Rattle.dbtg_unit.specs.Hands.Making.{CanFinish, MayPrepare}
use Rattle.dbtg_step.specs.Inside.Events.{HaveRings}
use Rattle.dbtg_run.specs.declared.view.About.{About}
use Rattle.dbtg_run.proofs.Units.Prepares.{inside_same, posed_same, ready_same, real_same}
use Rattle.dbtg_run.proofs.work.Work.prepare_in_hand.Goals as goal

pub prepare-requires : goal.prepare-requires
prepare-requires c =
    let db = c.args.db.now in let w = c.args.self.now in
    let schema = ap (λ (a : About). a.schema.value) c.requires.belongs.about ∙ db.same in
    let capacity = ap (λ (a : About). a.capacity) c.requires.belongs.about in
    record {
      may = subst (λ (t : Lists × ℕ). MayPrepare t.0 t.1 w.unit w.held c.args.statement.now) (λ i. (schema i, capacity i)) (record {
        sound = c.requires.work.ours.sound;
        fits = c.requires.fits;
        of_schema = c.requires.work.ours.of_schema;
        within = c.requires.work.ours.within;
        ready = c.requires.ready;
        versions = c.requires.work.real.versions;
      });
    }

pub invariant_of-self : goal.invariant_of-self
invariant_of-self c =
    let w = c.args.self.now in
    let s = c.prepare.ensures.shows in
    record {
      tied = w.tied ∙ posed_same w.about w.held c.prepare.new.held s w.unit w.journal.items w.exclusive;
      inside = inside_same w.about w.held c.prepare.new.held s w.inside;
    }

pub returns-clause-work : goal.returns-clause-work
returns-clause-work c =
    let w = c.args.self.now in
    let s = c.prepare.ensures.shows in
    record {
      ours = c.requires.work.ours;
      real = real_same w.about w.held c.prepare.new.held s w.unit w.journal.items c.requires.work.real;
      rings = subst (HaveRings w.about.schema.value w.about.capacity) (sym s.guesses) c.requires.work.rings;
    }

pub returns-clause-ready : goal.returns-clause-ready
returns-clause-ready c =
    let w = c.args.self.now in
    ready_same w.about w.held c.prepare.new.held c.prepare.ensures.shows w.unit c.args.statement.now c.requires.ready

pub returns-clause-so : goal.returns-clause-so
returns-clause-so c =
    let w = c.args.self.now in
    subst (λ (areas : List ℕ). (areas ≡ []) ⊎ (w.exclusive ≡ is_delete c.args.statement.now)) (sym c.prepare.ensures.shows.areas) c.requires.so

pub returns-clause-can : goal.returns-clause-can
returns-clause-can c =
    let db = c.args.db.now in let w = c.args.self.now in
    let schema = ap (λ (a : About). a.schema.value) c.requires.belongs.about ∙ db.same in
    let capacity = ap (λ (a : About). a.capacity) c.requires.belongs.about in
    subst (λ (t : Lists × ℕ). IfOk c.prepare.result (λ plan. CanFinish t.0 t.1 w.unit c.prepare.new.held c.args.statement.now plan)) (λ i. (sym schema i, sym capacity i)) c.prepare.ensures.prepared
