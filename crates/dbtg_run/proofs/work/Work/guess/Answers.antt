use Rattle.std.proofs.Common.{◌≡◌, sym, subst}
use Rattle.dbtg_unit.specs.Hands.Hands.{Hands}
use Rattle.dbtg_run.specs.Inside.Posed.{posed, AreInside}
use Rattle.dbtg_run.proofs.work.Work.guess.Goals as goal

pub invariant_of-self : goal.invariant_of-self
invariant_of-self c =
    let w = c.args.self.now in
    let e = c.set_guesses.ensures in
    record {
      tied = subst (λ (h : Hands). w.seat.me ≡ posed w.about w.unit w.journal.items w.exclusive h) (sym e) w.tied;
      inside = subst (AreInside w.about) (sym e) (record { areas = w.inside.areas; cells = w.inside.cells; guesses = c.requires.count });
    }
