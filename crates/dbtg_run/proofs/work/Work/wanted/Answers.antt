use Rattle.std.proofs.Common.{◌≡◌, ℕ, true, List, Option, length, sym, ap, ◌∙◌, subst}
use Rattle.dbtg_schema.specs.Lists.{Lists}
use Rattle.dbtg_cells.specs.declared.key.Owner.{Owner}
use Rattle.dbtg_unit.specs.declared.held.Need.TheVariants.{Stale}
use Rattle.dbtg_unit.specs.declared.statement.Statement.{Statement}
use Rattle.dbtg_unit.specs.declared.unit.Unit.{Unit}
use Rattle.dbtg_unit.specs.Database.State.Base.{Database}
use Rattle.dbtg_unit.specs.Database.Statements.Fits.{fits}
use Rattle.dbtg_unit.specs.Hands.Hands.{Hands}
use Rattle.dbtg_unit.specs.Hands.Local.{Agrees}
use Rattle.dbtg_unit.specs.Hands.Needs.{need}
use Rattle.dbtg_step.specs.Machine.Network.{noted_owners}
use Rattle.dbtg_run.specs.declared.view.About.{About}
use Rattle.dbtg_run.proofs.work.Work.wanted.Goals as goal
use Rattle.dbtg_run.proofs.work.Work.wanted.Goals.{in-Stale, in_default}

-- what is noted by the database's schema is noted by the unit's
noted_by : (schema known : Lists) (same : schema ≡ known) (capacity : ℕ) (unit : Unit) (hands : Hands) (x : Statement) (guesses : List (Option Owner))
    → ((c : ℕ) (d : Database) → Agrees known c d hands unit → need known c d unit hands x ≡ Stale → guesses ≡ noted_owners known c d unit x hands.guesses)
    → ((d : Database) → Agrees known capacity d hands unit → Stale ≡ need known capacity d unit hands x)
    → (d : Database) → Agrees schema capacity d hands unit → guesses ≡ noted_owners schema capacity d unit x hands.guesses
noted_by schema known same capacity unit hands x guesses noted stale d agrees =
    subst (λ (s : Lists). guesses ≡ noted_owners s capacity d unit x hands.guesses) (sym same)
    (noted capacity d (subst (λ (s : Lists). Agrees s capacity d hands unit) same agrees) (sym (stale d (subst (λ (s : Lists). Agrees s capacity d hands unit) same agrees))))

pub returns-clause-guesses : goal.returns-clause-guesses
returns-clause-guesses c d stale agrees =
    let w = c.args.self.now in
    let db = c.args.db.now in
    let same = ap (λ (a : About). a.schema.value) c.requires.belongs.about ∙ db.same in
    let capacity = ap (λ (a : About). a.capacity) c.requires.belongs.about in
    elim c.match-need.branch [
      | in-Stale m ↦ noted_by w.about.schema.value db.schema same w.about.capacity w.unit w.held c.args.statement.now c.match-need.guesses
          (λ n e there needs. m.guesses-is ∙ m.true_guesses-guesses.ensures n e there needs)
          (λ e there. subst (λ (n : ℕ). Stale ≡ need db.schema n e w.unit w.held c.args.statement.now) (sym capacity) (sym stale ∙ c.in_ok-need.ensures.need e (subst (λ (n : ℕ). Agrees db.schema n e w.held w.unit) capacity there)))
          d agrees
      | in_default m ↦ absurd (m.in_default.not-Stale stale)
    ]

pub true_guesses-guesses-requires-clause-fits : goal.true_guesses-guesses-requires-clause-fits
true_guesses-guesses-requires-clause-fits c =
    let same = ap (λ (a : About). a.schema.value) c.requires.belongs.about ∙ c.args.db.now.same in
    subst (λ (s : Lists). fits s c.args.statement.now ≡ true) same c.requires.fits

pub true_guesses-guesses-requires-clause-count : goal.true_guesses-guesses-requires-clause-count
true_guesses-guesses-requires-clause-count c =
    let same = ap (λ (a : About). a.schema.value) c.requires.belongs.about ∙ c.args.db.now.same in
    c.args.self.now.inside.guesses ∙ ap (λ (s : Lists). length s.sets) same
