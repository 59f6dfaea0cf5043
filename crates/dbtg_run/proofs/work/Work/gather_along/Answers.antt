use Rattle.std.proofs.Common.{rules, ◌≡◌, ◌≢◌, ◌⊎◌, ◌<◌, ◌+◌, ◌-◌, ◌∙◌, ℕ, Bool, true, false, inl, inr, ap, arith, sym, subst}
use Rattle.dbtg_schema.specs.Lists.{Lists}
use Rattle.dbtg_unit.specs.Database.State.Base.{Database}
use Rattle.dbtg_unit.specs.declared.held.Need.{Need}
use Rattle.dbtg_unit.specs.declared.held.Need.TheVariants.{Ready}
use Rattle.dbtg_unit.specs.declared.statement.Statement.{Statement}
use Rattle.dbtg_unit.specs.Hands.Local.{Agrees}
use Rattle.dbtg_unit.specs.Hands.Making.{IsReady}
use Rattle.dbtg_unit.specs.Hands.Needs.{is_stale, need}
use Rattle.dbtg_run.specs.declared.view.About.{About}
use Rattle.dbtg_run.specs.declared.work.Work.{Work}
use Rattle.dbtg_run.specs.Inside.LatchRule.{database_after}
use Rattle.dbtg_run.specs.Inside.Posed.{turns_left}
use Rattle.dbtg_run.specs.Inside.Tries.{Suffice}
use Rattle.dbtg_run.specs.declared.tries.Tries.{Tries}
use Rattle.dbtg_run.specs.Inside.Works.{IsAtWork, KnowsBetter}
use Rattle.dbtg_step.specs.Core.Courses.{CourseMatches}
use Rattle.dbtg_step.proofs.Public.{no_course}
use Rattle.dbtg_run.proofs.Units.Courses.{course_goes_on}
use Rattle.dbtg_run.proofs.Units.Needing.{try_nearer}
use Rattle.dbtg_run.proofs.work.Work.gather_along.Goals as goal

pub needs-preserved-then-branch : goal.needs-preserved-then-branch
needs-preserved-then-branch c =
    let db = c.args.db.now in let old = c.needs.self in let new = c.meet.new.self in let i = c.needs.invariant in let met = c.meet.ensures in record {
      belongs = record { about = met.same.about ∙ i.belongs.about; table = met.same.table ∙ i.belongs.table };
      same = record { about = met.same.about ∙ i.same.about; unit = met.same.unit ∙ i.same.unit; journal = met.same.journal ∙ i.same.journal; table = met.same.table ∙ i.same.table };
      work = met.work;
      so = c.in_ok-meet.ensures.so;
      free = search rules;
      known = search rules;
      given = i.given;
      tries = i.tries;
      course = course_goes_on db.schema db.about.capacity old.held new.held old.unit new.unit c.args.statement.now c.wanted.new.course c.meet.ensures.same.unit (c.in_ok-meet.ensures.more c.if-branch.true) c.wanted.ensures.kept;
    }

pub needs-preserved : goal.needs-preserved
needs-preserved c =
    let db = c.args.db.now in let new = c.meet.new.self in let i = c.needs.invariant in let met = c.meet.ensures in record {
      belongs = record { about = met.same.about ∙ i.belongs.about; table = met.same.table ∙ i.belongs.table };
      same = record { about = met.same.about ∙ i.same.about; unit = met.same.unit ∙ i.same.unit; journal = met.same.journal ∙ i.same.journal; table = met.same.table ∙ i.same.table };
      work = met.work;
      so = c.in_ok-meet.ensures.so;
      free = search rules;
      known = search rules;
      given = ap (λ (t : Tries). t.given) c.use_one.ensures ∙ i.given;
      tries = c.if-are_used_up.ensures;
      course = subst (CourseMatches db.schema db.about.capacity new.held new.unit c.args.statement.now) (sym c.forget.ensures) (no_course db.schema db.about.capacity new.held new.unit c.args.statement.now);
    }

-- a look in vain that has a try leaves one fewer
fewer : (old new : Tries) → new ≡ record old { vain = old.vain + 1 } → Suffice new → (0 < old.given - old.vain) × (new.given - new.vain + 1 ≡ old.given - old.vain)
fewer old new is left =
    let given = ap (λ (t : Tries). t.given) is in let vain = ap (λ (t : Tries). t.vain) is in
    (omega arith, omega arith)

-- no look in vain is left after the first for which there was no try
none_left : (old new : Tries) → new ≡ record old { vain = old.vain + 1 } → new.given < new.vain → old.given - old.vain ≡ 0
none_left old new is over =
    let given = ap (λ (t : Tries). t.given) is in let vain = ap (λ (t : Tries). t.vain) is in
    omega arith

pub needs-smaller : goal.needs-smaller
needs-smaller c =
    let left = c.needs.tries.given - c.needs.tries.vain in
    let n : (0 < left) × (c.use_one.new.self.given - c.use_one.new.self.vain + 1 ≡ left) = fewer c.needs.tries c.use_one.new.self c.use_one.ensures c.if-are_used_up.ensures in
    subst (λ (a : About). turns_left a (c.use_one.new.self.given - c.use_one.new.self.vain) c.meet.new.self.held < turns_left c.needs.self.about left c.needs.self.held) (sym c.meet.ensures.same.about)
    (try_nearer c.needs.self.about left c.needs.self.held c.meet.new.self.held n.0 (c.use_one.new.self.given - c.use_one.new.self.vain) n.1)

-- what is wanted of the database's schema is wanted of the unit's
not_ready : (known : About) (schema : Lists) (w : Work) (x : Statement) (wanted : Need) → w.about ≡ known → known.schema.value ≡ schema → IsAtWork w → IsReady w.about.schema.value w.about.capacity w.unit w.held x
    → ((d : Database) → Agrees schema known.capacity d w.held w.unit → wanted ≡ need schema known.capacity d w.unit w.held x) → wanted ≢ Ready → ⊥
not_ready known schema w x wanted is same work ready wants not =
    let s : w.about.schema.value ≡ schema = ap (λ (a : About). a.schema.value) is ∙ same in
    let c : w.about.capacity ≡ known.capacity = ap (λ (a : About). a.capacity) is in
    let d = work.real.db in
    let agrees = subst (λ (n : ℕ). Agrees schema n d w.held w.unit) c (subst (λ (l : Lists). Agrees l w.about.capacity d w.held w.unit) s work.real.agrees) in
    let there = subst (λ (n : ℕ). IsReady schema n w.unit w.held x) c (subst (λ (l : Lists). IsReady l w.about.capacity w.unit w.held x) s ready) in
    not (wants d agrees ∙ there d agrees)

-- a turn back is met only where the guesses are stale
turned_back : (x : Statement) (old new : Work) (tries : ℕ) (nearer : Bool) → tries ≡ 0 → nearer ≡ false
    → (0 < tries) ⊎ (is_stale old.about.schema.value old.about.capacity (database_after old.about old.journal.items) old.unit old.held.guesses x ≡ false) → KnowsBetter x old new nearer → ⊥
turned_back x old new tries nearer none is (inl some) knows = absurd (omega arith)
turned_back x old new tries nearer none is (inr fresh) knows = let stale = subst (KnowsBetter x old new) is knows in false_is_not_true (sym fresh ∙ stale.0)
  where
    false_is_not_true : false ≡ true → ⊥
    false_is_not_true same = absurd (cc)

pub returns-then-are_used_up-clause-free : goal.returns-then-are_used_up-clause-free
returns-then-are_used_up-clause-free c ready =
    let i = c.needs.invariant in let db = c.args.db.now in
    absurd (not_ready db.about db.schema c.needs.self c.args.statement.now c.in_ok-wanted.wanted.need i.belongs.about db.same i.work (i.free ready) c.in_ok-wanted.ensures.need c.if-is_ready.ensures)

pub returns-then-are_used_up-clause-alone : goal.returns-then-are_used_up-clause-alone
returns-then-are_used_up-clause-alone c one some =
    let i = c.needs.invariant in
    let units = ap (λ (a : About). a.units) i.same.about ∙ one in
    absurd (turned_back c.args.statement.now c.needs.self c.meet.new.self (c.needs.tries.given - c.needs.tries.vain) c.in_ok-meet.field-0 (none_left c.needs.tries c.use_one.new.self c.use_one.ensures c.if-are_used_up.ensures) c.if-branch.false (i.known units some) (c.in_ok-meet.ensures.alone units))
