use Rattle.std.proofs.Common.{◌≡◌, ◌++◌, ◌∷◌, [], length, ap, arith}
use Rattle.dbtg_run.specs.UnitView.{BelongsTo}
use Rattle.dbtg_run.proofs.Together.Joined.{all_less}
use Rattle.dbtg_run.proofs.Units.Abreast.{all_belong, last_place, script_at}
use Rattle.dbtg_threading.specs.Inside.Gone.{HaveGone, WentBy}
use Rattle.dbtg_threading.proofs.Gone.{both_back, one_more_gone}
use Rattle.dbtg_threading.proofs.abreast.run_around.Goals as goal

pub run_one-one-requires-clause-belongs : goal.run_one-one-requires-clause-belongs
run_one-one-requires-clause-belongs g c = (all_less (BelongsTo c.args.db.now) c.pop.new.self.items c.args.units.items c.in-Some.unit c.in-Some.ensures.items c.requires.belong).1

pub run_one-one-requires-clause-fresh : goal.run_one-one-requires-clause-fresh
run_one-one-requires-clause-fresh g c = (all_less (λ u. u.journal ≡ []) c.pop.new.self.items c.args.units.items c.in-Some.unit c.in-Some.ensures.items c.requires.fresh).1

pub run_behind_first-others-requires-clause-belong : goal.run_behind_first-others-requires-clause-belong
run_behind_first-others-requires-clause-belong g c κs within = (all_less (BelongsTo c.args.db.now) c.pop.new.self.items c.args.units.items c.in-Some.unit c.in-Some.ensures.items c.requires.belong).0

pub run_behind_first-others-requires-clause-fresh : goal.run_behind_first-others-requires-clause-fresh
run_behind_first-others-requires-clause-fresh g c κs within = (all_less (λ u. u.journal ≡ []) c.pop.new.self.items c.args.units.items c.in-Some.unit c.in-Some.ensures.items c.requires.fresh).0

pub run_behind_first-others-requires-clause-programs : goal.run_behind_first-others-requires-clause-programs
run_behind_first-others-requires-clause-programs g c κs within =
    let l = last_place c.pop.new.self.items c.args.units.items c.in-Some.unit c.in-Some.ensures.items in
    let r = c.requires.programs in
    omega (arith, l, r)

pub returns-clause-belong : goal.returns-clause-belong
returns-clause-belong g c =
    all_belong (BelongsTo c.args.db.now) c.run_behind_first-others.result.0.items c.with_last.result.0.items c.run_one-one.result.0 c.with_last.ensures.units c.run_behind_first-others.ensures.belong c.run_one-one.ensures.belongs

pub returns-clause-gone : goal.returns-clause-gone
returns-clause-gone g c =
    let schema = c.args.db.now.schema in
    let programs = c.args.lineup.programs.now in
    let left = c.pop.new.self.items in
    let program = c.program_at-program.result.now in
    let l = last_place left c.args.units.items c.in-Some.unit c.in-Some.ensures.items in
    let r = c.requires.programs in
    let at = script_at programs (length c.as_slice.result.now) (length left) program (ap length c.as_slice.ensures.value) (omega (arith, l, r)) c.program_at-program.ensures in
    both_back c.with_last.result.1 c.run_behind_first-others.result.1 c.run_one-one.result.1 (λ members. HaveGone schema programs left c.run_behind_first-others.result.0.items members.items) (WentBy schema program c.in-Some.unit c.run_one-one.result.0)
    (λ all. HaveGone schema programs c.args.units.items c.with_last.result.0.items all.items) (λ all members member. all.items ≡ members.items ++ member ∷ [])
    (λ all members member are gone went. one_more_gone schema programs left c.run_behind_first-others.result.0.items members.items program c.in-Some.unit c.run_one-one.result.0 member at gone went c.args.units.items c.with_last.result.0.items all.items c.in-Some.ensures.items c.with_last.ensures.units are)
    c.with_last.ensures.fine c.with_last.ensures.more c.run_behind_first-others.ensures.gone c.run_one-one.ensures.went
