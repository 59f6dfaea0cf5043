use Rattle.std.proofs.Common.{rules, ◌≡◌, ◌++◌, ◌∷◌, [], ap, length, arith}
use Rattle.std.proofs.Crossing.{crosses}
use denote.Param.Send.{sendable}
use Rattle.dbtg_run.specs.UnitView.{BelongsTo}
use Rattle.dbtg_run.proofs.Units.Abreast.{all_belong, last_place, script_at}
use Rattle.dbtg_run.proofs.Crosses.{database_sync, unit_send}
use Rattle.dbtg_run.proofs.Together.Joined.{all_less}
use Rattle.dbtg_threading.specs.Inside.Gone.{HaveGone, WentBy}
use Rattle.dbtg_threading.proofs.Gone.{both_back, one_more_gone, same_many}
use Rattle.dbtg_threading.proofs.Crosses.{member_send, program_sync}
use Rattle.dbtg_threading.proofs.abreast.+fn-run_abreast-join+arg3+run_abreast.Goals as goal

pub join-one-requires-send-F : goal.join-one-requires-send-F
join-one-requires-send-F g t c κs within = search (sendable, crosses, database_sync, program_sync, unit_send) depth 40 fits 20000

pub join-one-requires-send-A : goal.join-one-requires-send-A
join-one-requires-send-A g t c κs within = search (sendable, crosses, member_send, unit_send) depth 40

pub join-one-requires-after_bounds : goal.join-one-requires-after_bounds
join-one-requires-after_bounds g t c κs within =
    let b = all_less (BelongsTo c.args.db.now) c.pop.new.self.items c.args.units.items c.in-Some.unit c.in-Some.ensures.items c.requires.belong in
    let f = all_less (λ u. u.journal ≡ []) c.pop.new.self.items c.args.units.items c.in-Some.unit c.in-Some.ensures.items c.requires.fresh in
    let l = last_place c.pop.new.self.items c.args.units.items c.in-Some.unit c.in-Some.ensures.items in
    let r = c.requires.programs in
    ((search rules, b.1, f.1), (search rules, (search rules, ((search rules, b.0, f.0, omega arith), search rules))))

pub returns-clause-belong : goal.returns-clause-belong
returns-clause-belong g t c =
    all_belong (BelongsTo c.args.db.now) c.join-one.result.1.0.items c.with_last.result.0.items c.join-one.result.0.0 c.with_last.ensures.units c.join-one.ensures.second.0 c.join-one.ensures.first.0

pub returns-clause-gone : goal.returns-clause-gone
returns-clause-gone g t c =
    let schema = c.args.db.now.schema in
    let programs = c.args.programs.now in
    let left = c.pop.new.self.items in
    let program = c.program_at-program.result.now in
    let l = last_place left c.args.units.items c.in-Some.unit c.in-Some.ensures.items in
    let r = c.requires.programs in
    let at = script_at programs (length c.as_slice.result.now) (length left) program (ap length c.as_slice.ensures.value) (omega (arith, l, r)) c.program_at-program.ensures in
    both_back c.with_last.result.1 c.join-one.result.1.1 c.join-one.result.0.1 (λ members. HaveGone schema programs left c.join-one.result.1.0.items members.items) (WentBy schema program c.in-Some.unit c.join-one.result.0.0)
    (λ all. HaveGone schema programs c.args.units.items c.with_last.result.0.items all.items) (λ all members member. all.items ≡ members.items ++ member ∷ [])
    (λ all members member are gone went. one_more_gone schema programs left c.join-one.result.1.0.items members.items program c.in-Some.unit c.join-one.result.0.0 member at gone went c.args.units.items c.with_last.result.0.items all.items c.in-Some.ensures.items c.with_last.ensures.units are)
    c.with_last.ensures.fine c.with_last.ensures.more c.join-one.ensures.second.1 c.join-one.ensures.first.1

pub returns-clause-count : goal.returns-clause-count
returns-clause-count g t c = same_many c.args.units.items c.pop.new.self.items c.join-one.result.1.0.items c.with_last.result.0.items c.in-Some.unit c.join-one.result.0.0 c.in-Some.ensures.items c.with_last.ensures.units c.join-one.ensures.second.2
