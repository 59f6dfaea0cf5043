use Rattle.std.proofs.Common.{◌≡◌, ◌∙◌, ◌<◌, ◌≤◌, ◌+◌, ◌-◌, ◌*◌, ap, arith, drop, length, sym, subst, take}
use Rattle.std.proofs.lemmas.Grind.{common_steps}
use Rattle.std.proofs.lemmas.List.{length-drop, take_all}
use Rattle.std.proofs.lemmas.Result.{IfOk-weaker}
use Rattle.std.proofs.lemmas.Option.{slice_get_within}
use Rattle.std.specs.Prelude.{None}
use Rattle.std.specs.List.{flat_map}
use Rattle.dbtg_erase.specs.declared.course.Course.{Course}
use Rattle.dbtg_erase.specs.NextCell.{first_missing}
use Rattle.dbtg_erase.specs.WorkList.{cells_of_gone, most_gone}
use Rattle.dbtg_erase.proofs.CourseSteps.{brings_next, ended, ended_all, first_left, found_next, none_left, not_found}
use Rattle.dbtg_erase.proofs.course.Course.next_of_each_record.Goals as goal

pub returns-in_default-clause-next : goal.returns-in_default-clause-next
returns-in_default-clause-next c =
    let i = c.loop-turn.invariant.course in
    sym (none_left c.args.schema.now c.args.capacity c.args.held.now c.args.option c.args.key.now c.loop-turn.self i (sym c.get.ensures ∙ c.in_default.is))

pub returns-in_default-clause-all : goal.returns-in_default-clause-all
returns-in_default-clause-all c none =
    let i = c.loop-turn.invariant.course in
    ended c.args.schema.now c.args.capacity c.args.held.now c.args.option c.args.key.now c.loop-turn.self i (sym c.get.ensures ∙ c.in_default.is)

pub returns-then-is_some-clause-next : goal.returns-then-is_some-clause-next
returns-then-is_some-clause-next c =
    let i = c.loop-turn.invariant.course in
    found_next c.args.schema.now c.args.capacity c.args.held.now c.args.option c.args.key.now c.loop-turn.self i c.in-Some.next (sym c.get.ensures ∙ c.in-Some.is)
    c.in_ok-found.found (sym c.if-is_some.ensures) c.in_ok-found.ensures.next

pub pass-requires : goal.pass-requires
pass-requires c = slice_get_within c.loop-turn.self.gone c.loop-turn.self.done c.in-Some.next (sym c.get.ensures ∙ c.in-Some.is)

pub loop-turn-preserved : goal.loop-turn-preserved
loop-turn-preserved c =
    let i = c.loop-turn.invariant in
    let pass = c.in_ok-pass.ensures in
    let many : c.type_count.result * c.args.capacity ≡ most_gone c.args.schema.now c.args.capacity = ap (λ n. n * c.args.capacity) c.type_count.ensures.count in
    let before : c.loop-turn._turn < c.type_count.result * c.args.capacity = c.loop-turn-test.true in
    let here : c.loop-turn.self.done ≡ c.loop-turn._turn = i.done in
    let below : c.loop-turn.self.done < most_gone c.args.schema.now c.args.capacity = subst (λ n. n < most_gone c.args.schema.now c.args.capacity) (sym here) (subst (λ n. c.loop-turn._turn < n) many before) in
    let around_is : c.pass.new.self.around ≡ None = ap (λ (x : Course). x.around) pass.rest ∙ i.around in
    record {
      course =
          brings_next c.args.schema.now c.args.capacity c.args.held.now c.args.option c.args.key.now c.loop-turn.self i.course c.in-Some.next (sym c.get.ensures ∙ c.in-Some.is) c.pass.new.self
          (not_found c.in_ok-found.found _ (sym c.if-is_some.ensures) c.in_ok-found.ensures.next) below pass.gone pass.done (ap (λ (x : Course). x.members) pass.rest) around_is;
      around = around_is;
      done = pass.done ∙ ap (λ n. n + 1) here;
    }

pub returns-clause-next : goal.returns-clause-next
returns-clause-next c =
    let i = c.loop-turn.invariant in
    let many : c.type_count.result * c.args.capacity ≡ most_gone c.args.schema.now c.args.capacity = ap (λ n. n * c.args.capacity) c.type_count.ensures.count in
    let past : c.type_count.result * c.args.capacity ≤ c.loop-turn._turn = c.loop-turn-test.false in
    let here : c.loop-turn.self.done ≡ c.loop-turn._turn = i.done in
    let full : most_gone c.args.schema.now c.args.capacity ≤ c.loop-turn.self.done = subst (λ n. most_gone c.args.schema.now c.args.capacity ≤ n) (sym here) (subst (λ n. n ≤ c.loop-turn._turn) many past) in
    let all = ended_all c.args.schema.now c.args.capacity c.args.held.now c.args.option c.args.key.now c.loop-turn.self i.course full in
    let left = first_left c.args.schema.now c.args.capacity c.args.held.now c.args.option c.args.key.now c.loop-turn.self i.course all in
    let xs = c.as_slice.result.now in
    let done = c.loop-turn.self.done in
    let count : length (drop done xs) ≡ length xs - done = length-drop done xs in
    let rest : take (length xs - done) (drop done xs) ≡ drop done c.loop-turn.self.gone = take_all (length xs - done) (drop done xs) (omega arith) ∙ ap (drop done) c.as_slice.ensures in
    IfOk-weaker c.first_of_all.result _ _ (λ name e. e ∙ ap (λ ds. first_missing c.args.held.now (flat_map (cells_of_gone c.args.schema.now c.args.held.now) ds)) rest ∙ sym left) c.first_of_all.ensures

pub returns-clause-all : goal.returns-clause-all
returns-clause-all c = grind (arith, common_steps)

pub returns-clause-around : goal.returns-clause-around
returns-clause-around c = grind (arith, common_steps)

pub returns-clause-course : goal.returns-clause-course
returns-clause-course c = grind (arith, common_steps)

pub returns-in_default-clause-around : goal.returns-in_default-clause-around
returns-in_default-clause-around c = grind (arith, common_steps)

pub returns-in_default-clause-course : goal.returns-in_default-clause-course
returns-in_default-clause-course c = grind (arith, common_steps)

pub returns-in_err-found-clause-all : goal.returns-in_err-found-clause-all
returns-in_err-found-clause-all c = grind (arith, common_steps)

pub returns-in_err-found-clause-around : goal.returns-in_err-found-clause-around
returns-in_err-found-clause-around c = grind (arith, common_steps)

pub returns-in_err-found-clause-course : goal.returns-in_err-found-clause-course
returns-in_err-found-clause-course c = grind (arith, common_steps)

pub returns-in_err-found-clause-next : goal.returns-in_err-found-clause-next
returns-in_err-found-clause-next c = grind (arith, common_steps)

pub returns-in_err-pass-clause-all : goal.returns-in_err-pass-clause-all
returns-in_err-pass-clause-all c = grind (arith, common_steps)

pub returns-in_err-pass-clause-around : goal.returns-in_err-pass-clause-around
returns-in_err-pass-clause-around c = grind (arith, common_steps)

pub returns-in_err-pass-clause-course : goal.returns-in_err-pass-clause-course
returns-in_err-pass-clause-course c = grind (arith, common_steps)

pub returns-in_err-pass-clause-next : goal.returns-in_err-pass-clause-next
returns-in_err-pass-clause-next c = grind (arith, common_steps)

pub returns-then-is_some-clause-all : goal.returns-then-is_some-clause-all
returns-then-is_some-clause-all c = grind (arith, common_steps)

pub returns-then-is_some-clause-around : goal.returns-then-is_some-clause-around
returns-then-is_some-clause-around c = grind (arith, common_steps)

pub returns-then-is_some-clause-course : goal.returns-then-is_some-clause-course
returns-then-is_some-clause-course c = grind (arith, common_steps)
