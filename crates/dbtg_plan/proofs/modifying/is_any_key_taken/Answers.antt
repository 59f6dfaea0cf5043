use Rattle.std.proofs.Common.{◌≡◌, ◌∙◌, sym, ap, ℕ, ◌+◌, Bool, ◌||◌, drop, length, arith}
use Rattle.std.specs.List.{list_any, range_with_len}
use Rattle.dbtg_plan.specs.Inside.Modifying.{is_refused}
use Rattle.dbtg_plan.proofs.Store.SetSteps.{any_end, any_step}
use Rattle.dbtg_plan.proofs.modifying.is_any_key_taken.Goals as goal

pub returns-then-branch : goal.returns-then-branch
returns-then-branch c =
    let taken : ℕ → Bool = is_refused c.args.schema.now c.args.held.now c.args.changes.now c.args.key.now c.args.items.now in
    let sets = length c.args.schema.now.sets in
    let here : c.in_ok-is_key_taken.field-0 ≡ taken c.loop-s.s = c.in_ok-is_key_taken.ensures ∙ ap taken c.new.ensures in
    sym (any_step taken sets c.loop-s.s (omega (arith, c.set_count-s-end.ensures)) ∙ ap (λ b. b || list_any taken (drop (c.loop-s.s + 1) (range_with_len 0 sets))) (sym here ∙ c.if-branch.true))
    ∙ c.loop-s.invariant

pub loop-s-preserved : goal.loop-s-preserved
loop-s-preserved c =
    let taken : ℕ → Bool = is_refused c.args.schema.now c.args.held.now c.args.changes.now c.args.key.now c.args.items.now in
    let sets = length c.args.schema.now.sets in
    let here : c.in_ok-is_key_taken.field-0 ≡ taken c.loop-s.s = c.in_ok-is_key_taken.ensures ∙ ap taken c.new.ensures in
    sym (any_step taken sets c.loop-s.s (omega (arith, c.set_count-s-end.ensures)) ∙ ap (λ b. b || list_any taken (drop (c.loop-s.s + 1) (range_with_len 0 sets))) (sym here ∙ c.if-branch.false))
    ∙ c.loop-s.invariant

pub returns : goal.returns
returns c =
    let taken : ℕ → Bool = is_refused c.args.schema.now c.args.held.now c.args.changes.now c.args.key.now c.args.items.now in
    sym (any_end taken (length c.args.schema.now.sets) c.loop-s.s (omega (arith, c.set_count-s-end.ensures))) ∙ c.loop-s.invariant
