use Rattle.std.proofs.Common.{rules, ◌≡◌, ◌+◌, ◌-◌, ◌++◌, ℕ, List, true, [], ap, sym, ◌∙◌, take, replicate}
use Rattle.std.specs.Prelude.{if◌then◌else◌}
use Rattle.std.specs.Vec.{vec_len}
use Rattle.dbtg_unit.specs.declared.limits.TheConstants.{MOST_STATEMENTS}
use Rattle.dbtg_going.specs.Turns.{first_turns, others, to_the_end}
use Rattle.dbtg_exploring.proofs.begun.first_turns.Goals as goal

pub returns : goal.returns
unfolding to_the_end
returns c =
    let there : c.args.around.first ≡ true = search rules in
    let units : first_turns c.args.around c.args.units ≡ to_the_end (others c.args.around c.args.units + 1) = ap (λ b. if b then to_the_end (others c.args.around c.args.units + 1) else []) there in
    let made = c.in_ok-resize.ensures.items in
    let none : c.new-turns.result.items ≡ [] = c.new-turns.ensures.items in
    let count : vec_len c.new-turns.result ≡ 0 = c.new-turns.ensures.len in
    let unit = c.others-unit.ensures in
    made ∙ (ap (λ (xs : List ℕ). take 65535 xs ++ replicate (65535 - vec_len c.new-turns.result) (c.others-unit.result + 1)) none
    ∙ (ap (λ (k : ℕ). take {A = ℕ} 65535 [] ++ replicate (65535 - k) (c.others-unit.result + 1)) count ∙ (ap (λ (u : ℕ). replicate MOST_STATEMENTS (u + 1)) unit ∙ sym units)))
