use Rattle.std.proofs.Common.{rules, ◌≡◌, ◌∙◌, ◌+◌, ◌-◌, ◌∷◌, ◌&&◌, List, ℕ, add-one, ap, arith, drop, drop-cons, false, get_or, length, not, sym, take, true}
use Rattle.dbtg_trace.specs.Parts.{begins_arrow}
use Rattle.dbtg_trace.proofs.ArrowSteps.{found_here, further, past_all, rest_from}
use Rattle.dbtg_trace.proofs.parts.arrow_at.Goals as goal

pub loop-at-preserved : goal.loop-at-preserved
loop-at-preserved c =
    let text = c.args.text.now in
    let at = c.loop-at.at in
    let inside = c.loop-at.inside in
    let byte = get_or text at 0 in
    let is : drop at text ≡ byte ∷ drop (at + 1) text = rw add-one (drop-cons text at 0 c.loop-at-test.true) in
    let slice : not inside && begins_arrow (byte ∷ take (length text - (at + 1)) (drop (at + 1) text)) ≡ false = search rules in
    let none = ap (λ (xs : List ℕ). not inside && begins_arrow (byte ∷ xs)) (sym (rest_from (at + 1) text)) ∙ slice in
    rw c.is_inside_behind-inside.ensures (further at inside (drop at text) byte (drop (at + 1) text) is (ap (λ (xs : List ℕ). not inside && begins_arrow xs) is ∙ none) ∙ c.loop-at.invariant)

pub returns-then-inside-begins_arrow-clause-place : goal.returns-then-inside-begins_arrow-clause-place
returns-then-inside-begins_arrow-clause-place c =
    let text = c.args.text.now in
    let at = c.loop-at.at in
    let inside = c.loop-at.inside in
    let byte = get_or text at 0 in
    let is : drop at text ≡ byte ∷ drop (at + 1) text = rw add-one (drop-cons text at 0 c.loop-at-test.true) in
    let slice : not inside && begins_arrow (byte ∷ take (length text - (at + 1)) (drop (at + 1) text)) ≡ true = search rules in
    let arrow = ap (λ (xs : List ℕ). not inside && begins_arrow (byte ∷ xs)) (sym (rest_from (at + 1) text)) ∙ slice in
    found_here at inside (drop at text) byte (drop (at + 1) text) _ is arrow c.loop-at.invariant

pub returns-clause-place : goal.returns-clause-place
returns-clause-place c = past_all c.loop-at.at c.loop-at.inside c.args.text.now _ (omega (arith, c.loop-at-test.false)) c.loop-at.invariant
