-- The walk that is appended reaches the goal.
use Rattle.std.proofs.Common.{◌≡◌, ℕ, List, ◌++◌, sym, subst, ap, ◌∙◌}
use Rattle.std.proofs.lemmas.List.Elements.{Contains-append_right}
use Rattle.dbtg_rounds.specs.declared.walk.Goal.{Goal}
use Rattle.dbtg_rounds.specs.declared.walk.Goal.TheVariants.{Unit, State}
use Rattle.dbtg_rounds.specs.Inside.Reaching.{has_met}
use Rattle.dbtg_rounds.proofs.round.go_on.Goals as goal

-- turns before others leave the goal reached
met_behind : (goal : Goal) (us vs : List ℕ) (j : ℕ) → has_met goal vs j → has_met goal (us ++ vs) j
met_behind (Unit u) us vs j met = Contains-append_right us vs u met
met_behind (State i) us vs j met = met

pub returns-in_ok-extend_from_slice-in-Some-clause-met : goal.returns-in_ok-extend_from_slice-in-Some-clause-met
returns-in_ok-extend_from_slice-in-Some-clause-met c = λ _.
    let items : c.extend_from_slice.new.self.items ≡ c.args.taken.now.units.items ++ c.in-Some.further.units.items
    = c.in_ok-extend_from_slice-in-Some.ensures.items ∙ ap (λ (us : List ℕ). c.args.taken.now.units.items ++ us) c.as_slice.ensures.value in
    let met : has_met c.args.goal c.in-Some.further.units.items c.in-Some.further.end = rw c.in-Some.is at c.in_ok-walk_to.ensures.met in
    subst (λ (us : List ℕ). has_met c.args.goal us c.in-Some.further.end) (sym items)
    (met_behind c.args.goal c.args.taken.now.units.items c.in-Some.further.units.items c.in-Some.further.end met)
