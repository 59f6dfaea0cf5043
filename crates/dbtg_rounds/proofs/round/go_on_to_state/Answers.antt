-- Where the turns end in the state, none is appended; where no walk has a last turn to it, none leads there.
use Rattle.std.proofs.Common.{◌≡◌, ℕ, Bool, true, false, List, [], sym, append-nil, Result, Ok, Err, eq-eqb}
use Rattle.std.specs.Prelude.{Contains, IfOk}
use Rattle.std.specs.declared.alloc.AllocError.{AllocError}
use Rattle.dbtg_rounds.specs.declared.edge.Edge.{Edge}
use Rattle.dbtg_rounds.specs.declared.walk.Goal.TheVariants.{State}
use Rattle.dbtg_rounds.specs.Inside.Reaching.{IsIn, LeadsIn, meets}
use Rattle.dbtg_rounds.proofs.Walks.{no_turn, none_there}
use Rattle.dbtg_rounds.proofs.round.go_on_to_state.Goals as goal

pub returns-then-taken-state-clause-leads : goal.returns-then-taken-state-clause-leads
returns-then-taken-state-clause-leads c = λ _. record {
  further = [];
  units_are = sym (append-nil c.args.taken.now.units.items);
  leads = no_turn c.args.graph.now.edges c.args.within.now c.args.taken.now.end;
  marked = c.requires.end.0;
}

-- what a search for a last turn says of walks to the state
no_walk : (es : List Edge) (marks : List Bool) (i j : ℕ) → (i ≡ j → ⊥) → (r : Result Bool AllocError)
    → IfOk r (λ there. there ≡ false → (us : List ℕ) (e : Edge) → LeadsIn es marks i us e.from → Contains es e → IsIn marks e.to → meets (State j) e ≡ true → ⊥)
    → IfOk r (λ there. there ≡ false → (us : List ℕ) → LeadsIn es marks i us j → ⊥)
no_walk es marks i j other (Ok there) h = λ is. none_there es marks i j other (λ us e leads has marked to. h is us e leads has marked (eq-eqb e.to j to))
no_walk es marks i j other (Err e) h = tt

pub returns-clause-none : goal.returns-clause-none
returns-clause-none c = no_walk c.args.graph.now.edges c.args.within.now c.args.taken.now.end c.args.state c.if-taken-state.false c.go_on.result c.go_on.ensures.none
