-- The turns so far, reversed, lead on from the state at the place.
use Rattle.std.proofs.Common.{ℕ, ◌<◌, Bool, List, length, reverse}
use Rattle.dbtg_rounds.specs.declared.edge.Edge.{Edge}
use Rattle.dbtg_rounds.specs.Inside.Reaching.{IsReached}
use Rattle.dbtg_rounds.proofs.Reached.{LeadOn}
use Rattle.dbtg_rounds.proofs.reach.Reached.units_to.Given as goal

abbrev pub invariant-loop-at : goal.invariant-loop-at
invariant-loop-at l = record {
  at_is_within : l.at < length l.self.states.items;
  leads : (es : List Edge) (marks : List Bool) (start : ℕ) → IsReached es marks start l.self → LeadOn es marks l.self l.at (reverse l.units.items) l.place;
}

abbrev pub decreases-loop-at : goal.decreases-loop-at
decreases-loop-at l = l.at
