-- Ways round in a graph, where the same edges stand in another order.
-- es and fs are edges, us are units of turns, i and j are states, u is a unit.
use Rattle.std.proofs.Common.{◌≡◌, subst, ℕ, ◌+◌, ◌<◌, inl, inr, List, [], ◌∷◌, length, arith}
use Rattle.std.proofs.lemmas.Bool.{cases_lt}
use Rattle.dbtg_rounds.specs.declared.edge.Edge.{Edge}
use Rattle.dbtg_rounds.specs.Rounds.{AreWithin, IsRound, Leads}
use Rattle.dbtg_rounds.specs.Inside.Graphs.{HaveSame}

-- turns lead on by the same edges
pub leads_same : (es fs : List Edge) → HaveSame es fs → (us : List ℕ) (i j : ℕ) → Leads es i us j → Leads fs i us j
unfolding Leads
leads_same es fs same [] i j leads = leads
leads_same es fs same (u ∷ us) i j (k, has, rest) = (k, same.forth (record { from = i; unit = u; to = k }) has, leads_same es fs same us k j rest)

-- a way round is one by the same edges
pub round_same : (es fs : List Edge) → HaveSame es fs → (start : ℕ) (units : List ℕ) → IsRound es start units → IsRound fs start units
round_same es fs same start units round = record {
  goes = round.goes;
  comes_back = leads_same es fs same units start start round.comes_back;
  fair = λ u j has. round.fair u j (same.back (record { from = start; unit = u; to = j }) has);
}

-- the same edges, the other way round
pub same_back : (es fs : List Edge) → HaveSame es fs → HaveSame fs es
same_back es fs same = record { forth = same.back; back = same.forth }

-- a way round begins in one of the states
pub begins_within : (states : ℕ) (es : List Edge) → AreWithin states es → (start : ℕ) (units : List ℕ) → IsRound es start units → start < states
unfolding Leads
begins_within states es within start units round = by units round.goes round.comes_back where
  by : (us : List ℕ) → 0 < length us → Leads es start us start → start < states
  by [] goes leads = absurd (omega arith)
  by (u ∷ us) goes (k, has, rest) = (within (record { from = start; unit = u; to = k }) has).0

-- no way round begins before the next state, if none begins before this one or in it
pub none_next : (es : List Edge) (state : ℕ) → ((start : ℕ) (units : List ℕ) → start < state → IsRound es start units → ⊥) → ((units : List ℕ) → IsRound es state units → ⊥) → (start : ℕ) (units : List ℕ) → start < state + 1 → IsRound es start units → ⊥
none_next es state before here start units low round =
    elim (cases_lt start state) [
      | inl less ↦ before start units less round
      | inr more ↦ let same : start ≡ state = omega arith in here units (subst (λ (i : ℕ). IsRound es i units) same round)
    ]
