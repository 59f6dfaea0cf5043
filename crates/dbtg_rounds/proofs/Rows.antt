-- Worked rows: what the definitions of ways round say of small graphs.
-- u is a unit, i and j are states, us are units of turns.
use Rattle.std.proofs.Common.{◌≡◌, refl, ap, ℕ, zero, suc, ◌<◌, List, [], ◌∷◌, Contains, length, arith}
use Rattle.dbtg_rounds.specs.declared.edge.Edge.{Edge}
use Rattle.dbtg_rounds.specs.Rounds.{AreWithin, HasEdge, IsRound, Leads}

-- a turn of a unit, from one state to another
abbrev turn : ℕ → ℕ → ℕ → Edge
turn i u j = record { from = i; unit = u; to = j }

-- A RING OF THREE STATES

abbrev ring : List Edge
ring = turn 0 1 1 ∷ turn 1 2 2 ∷ turn 2 1 0 ∷ []

within_three : AreWithin 3 ring
within_three e (zero, low, is) = let from = ap (λ (x : Edge). x.from) is in let to = ap (λ (x : Edge). x.to) is in (omega (arith, from), omega (arith, to))
within_three e (suc zero, low, is) = let from = ap (λ (x : Edge). x.from) is in let to = ap (λ (x : Edge). x.to) is in (omega (arith, from), omega (arith, to))
within_three e (suc (suc zero), low, is) = let from = ap (λ (x : Edge). x.from) is in let to = ap (λ (x : Edge). x.to) is in (omega (arith, from), omega (arith, to))
within_three e (suc (suc (suc k)), low, is) = absurd (omega arith)

-- its three turns lead round it
leads_round : Leads ring 0 (1 ∷ 2 ∷ 1 ∷ []) 0
unfolding Leads
leads_round = (1, (0, omega arith, refl), (2, (1, omega arith, refl), (0, (2, omega arith, refl), refl)))

-- only unit 1 can have a turn in state 0
only_first : (u j : ℕ) → HasEdge ring 0 u j → 1 ≡ u
only_first u j (zero, low, is) = ap (λ (x : Edge). x.unit) is
only_first u j (suc zero, low, is) = let from = ap (λ (x : Edge). x.from) is in absurd (omega (arith, from))
only_first u j (suc (suc zero), low, is) = let from = ap (λ (x : Edge). x.from) is in absurd (omega (arith, from))
only_first u j (suc (suc (suc k)), low, is) = absurd (omega arith)

-- they are a way round
goes_round : IsRound ring 0 (1 ∷ 2 ∷ 1 ∷ [])
goes_round = record { goes = omega arith; comes_back = leads_round; fair = λ u j has. (0, omega arith, only_first u j has) }

-- one turn of unit 1 leads from state 0 to state 1 only
first_to : (j : ℕ) → HasEdge ring 0 1 j → 1 ≡ j
first_to j (zero, low, is) = ap (λ (x : Edge). x.to) is
first_to j (suc zero, low, is) = let from = ap (λ (x : Edge). x.from) is in absurd (omega (arith, from))
first_to j (suc (suc zero), low, is) = let from = ap (λ (x : Edge). x.from) is in absurd (omega (arith, from))
first_to j (suc (suc (suc k)), low, is) = absurd (omega arith)

-- one turn does not come back
no_way_back : IsRound ring 0 (1 ∷ []) → ⊥
unfolding Leads
no_way_back round = by round.comes_back where
  by : Leads ring 0 (1 ∷ []) 0 → ⊥
  by (k, has, rest) = let there = first_to k has in omega (arith, there, rest)

-- no turns are no way round
none_is_none : (es : List Edge) (i : ℕ) → IsRound es i [] → ⊥
none_is_none es i round = let goes = round.goes in omega arith

-- A UNIT THAT IS LEFT OUT

-- unit 3 can have a turn in state 0
abbrev waiting : List Edge
waiting = turn 0 3 0 ∷ ring

not_there : Contains {X = ℕ} (1 ∷ 2 ∷ 1 ∷ []) 3 → ⊥
not_there (zero, low, is) = omega (arith, is)
not_there (suc zero, low, is) = omega (arith, is)
not_there (suc (suc zero), low, is) = omega (arith, is)
not_there (suc (suc (suc k)), low, is) = omega arith

-- the way round the ring leaves it out
unfair : IsRound waiting 0 (1 ∷ 2 ∷ 1 ∷ []) → ⊥
unfair round = not_there (round.fair 3 0 (0, omega arith, refl))

-- with its turn the way round is fair
waiting_first : (u j : ℕ) → HasEdge waiting 0 u j → Contains (3 ∷ 1 ∷ 2 ∷ 1 ∷ []) u
waiting_first u j (zero, low, is) = (0, omega arith, ap (λ (x : Edge). x.unit) is)
waiting_first u j (suc k, low, is) = (1, omega arith, only_first u j (k, omega arith, is))

fair_with_it : IsRound waiting 0 (3 ∷ 1 ∷ 2 ∷ 1 ∷ [])
unfolding Leads
fair_with_it = record {
  goes = omega arith;
  comes_back = (0, (0, omega arith, refl), (1, (1, omega arith, refl), (2, (2, omega arith, refl), (0, (3, omega arith, refl), refl))));
  fair = waiting_first;
}

-- what counts is who can have a turn in the state where the way round begins
second_only : (u j : ℕ) → HasEdge waiting 1 u j → 2 ≡ u
second_only u j (zero, low, is) = let from = ap (λ (x : Edge). x.from) is in absurd (omega (arith, from))
second_only u j (suc zero, low, is) = let from = ap (λ (x : Edge). x.from) is in absurd (omega (arith, from))
second_only u j (suc (suc zero), low, is) = ap (λ (x : Edge). x.unit) is
second_only u j (suc (suc (suc zero)), low, is) = let from = ap (λ (x : Edge). x.from) is in absurd (omega (arith, from))
second_only u j (suc (suc (suc (suc k))), low, is) = absurd (omega arith)

fair_from_another_state : IsRound waiting 1 (2 ∷ 1 ∷ 1 ∷ [])
unfolding Leads
fair_from_another_state = record {
  goes = omega arith;
  comes_back = (2, (2, omega arith, refl), (0, (3, omega arith, refl), (1, (1, omega arith, refl), refl)));
  fair = λ u j has. (0, omega arith, second_only u j has);
}

-- NO EDGES

-- there is no way round in a graph without edges
none_without_edges : (i : ℕ) (us : List ℕ) → IsRound [] i us → ⊥
unfolding Leads
none_without_edges i us round = by us round.goes round.comes_back where
  by : (vs : List ℕ) → 0 < length vs → Leads [] i vs i → ⊥
  by [] goes leads = omega arith
  by (v ∷ vs) goes (k, (place, low, is), rest) = omega arith
