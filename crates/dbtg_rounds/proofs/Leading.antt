-- The states that lead to a first one, and the ways round that begin in it.
-- es and bs are the edges of graphs, marks say of each state whether it is marked, i, j and k are states, u is a unit, us and vs are units.
use Rattle.std.proofs.Common.{◌≡◌, refl, sym, subst, ℕ, ◌<◌, Bool, List, [], ◌∷◌, ◌++◌, length, length-append, arith}
use Rattle.std.specs.Prelude.{Contains}
use Rattle.std.proofs.lemmas.List.Elements.{Contains-append_left}
use Rattle.dbtg_rounds.specs.declared.edge.Edge.{Edge}
use Rattle.dbtg_rounds.specs.declared.walk.Walk as given
use Rattle.dbtg_rounds.specs.Rounds.{AreWithin, HasEdge, IsRound, Leads}
use Rattle.dbtg_rounds.specs.Inside.CutOff.{HasCutOff}
use Rattle.dbtg_rounds.specs.Inside.Graphs.{AreReversed}
use Rattle.dbtg_rounds.specs.Inside.Reaching.{GoesOn, IsIn, LeadsIn}
use Rattle.dbtg_rounds.proofs.Walks.{leads_in_on, leads_on, leads_there, no_turn, no_turn_leads, one_turn_leads, one_turn_on, split}

-- WALKS REVERSED

module _ (es bs : List Edge) (are : AreReversed es bs) where
  -- a walk among the reversed edges, reversed
  pub reversed_walk : (i j : ℕ) (us : List ℕ) → Leads bs i us j → (vs : List ℕ) × Leads es j vs i
  unfolding Leads
  reversed_walk i j [] leads = ([], sym leads)
  reversed_walk i j (u ∷ us) leads =
      let rest = reversed_walk leads.0 j us leads.2 in
      (rest.0 ++ u ∷ [], leads_on es j leads.0 i rest.0 (u ∷ []) rest.1 (one_turn_leads es leads.0 u i (are.back (record { from = i; unit = u; to = leads.0 }) leads.1)))

  -- a walk, reversed, is one by way of marked states if all states are marked
  pub walk_reversed : (marks : List Bool) (states : ℕ) → AreWithin states bs → ((k : ℕ) → k < states → IsIn marks k)
      → (i j : ℕ) (us : List ℕ) → Leads es i us j → (vs : List ℕ) × LeadsIn bs marks j vs i
  unfolding Leads
  walk_reversed marks states within all i j [] leads = ([], subst (λ (n : ℕ). LeadsIn bs marks j [] n) (sym leads) (no_turn bs marks j))
  walk_reversed marks states within all i j (u ∷ us) leads =
      let rest = walk_reversed marks states within all leads.0 j us leads.2 in
      let has : HasEdge bs leads.0 u i = are.forth (record { from = i; unit = u; to = leads.0 }) leads.1 in
      let low : i < states = (within (record { from = leads.0; unit = u; to = i }) has).1 in
      (rest.0 ++ u ∷ [], one_turn_on bs marks j leads.0 i u rest.0 rest.1 has (all i low))

-- THE STATES THAT LEAD TO THE FIRST

-- the marked states are those that lead to the first
pub record AreLeading (es : List Edge) (marks : List Bool) (start : ℕ) : Type 0 where
  pub forth : (i : ℕ) → IsIn marks i → (us : List ℕ) × Leads es i us start
  pub back : (i : ℕ) (us : List ℕ) → Leads es i us start → IsIn marks i

module _ (es : List Edge) (marks : List Bool) (start : ℕ) (are : AreLeading es marks start) where
  -- the first is marked
  pub first_marked : IsIn marks start
  first_marked = are.back start [] (no_turn_leads es start)

  -- a walk from which another leads to the first goes by way of marked states
  pub goes_within : (i j : ℕ) (us vs : List ℕ) → Leads es i us j → Leads es j vs start → LeadsIn es marks i us j
  unfolding Leads LeadsIn
  goes_within i j [] vs leads then = leads
  goes_within i j (u ∷ us) vs leads then = (leads.0, leads.1, are.back leads.0 (us ++ vs) (leads_on es leads.0 j start us vs leads.2 then), goes_within leads.0 j us vs leads.2 then)

  -- a walk by way of marked states leads from each marked state to the first
  pub comes_back : (i : ℕ) → IsIn marks i → (us : List ℕ) × LeadsIn es marks i us start
  comes_back i marked =
      let there = are.forth i marked in
      (there.0, goes_within i start there.0 [] there.1 (no_turn_leads es start))

  -- no way round begins in the first state if a unit that can have a turn there is cut off from a marked state
  pub cut_off : (units : List ℕ) → HasCutOff es marks start → IsRound es start units → ⊥
  unfolding Leads
  cut_off units cut round =
      let parts = split es start cut.unit start units round.comes_back (round.fair cut.unit cut.to cut.has) in
      let there = are.forth cut.at cut.marked in
      let on : Leads es cut.at (there.0 ++ parts.before) parts.from = leads_on es cut.at start parts.from there.0 parts.before there.1 parts.leads in
      let home : Leads es parts.from (cut.unit ∷ parts.after) start = (parts.to, parts.has, parts.goes_on) in
      cut.is_cut_off (there.0 ++ parts.before) (record { from = parts.from; unit = cut.unit; to = parts.to })
      (goes_within cut.at parts.from (there.0 ++ parts.before) (cut.unit ∷ parts.after) on home)
      parts.has (are.back parts.to parts.after parts.goes_on) refl

-- no way round begins in a state in which no unit can have a turn
pub no_first_turn : (es : List Edge) (start : ℕ) (units : List ℕ) → ((u j : ℕ) → HasEdge es start u j → ⊥) → IsRound es start units → ⊥
unfolding Leads
no_first_turn es start units none round = first units round.goes round.comes_back where
  first : (us : List ℕ) → 0 < length us → Leads es start us start → ⊥
  first [] goes leads = omega arith
  first (u ∷ us) goes leads = none u leads.0 leads.1

-- turns of each unit that can have one, and further ones that lead back
pub is_round : (es : List Edge) (marks : List Bool) (start : ℕ) (old new : given.Walk) → LeadsIn es marks start old.units.items old.end → ((u j : ℕ) → HasEdge es start u j → Contains old.units.items u)
    → 0 < length old.units.items → GoesOn es marks old new → new.end ≡ start → IsRound es start new.units.items
is_round es marks start old new leads each some on back =
    let further = on.further in
    let whole : LeadsIn es marks start (old.units.items ++ further) new.end = leads_in_on es marks start old.end new.end old.units.items further leads on.leads in
    let home : Leads es start (old.units.items ++ further) start = subst (λ (n : ℕ). Leads es start (old.units.items ++ further) n) back (leads_there es marks start new.end (old.units.items ++ further) whole) in
    subst (IsRound es start) (sym on.units_are) (record {
      goes = omega (arith, length-append old.units.items further);
      comes_back = home;
      fair = λ u j has. Contains-append_left old.units.items further u (each u j has);
    })
