-- Walks in a graph of states: one after another, in parts, and where they end.
-- es are the edges of a graph, marks say of each state whether it is marked, i, j and k are states, u is a unit, us and vs are units.
use Rattle.std.proofs.Common.{◌≡◌, refl, sym, ◌∙◌, ap, subst, ℕ, zero, suc, ◌+◌, ◌<◌, Bool, List, [], ◌∷◌, ◌++◌, length, get_or, inl, inr, ◌⊎◌, ⊎_elim, arith}
use Rattle.std.specs.Prelude.{Contains, slice_get}
use Rattle.std.proofs.lemmas.List.{get_or_default}
use Rattle.std.proofs.lemmas.Option.{get_or_from_slice_get}
use Rattle.dbtg_rounds.specs.declared.edge.Edge.{Edge}
use Rattle.dbtg_rounds.specs.declared.reach.Reached as given
use Rattle.dbtg_rounds.specs.Rounds.{AreWithin, HasEdge, Leads}
use Rattle.dbtg_rounds.specs.Inside.Reaching.{IsIn, IsReached, LeadsIn}

-- WALKS ONE AFTER ANOTHER

-- a walk, and one from where it ends
pub leads_on : (es : List Edge) (i j k : ℕ) (us vs : List ℕ) → Leads es i us j → Leads es j vs k → Leads es i (us ++ vs) k
unfolding Leads
leads_on es i j k [] vs first then = subst (λ (n : ℕ). Leads es n vs k) (sym first) then
leads_on es i j k (u ∷ us) vs first then = (first.0, first.1, leads_on es first.0 j k us vs first.2 then)

-- the same by way of marked states
pub leads_in_on : (es : List Edge) (marks : List Bool) (i j k : ℕ) (us vs : List ℕ) → LeadsIn es marks i us j → LeadsIn es marks j vs k → LeadsIn es marks i (us ++ vs) k
unfolding LeadsIn
leads_in_on es marks i j k [] vs first then = subst (λ (n : ℕ). LeadsIn es marks n vs k) (sym first) then
leads_in_on es marks i j k (u ∷ us) vs first then = (first.0, first.1, first.2, leads_in_on es marks first.0 j k us vs first.3 then)

-- no turn
pub no_turn : (es : List Edge) (marks : List Bool) (i : ℕ) → LeadsIn es marks i [] i
unfolding LeadsIn
no_turn es marks i = refl

pub no_turn_leads : (es : List Edge) (i : ℕ) → Leads es i [] i
unfolding Leads
no_turn_leads es i = refl

-- one turn
one_turn : (es : List Edge) (marks : List Bool) (i u j : ℕ) → HasEdge es i u j → IsIn marks j → LeadsIn es marks i (u ∷ []) j
unfolding LeadsIn
one_turn es marks i u j has marked = (j, has, marked, refl)

pub one_turn_leads : (es : List Edge) (i u j : ℕ) → HasEdge es i u j → Leads es i (u ∷ []) j
unfolding Leads
one_turn_leads es i u j has = (j, has, refl)

-- a walk and one turn more
pub one_turn_on : (es : List Edge) (marks : List Bool) (i j k u : ℕ) (us : List ℕ) → LeadsIn es marks i us j → HasEdge es j u k → IsIn marks k → LeadsIn es marks i (us ++ u ∷ []) k
one_turn_on es marks i j k u us leads has marked = leads_in_on es marks i j k us (u ∷ []) leads (one_turn es marks j u k has marked)

-- a walk by way of marked states is a walk
pub leads_there : (es : List Edge) (marks : List Bool) (i j : ℕ) (us : List ℕ) → LeadsIn es marks i us j → Leads es i us j
unfolding LeadsIn Leads
leads_there es marks i j [] leads = leads
leads_there es marks i j (u ∷ us) leads = (leads.0, leads.1, leads_there es marks leads.0 j us leads.3)

-- WHERE WALKS END

-- a walk ends among the states
pub end_within : (es : List Edge) (marks : List Bool) (states i j : ℕ) (us : List ℕ) → AreWithin states es → i < states → LeadsIn es marks i us j → j < states
unfolding LeadsIn
end_within es marks states i j [] within low leads = subst (λ (n : ℕ). n < states) leads low
end_within es marks states i j (u ∷ us) within low leads = end_within es marks states leads.0 j us within (within (record { from = i; unit = u; to = leads.0 }) leads.1).1 leads.3

-- WALKS IN PARTS

-- a walk with a turn of the unit, and the walks before and after that turn
pub record IsSplit (es : List Edge) (i u j : ℕ) : Type 0 where
  pub before : List ℕ
  pub from : ℕ
  pub to : ℕ
  pub after : List ℕ
  pub leads : Leads es i before from
  pub has : HasEdge es from u to
  pub goes_on : Leads es to after j

pub split : (es : List Edge) (i u j : ℕ) (us : List ℕ) → Leads es i us j → Contains us u → IsSplit es i u j
unfolding Leads
split es i u j [] leads there = absurd (omega (arith, there.1))
split es i u j (v ∷ us) leads (zero, low, is) = record {
  before = [];
  from = i;
  to = leads.0;
  after = us;
  leads = refl;
  has = subst (λ (n : ℕ). HasEdge es i n leads.0) is leads.1;
  goes_on = leads.2;
}
split es i u j (v ∷ us) leads (suc k, low, is) =
    let rest = split es leads.0 u j us leads.2 (k, omega arith, is) in
    record {
      before = v ∷ rest.before;
      from = rest.from;
      to = rest.to;
      after = rest.after;
      leads = (leads.0, leads.1, rest.leads);
      has = rest.has;
      goes_on = rest.goes_on;
    }

-- a walk with its last turn
pub record HasLast (es : List Edge) (marks : List Bool) (i j : ℕ) : Type 0 where
  pub before : List ℕ
  pub from : ℕ
  pub unit : ℕ
  pub leads : LeadsIn es marks i before from
  pub has : HasEdge es from unit j
  pub marked : IsIn marks j

-- a walk has no turn, or a last one
pub last_turn : (es : List Edge) (marks : List Bool) (i j : ℕ) (us : List ℕ) → LeadsIn es marks i us j → (i ≡ j) ⊎ HasLast es marks i j
unfolding LeadsIn
last_turn es marks i j [] leads = inl leads
last_turn es marks i j (u ∷ us) leads = ⊎_elim
    (λ (none : leads.0 ≡ j). inr (record { before = []; from = i; unit = u; leads = refl; has = subst (λ (n : ℕ). HasEdge es i u n) none leads.1; marked = subst (IsIn marks) none leads.2 }))
    (λ (last : HasLast es marks leads.0 j). inr (record {
      before = u ∷ last.before;
      from = last.from;
      unit = last.unit;
      leads = (leads.0, leads.1, leads.2, last.leads);
      has = last.has;
      marked = last.marked;
    }))
    (last_turn es marks leads.0 j us leads.3)

-- no walk leads to another state if none leads to an edge that ends there
pub none_there : (es : List Edge) (marks : List Bool) (i j : ℕ) → (i ≡ j → ⊥) → ((us : List ℕ) (e : Edge) → LeadsIn es marks i us e.from → Contains es e → IsIn marks e.to → e.to ≡ j → ⊥)
    → (us : List ℕ) → LeadsIn es marks i us j → ⊥
none_there es marks i j other none us leads = ⊎_elim other
    (λ (last : HasLast es marks i j). none last.before (record { from = last.from; unit = last.unit; to = j }) last.leads last.has last.marked refl)
    (last_turn es marks i j us leads)

-- WHAT IS REACHED

-- a walk leads to each state that is reached
pub led_at : (es : List Edge) (marks : List Bool) (start : ℕ) (r : given.Reached) → IsReached es marks start r
    → (most place : ℕ) → place < most → place < length r.states.items → (us : List ℕ) × LeadsIn es marks start us (get_or r.states.items place 0)
led_at es marks start r reached zero place low within = absurd (omega arith)
led_at es marks start r reached (suc most) zero low within = ([], subst (λ (n : ℕ). LeadsIn es marks start [] n) (sym (get_or_from_slice_get r.states.items 0 start 0 reached.begins)) (no_turn es marks start))
led_at es marks start r reached (suc most) (suc place) low within =
    let counted = reached.counted in
    let linked = reached.linked place (omega arith) in
    let earlier = linked.earlier in
    let before = led_at es marks start r reached most linked.link.before (omega arith) (omega arith) in
    let from : get_or r.states.items linked.link.before 0 ≡ linked.from = get_or_from_slice_get r.states.items linked.link.before linked.from 0 linked.from_is in
    let next : suc place ≡ place + 1 = omega arith in
    let to : get_or r.states.items (suc place) 0 ≡ linked.to = get_or_from_slice_get r.states.items (suc place) linked.to 0 (ap (slice_get r.states.items) next ∙ linked.to_is) in
    let led : LeadsIn es marks start (before.0 ++ linked.link.unit ∷ []) linked.to
    = one_turn_on es marks start linked.from linked.to linked.link.unit before.0 (subst (λ (n : ℕ). LeadsIn es marks start before.0 n) from before.1) linked.has linked.marked in
    (before.0 ++ linked.link.unit ∷ [], subst (λ (n : ℕ). LeadsIn es marks start (before.0 ++ linked.link.unit ∷ []) n) (sym to) led)

-- a walk leads to each state that is seen
pub led_to : (es : List Edge) (marks : List Bool) (start i : ℕ) (r : given.Reached) → IsReached es marks start r → IsIn r.seen.items i → (us : List ℕ) × LeadsIn es marks start us i
led_to es marks start i r reached seen =
    let there = reached.seen i seen in
    let led = led_at es marks start r reached (suc there.0) there.0 (omega arith) there.1 in
    let at : get_or r.states.items there.0 0 ≡ i = get_or_default r.states.items there.0 0 i there.1 ∙ there.2 in
    (led.0, subst (λ (n : ℕ). LeadsIn es marks start led.0 n) at led.1)
