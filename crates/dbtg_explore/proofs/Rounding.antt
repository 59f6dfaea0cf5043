-- Ways round: those of the turns that a search has noted are those of the meeting.
-- m is a meeting, u a unit, i, j and k are places of orders that are found, e is a turn from one to another, o a way round.
use Rattle.std.proofs.Common.{◌≡◌, refl, sym, ◌∙◌, ap, subst, ℕ, ◌<◌, ◌≤◌, List, [], ◌∷◌, ◌++◌, length, get_or, arith, inl, inr}
use Rattle.std.proofs.lemmas.Bool.{cases_lt}
use Rattle.std.proofs.lemmas.List.{get_or_default}
use Rattle.std.proofs.lemmas.List.Elements.{Contains-get_or}
use Rattle.dbtg_rounds.specs.Rounds.{AreWithin, IsRound, Leads}
use Rattle.dbtg_rounds.specs.declared.edge.Edge.{Edge}
use Rattle.dbtg_explore.specs.declared.explored.Endless.{Endless}
use Rattle.dbtg_explore.specs.Explored.{IsEndless}
use Rattle.dbtg_explore.specs.Inside.Search.{HasFirst}
use Rattle.dbtg_explore.specs.Inside.Steps.{AreAllFound, can_follow}
use Rattle.dbtg_explore.specs.Orders.{IsNoLater, IsOrder, Meeting, beginning}
use Rattle.dbtg_explore.specs.States.{essence_of}
use Rattle.dbtg_explore.proofs.Before.{no_later_trans}
use Rattle.dbtg_explore.proofs.Searched.{all_found, has_way, in_order_at, leads_on, no_later_at, one_place}
use Rattle.dbtg_explore.proofs.Steps.{goes_on}
use Rattle.dbtg_explore.proofs.Turning.{follow_front}

module _ (m : Meeting) (orders : List (List ℕ)) (edges : List Edge) (all : AreAllFound m orders edges) where
  abbrev order_at : ℕ → List ℕ
  order_at i = get_or orders i []

  pub are_within : AreWithin (length orders) edges
  are_within e c = let t = all.are_turns e c in (t.from_there, t.to_there)

  is_order_at : (i : ℕ) → i < length orders → IsOrder m (order_at i)
  is_order_at i low = all.are_orders (order_at i) (Contains-get_or orders i [] low)

  front : (p vs : List ℕ) → IsOrder m (p ++ vs) → IsOrder m p
  front p vs is = follow_front m (beginning m) p vs is

  -- a way round among the turns begins at a place
  pub begins_within : (start : ℕ) (units : List ℕ) → IsRound edges start units → start < length orders
  unfolding Leads
  begins_within start units round = by units round.goes round.comes_back where
    by : (us : List ℕ) → 0 < length us → Leads edges start us start → start < length orders
    by [] some l = absurd (omega (arith, some))
    by (u ∷ us) some l = (all.are_turns (record { from = start; unit = u; to = l.0 }) l.1).from_there

  -- and is one of the meeting
  pub is_endless : (start : ℕ) (units : List ℕ) → IsRound edges start units → IsEndless m (record { turns = order_at start; round = units })
  is_endless start units round =
      let low = begins_within start units round in
      let on = leads_on (IsOrder m) (can_follow m) (essence_of m) (goes_on m) orders edges (length orders) (omega arith) all units start start (order_at start) low (is_order_at start low) refl round.comes_back in
      record {
        is_order = on.0;
        comes_back = on.1;
        goes = round.goes;
        fair = λ u can. let turn = all.behind start u low can in round.fair u turn.0 turn.1;
      }

  record HasRound (o : Endless) : Type 0 where
    start : ℕ
    low : start < length orders
    same : essence_of m (order_at start) ≡ essence_of m o.turns
    round : IsRound edges start o.round

  -- each way round of the meeting is one among the turns
  has_round : (o : Endless) → IsEndless m o → HasRound o
  has_round o is = record {
    start = k;
    low = low;
    same = same;
    round = record {
      goes = is.goes;
      comes_back = subst (Leads edges k o.round) back way.2;
      fair = λ u j c.
          let turn = all.are_turns (record { from = k; unit = u; to = j }) c in
          is.fair u ((goes_on m).can_alike o.turns (order_at k) u (sym same) ∙ turn.can_turn);
    };
  } where
    turns_are : IsOrder m o.turns
    turns_are = front o.turns o.round is.is_order

    first : HasFirst (essence_of m) orders o.turns
    first = all_found (IsOrder m) (can_follow m) (essence_of m) (goes_on m) orders edges (length orders) (omega arith) all o.turns turns_are

    k : ℕ
    k = first.is_found.0

    low : k < length orders
    low = first.is_found.1

    same : essence_of m (order_at k) ≡ essence_of m o.turns
    same = ap (essence_of m) (get_or_default orders k [] first.first first.is_found.1 ∙ first.is_found.2) ∙ first.same

    way : (j : ℕ) × (j < length orders) × Leads edges k o.round j
    way = has_way (IsOrder m) (can_follow m) (essence_of m) (goes_on m) orders edges (length orders) (omega arith) all front o.round k o.turns low (sym same) is.is_order

    back : way.0 ≡ k
    back =
        let on = leads_on (IsOrder m) (can_follow m) (essence_of m) (goes_on m) orders edges (length orders) (omega arith) all o.round k way.0 o.turns low turns_are (sym same) way.2 in
        one_place (IsOrder m) (can_follow m) (essence_of m) (goes_on m) orders edges (length orders) (omega arith) all way.0 k way.1 low (sym on.1 ∙ is.comes_back ∙ sym same)

  -- if there is none among the turns, the meeting has none
  pub none_endless : ((start : ℕ) (units : List ℕ) → IsRound edges start units → ⊥) → (o : Endless) → IsEndless m o → ⊥
  none_endless none o is = let has = has_round o is in none has.start o.round has.round

  -- that of the first place is no later than any other
  pub first_endless : (start : ℕ) → start < length orders → ((k : ℕ) (units : List ℕ) → IsRound edges k units → start ≤ k) → (o : Endless) → IsEndless m o → IsNoLater (order_at start) o.turns
  first_endless start within first o is =
      let has = has_round o is in
      let le = first has.start o.round has.round in
      let later : IsNoLater (order_at has.start) o.turns = no_later_at (IsOrder m) (can_follow m) (essence_of m) (goes_on m) orders edges (length orders) (omega arith) all has.start o.turns has.low (front o.turns o.round is.is_order) has.same in
      elim (cases_lt start has.start) [
        | inl below ↦ no_later_trans (order_at start) (order_at has.start) o.turns (inr (in_order_at orders start has.start all.in_order below has.low)) later
        | inr above ↦ let same : has.start ≡ start = omega (arith, le, above) in subst (λ i. IsNoLater (order_at i) o.turns) same later
      ]
