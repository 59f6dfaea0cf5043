-- Ranks that do not rise along any edge rule out that ways round begin.
-- es are the edges of a graph, us are units of turns, i, j and k are states, u is a unit, left are marks of ranks.
use Rattle.std.proofs.Common.{◌≡◌, refl, sym, ◌∙◌, ap, subst, ℕ, zero, suc, ◌+◌, ◌<◌, ◌≤◌, ◌⊎◌, inl, inr, Bool, List, [], ◌∷◌, Contains, false, length, get_or, take, replicate, arith}
use Rattle.std.proofs.lemmas.Bool.{both_ways, cases_lt}
use Rattle.std.proofs.lemmas.List.{get_or-replicate, get_or_past, length-replicate, take_all, take_more}
use Rattle.std.proofs.lemmas.List.Elements.{Contains-get_or, Contains-push_cases}
use Rattle.dbtg_rounds.specs.declared.edge.Edge.{Edge}
use Rattle.dbtg_rounds.specs.Rounds.{AreWithin, HasEdge, IsRound, Leads}
use Rattle.dbtg_rounds.specs.Inside.Reaching.{IsIn, is_in}
use Rattle.dbtg_rounds.specs.Inside.Ruling.{AreFalling, AreLeft, AreRuled, LeavesRank, rank_of}

-- EDGES BY THEIR PLACES

-- an edge at a place begins in one of the states
pub from_within : (states : ℕ) (es : List Edge) (place : ℕ) (d : Edge) → AreWithin states es → place < length es → (get_or es place d).from < states
from_within states es place d within low = (within (get_or es place d) (Contains-get_or es place d low)).0

-- an edge at a place ends in one of the states
pub to_within : (states : ℕ) (es : List Edge) (place : ℕ) (d : Edge) → AreWithin states es → place < length es → (get_or es place d).to < states
to_within states es place d within low = (within (get_or es place d) (Contains-get_or es place d low)).1

-- equal edges are within an equal number of states
pub same_within : (n m : ℕ) (es fs : List Edge) → n ≡ m → es ≡ fs → AreWithin n es → AreWithin m fs
same_within n m es fs states edges within = λ e has.
    let both = within e (subst (λ (l : List Edge). Contains l e) (sym edges) has) in
    let P : ℕ → Type 0 = λ k. (e.from < k) × (e.to < k) in
    subst P states both

-- an edge before the next place is before this place, or at it
one_more : (es : List Edge) (place : ℕ) (d e : Edge) → place < length es → Contains (take (place + 1) es) e → Contains (take place es) e ⊎ (get_or es place d ≡ e)
one_more es place d e low c = Contains-push_cases (take place es) (get_or es place d) e (subst (λ (l : List Edge). Contains l e) (take_more es place d low) c)

-- ranks do not rise along edges before the last place
pub all_falling : (ranks : List ℕ) (es : List Edge) (place : ℕ) → length es ≤ place → AreFalling ranks (take place es) → AreFalling ranks es
all_falling ranks es place long falling = subst (AreFalling ranks) (take_all place es long) falling

-- no edge before the last place stays on a marked rank
pub all_left : (ranks : List ℕ) (es : List Edge) (u : ℕ) (left : List Bool) (place : ℕ) → length es ≤ place → AreLeft ranks (take place es) u left → AreLeft ranks es u left
all_left ranks es u left place long are = subst (λ (l : List Edge). AreLeft ranks l u left) (take_all place es long) are

-- no edge before the next place stays on a marked rank, if the edge at this place does not
pub left_more : (ranks : List ℕ) (es : List Edge) (u : ℕ) (old new : List Bool) (place : ℕ) (d : Edge) → place < length es → AreLeft ranks (take place es) u old → ((k : ℕ) → IsIn new k → IsIn old k) → ((get_or es place d).unit ≡ u → rank_of ranks (get_or es place d).to ≡ rank_of ranks (get_or es place d).from → IsIn new (rank_of ranks (get_or es place d).from) → ⊥) → AreLeft ranks (take (place + 1) es) u new
left_more ranks es u old new place d low are fewer here e c unit_is level marked =
    elim (one_more es place d e low c) [
      | inl before ↦ are e before unit_is level (fewer (rank_of ranks e.from) marked)
      | inr same ↦
          let P : Edge → Type 0 = λ x. x.unit ≡ u → rank_of ranks x.to ≡ rank_of ranks x.from → IsIn new (rank_of ranks x.from) → ⊥ in
          subst P same here unit_is level marked
    ]

-- RANKS ALONG TURNS

-- turns lead to no higher rank
pub falling_along : (ranks : List ℕ) (es : List Edge) → AreFalling ranks es → (us : List ℕ) (i j : ℕ) → Leads es i us j → rank_of ranks j ≤ rank_of ranks i
unfolding Leads
falling_along ranks es falling [] i j same = let e = ap (rank_of ranks) same in omega (arith, e)
falling_along ranks es falling (u ∷ us) i j (k, has, rest) =
    let first = falling (record { from = i; unit = u; to = k }) has in
    let others = falling_along ranks es falling us k j rest in
    omega (arith, first, others)

-- an edge of the unit stays on this rank
pub record StaysOn (ranks : List ℕ) (es : List Edge) (u rank : ℕ) : Type 0 where
  pub edge : Edge
  pub has : Contains es edge
  pub unit_is : edge.unit ≡ u
  pub from_is : rank_of ranks edge.from ≡ rank
  pub to_is : rank_of ranks edge.to ≡ rank

-- each unit of turns that lead to the rank on which they begin has an edge that stays on it
pub staying : (ranks : List ℕ) (es : List Edge) → AreFalling ranks es → (us : List ℕ) (i j : ℕ) → Leads es i us j → rank_of ranks i ≤ rank_of ranks j → (u : ℕ) → Contains us u → StaysOn ranks es u (rank_of ranks i)
unfolding Leads
staying ranks es falling [] i j leads high u (place, low, is) = absurd (omega arith)
staying ranks es falling (v ∷ us) i j (k, has, rest) high u (zero, low, is) =
    let first = falling (record { from = i; unit = v; to = k }) has in
    let others = falling_along ranks es falling us k j rest in
    record { edge = record { from = i; unit = v; to = k }; has = has; unit_is = is; from_is = refl; to_is = omega (arith, first, others, high) }
staying ranks es falling (v ∷ us) i j (k, has, rest) high u (suc place, low, is) =
    let first = falling (record { from = i; unit = v; to = k }) has in
    let others = falling_along ranks es falling us k j rest in
    let same : rank_of ranks k ≡ rank_of ranks i = omega (arith, first, others, high) in
    let later : rank_of ranks k ≤ rank_of ranks j = omega (arith, first, high) in
    subst (StaysOn ranks es u) same (staying ranks es falling us k j rest later u (place, omega arith, is))

-- WAYS ROUND

-- no way round begins where a unit can have a turn, but none that stays on the rank
pub none_leaving : (ranks : List ℕ) (es : List Edge) (u : ℕ) (left : List Bool) (start : ℕ) (units : List ℕ) → AreFalling ranks es → AreLeft ranks es u left → LeavesRank ranks es u left start → IsRound es start units → ⊥
none_leaving ranks es u left start units falling are leaves round =
    let e = leaves.edge in
    let same : e ≡ record { from = start; unit = u; to = e.to } = λ i. record { from = leaves.from_is i; unit = leaves.unit_is i; to = e.to } in
    let has : HasEdge es start u e.to = subst (Contains es) same leaves.has in
    let stays = staying ranks es falling units start start round.comes_back (omega arith) u (round.fair u e.to has) in
    let marked : IsIn left (rank_of ranks stays.edge.from) = subst (IsIn left) (sym stays.from_is) leaves.marked in
    are stays.edge stays.has stays.unit_is (stays.to_is ∙ sym stays.from_is) marked

-- states are ruled out that were so before, or from which the unit leaves their rank
pub ruled_more : (ranks : List ℕ) (es : List Edge) (u : ℕ) (left old new : List Bool) → AreFalling ranks es → AreLeft ranks es u left → ((i : ℕ) → IsIn new i → IsIn old i ⊎ LeavesRank ranks es u left i) → AreRuled es old → AreRuled es new
ruled_more ranks es u left old new falling are more ruled start units marked round =
    elim (more start marked) [
      | inl before ↦ ruled start units before round
      | inr leaves ↦ none_leaving ranks es u left start units falling are leaves round
    ]

-- no state is marked at first
pub none_ruled : (es : List Edge) (n : ℕ) (marks : List Bool) → marks ≡ replicate n false → AreRuled es marks
none_ruled es n marks none start units marked = absurd (both_ways _ (unmarked n start) (subst (λ (l : List Bool). IsIn l start) none marked)) where
  unmarked : (n i : ℕ) → is_in (replicate n false) i ≡ false
  unmarked n i = elim (cases_lt i n) [
    | inl below ↦ get_or-replicate n i false false below
    | inr above ↦ get_or_past (replicate n false) i false (omega (arith, length-replicate n false))
  ]
