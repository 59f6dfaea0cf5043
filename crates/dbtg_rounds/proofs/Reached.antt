-- What a search reaches: nothing is lost, all is linked, and at the end each marked state to which a seen one leads is seen.
-- es are the edges of a graph, marks say of each state whether it is marked, r is what is reached, i and j are states, u is a unit, k is a place.
use Rattle.std.proofs.Common.{◌≡◌, ℕ, zero, suc, ◌+◌, ◌-◌, ◌<◌, ◌≤◌, Bool, true, false, cond, List, [], ◌∷◌, ◌++◌, Some, Contains, count_by, length, get_or, set, slice_get, slice_index, reverse, refl, sym, ap, ◌∙◌, subst, arith, ◌⊎◌, inl, inr, ⊎_elim}
use Rattle.std.specs.List.{AllWithin}
use Rattle.std.proofs.lemmas.Bool.{cases_lt, cases_eq}
use Rattle.std.proofs.lemmas.List.{get_or_default, get_or-set_other, get_or-set_same, length-set, length_push, reverse-append}
use Rattle.std.proofs.lemmas.List.Elements.{Contains-append_left, Contains-get_or, Contains-push, Contains-push_cases}
use Rattle.std.proofs.lemmas.List.Sums.{sum_by-set}
use Rattle.std.proofs.lemmas.Option.{get_or_from_slice_get, same_Some, slice_get-get_or, slice_get_within}
use Rattle.dbtg_rounds.specs.Rounds.{AreWithin, HasEdge}
use Rattle.dbtg_rounds.specs.declared.edge.Edge.{Edge}
use Rattle.dbtg_rounds.specs.declared.reach.Link.{Link}
use Rattle.dbtg_rounds.specs.declared.reach.Reached as given
use Rattle.dbtg_rounds.specs.Inside.Reaching.{AreCounted, Grows, IsAppended, IsIn, IsLinked, IsReached, IsWidened, LeadsIn, Meets}

-- LISTS WITH ONE MORE

-- what a place had, it still has
get_before : {X : Type 0} (xs : List X) (y : X) (k : ℕ) (x : X) → slice_get xs k ≡ Some x → slice_get (xs ++ y ∷ []) k ≡ Some x
get_before [] y k x h = absurd (omega (arith, slice_get_within [] k x h))
get_before (z ∷ xs) y zero x h = h
get_before (z ∷ xs) y (suc k) x h = get_before xs y k x h

-- and behind them is the new one
get_last : {X : Type 0} (xs : List X) (y : X) (k : ℕ) → k ≡ length xs → slice_get (xs ++ y ∷ []) k ≡ Some y
get_last [] y zero is = refl
get_last [] y (suc k) is = absurd (omega arith)
get_last (z ∷ xs) y zero is = absurd (omega arith)
get_last (z ∷ xs) y (suc k) is = get_last xs y k (omega arith)

-- A STATE IS MET

-- one if it is true
abbrev one : Bool → ℕ
one b = cond b 1 0

module _ (es : List Edge) (marks : List Bool) (before unit state i : ℕ) (old new : given.Reached) where
  module _ (h : IsAppended before unit state old new) (low : state < length old.seen.items) where
    -- the state is seen
    now_seen : IsIn new.seen.items state
    now_seen = ap (λ (xs : List Bool). get_or xs state false) h.seen_are ∙ get_or-set_same old.seen.items state true false low

    -- and the others that were
    still_seen : (j : ℕ) → IsIn old.seen.items j → IsIn new.seen.items j
    still_seen j was = ⊎_elim
        (λ same. subst (IsIn new.seen.items) (sym same) now_seen)
        (λ other. ap (λ (xs : List Bool). get_or xs j false) h.seen_are ∙ get_or-set_other old.seen.items state j true false other ∙ was)
        (cases_eq j state)

    -- and no more
    only_seen : (j : ℕ) → IsIn new.seen.items j → (state ≡ j) ⊎ IsIn old.seen.items j
    only_seen j is = ⊎_elim
        (λ same. inl (sym same))
        (λ other. inr (sym (get_or-set_other old.seen.items state j true false other) ∙ sym (ap (λ (xs : List Bool). get_or xs j false) h.seen_are) ∙ is))
        (cases_eq j state)

    -- the states that were reached keep their places
    still_at : (k j : ℕ) → slice_get old.states.items k ≡ Some j → slice_get new.states.items k ≡ Some j
    still_at k j at = ap (λ (xs : List ℕ). slice_get xs k) h.states_are ∙ get_before old.states.items state k j at

    -- one more is seen, as one more is reached
    one_more : AreCounted old → AreCounted new
    one_more counted =
        let more = sum_by-set one old.seen.items state true false low in
        let none : one (get_or old.seen.items state false) ≡ 0 = ap one h.unseen in
        let seen : count_by (λ (b : Bool). b) new.seen.items ≡ count_by (λ (b : Bool). b) (set old.seen.items state true) = ap (count_by (λ (b : Bool). b)) h.seen_are in
        let long : length new.states.items ≡ length old.states.items + 1 = ap length h.states_are ∙ length_push old.states.items state in
        omega arith

    -- a link that was there is still right
    still_linked : (k : ℕ) → IsLinked es marks old.states.items old.links.items k → IsLinked es marks new.states.items new.links.items k
    still_linked k l = record {
      link = l.link;
      link_is = ap (λ (xs : List Link). slice_get xs k) h.links_are ∙ get_before old.links.items _ k l.link l.link_is;
      earlier = l.earlier;
      from = l.from;
      from_is = still_at l.link.before l.from l.from_is;
      to = l.to;
      to_is = still_at (k + 1) l.to l.to_is;
      has = l.has;
      marked = l.marked;
    }

    module _ (at : slice_get old.states.items before ≡ Some i) (has : HasEdge es i unit state) (marked : IsIn marks state) where
      -- so is the new one
      now_linked : (k : ℕ) → k ≡ length old.links.items → length old.states.items ≡ length old.links.items + 1 → IsLinked es marks new.states.items new.links.items k
      now_linked k last counted = record {
        link = record { before = before; unit = unit };
        link_is = ap (λ (xs : List Link). slice_get xs k) h.links_are ∙ get_last old.links.items _ k last;
        earlier = omega (arith, slice_get_within old.states.items before i at);
        from = i;
        from_is = still_at before i at;
        to = state;
        to_is = ap (λ (xs : List ℕ). slice_get xs (k + 1)) h.states_are ∙ get_last old.states.items state (k + 1) (omega arith);
        has = has;
        marked = marked;
      }

      -- all that is reached is still linked
      still_reached : (start : ℕ) → IsReached es marks start old → IsReached es marks start new
      still_reached start r =
          let links : length new.links.items ≡ length old.links.items + 1 = ap length h.links_are ∙ length_push old.links.items _ in
          let states : length new.states.items ≡ length old.states.items + 1 = ap length h.states_are ∙ length_push old.states.items state in
          record {
            begins = still_at 0 start r.begins;
            counted = omega (arith, links, states, r.counted);
            linked = λ k low. ⊎_elim
                (λ below. still_linked k (r.linked k below))
                (λ above. now_linked k (omega (arith, above, low, links)) r.counted)
                (cases_lt k (length old.links.items));
            seen = λ j is. subst (λ (xs : List ℕ). Contains xs j) (sym h.states_are) (⊎_elim
                (λ same. subst (Contains (old.states.items ++ state ∷ [])) same (Contains-push old.states.items state))
                (λ was. Contains-append_left old.states.items (state ∷ []) j (r.seen j was))
                (only_seen j is));
            met = λ j is. ⊎_elim
                (λ was. still_seen j (r.met j was))
                (λ same. subst (IsIn new.seen.items) same now_seen)
                (Contains-push_cases old.states.items state j (subst (λ (xs : List ℕ). Contains xs j) h.states_are is));
          }

      -- so nothing is lost
      appended : Grows es marks old new
      appended = record {
        reached = still_reached;
        counted = one_more;
        long = ap length h.seen_are ∙ length-set old.seen.items state true;
        seen = still_seen;
        states = still_at;
      }

-- nothing has changed
pub stays : (es : List Edge) (marks : List Bool) (r : given.Reached) → Grows es marks r r
stays es marks r = record {
  reached = λ start h. h;
  counted = λ h. h;
  long = refl;
  seen = λ i h. h;
  states = λ k i h. h;
}

-- one step after another
pub grows_more : (es : List Edge) (marks : List Bool) (r s t : given.Reached) → Grows es marks r s → Grows es marks s t → Grows es marks r t
grows_more es marks r s t f g = record {
  reached = λ start h. g.reached start (f.reached start h);
  counted = λ h. g.counted (f.counted h);
  long = g.long ∙ f.long;
  seen = λ i h. g.seen i (f.seen i h);
  states = λ k i h. g.states k i (f.states k i h);
}

-- an edge from the state at a place leads to a marked state, which is met
pub met : (es : List Edge) (marks : List Bool) (before : ℕ) (e : Edge) (old new : given.Reached) → Contains es e → slice_get old.states.items before ≡ Some e.from → IsIn marks e.to → e.to < length old.seen.items → Meets before e.unit e.to old new → Grows es marks old new × IsIn new.seen.items e.to
met es marks before e old new has at marked low meets = ⊎_elim
    (λ was. (subst (Grows es marks old) (sym was.1) (stays es marks old), subst (λ (r : given.Reached). IsIn r.seen.items e.to) (sym was.1) was.0))
    (λ h. (appended es marks before e.unit e.to e.from old new h low at has marked, now_seen es marks before e.unit e.to e.from old new h low))
    meets

-- THE EDGES OF A STATE

-- the marked ends of the edges in front of a place are seen
abbrev pub AreSeen : List Edge → List Bool → ℕ → given.Reached → Type 0
AreSeen fs marks k r = AllWithin (λ (e : Edge). IsIn marks e.to → IsIn r.seen.items e.to) fs 0 k

-- fs are the edges that begin in the state at a place
module _ (es fs : List Edge) (marks : List Bool) (states place i : ℕ) (old : given.Reached) (low : place < length old.states.items) (at : i ≡ get_or old.states.items place i) (only : (e : Edge) → Contains fs e → Contains es e × (e.from ≡ i)) where
  -- the end of one is met, if it is marked
  pub met_at : (k : ℕ) (d : Edge) (r s : given.Reached) → k < length fs → Grows es marks old r → AreWithin states es → length old.seen.items ≡ states → IsIn marks (get_or fs k d).to → Meets place (get_or fs k d).unit (get_or fs k d).to r s → Grows es marks r s × IsIn s.seen.items (get_or fs k d).to
  met_at k d r s here g within long marked meets =
      let e = get_or fs k d in
      let is = only e (Contains-get_or fs k d here) in
      let there : slice_get r.states.items place ≡ Some i = g.states place i (slice_get-get_or old.states.items place i low ∙ ap Some (sym at)) in
      let few : e.to < length r.seen.items = omega (arith, (within e is.0).1, g.long, long) in
      met es marks place e r s is.0 (there ∙ ap Some (sym is.1)) marked few meets

  -- where the marked ends of all are seen, the state is widened
  pub widened_by : (r : given.Reached) → AreSeen fs marks (length fs) r → ((e : Edge) → Contains es e → e.from ≡ i → Contains fs e) → IsWidened es marks (slice_index old.states.items place) r
  widened_by r seen all u j has marked =
      let first : slice_index old.states.items place ≡ i = get_or_default old.states.items place 0 i low ∙ sym at in
      let e : Edge = record { from = slice_index old.states.items place; unit = u; to = j } in
      let there = all e has first in
      let end : (get_or fs there.0 e).to ≡ j = ap (λ (f : Edge). f.to) there.2 in
      subst (IsIn r.seen.items) end (seen there.0 e (omega arith) there.1 (subst (IsIn marks) (sym end) marked))

-- one edge more
pub one_seen : (es fs : List Edge) (marks : List Bool) (k : ℕ) (d : Edge) (r s : given.Reached) → k < length fs → Grows es marks r s → AreSeen fs marks k r → (IsIn marks (get_or fs k d).to → IsIn s.seen.items (get_or fs k d).to) → AreSeen fs marks (k + 1) s
one_seen es fs marks k d r s low g before here n f zero_le below = ⊎_elim
    (λ last. subst (λ (e : Edge). IsIn marks e.to → IsIn s.seen.items e.to) (get_or_default fs k d f low ∙ ap (λ (m : ℕ). get_or fs m f) (sym last)) here)
    (λ other marked. g.seen _ (before n f zero_le (omega arith) marked))
    (cases_eq n k)

-- ALL THAT IS REACHED IS WIDENED

-- on the way: the states in front of a place are widened
pub record IsReaching (es : List Edge) (marks : List Bool) (start states place : ℕ) (r : given.Reached) : Type 0 where
  pub reached : IsReached es marks start r
  pub counted : AreCounted r
  pub long : length r.seen.items ≡ states
  pub place_is_within : place ≤ length r.states.items
  pub widened : (k i : ℕ) → k < place → slice_get r.states.items k ≡ Some i → IsWidened es marks i r

-- one state more is widened
pub reaching_more : (es : List Edge) (marks : List Bool) (start states place : ℕ) (old new : given.Reached) → place < length old.states.items → IsReaching es marks start states place old → Grows es marks old new → IsWidened es marks (slice_index old.states.items place) new → IsReaching es marks start states (place + 1) new
reaching_more es marks start states place old new low h g here =
    let at = λ (k : ℕ) (lower : k < length old.states.items). g.states k (get_or old.states.items k 0) (slice_get-get_or old.states.items k 0 lower) in
    record {
      reached = g.reached start h.reached;
      counted = g.counted h.counted;
      long = g.long ∙ h.long;
      place_is_within = omega (arith, slice_get_within new.states.items place _ (at place low));
      widened = λ k i below is.
          let lower : k < length old.states.items = omega arith in
          let same : get_or old.states.items k 0 ≡ i = same_Some _ _ (sym (at k lower) ∙ is) in
          ⊎_elim
          (λ last. subst (λ (s : ℕ). IsWidened es marks s new) (sym (ap (λ (n : ℕ). get_or old.states.items n 0) last) ∙ same) here)
          (λ other u j has marked. g.seen j (h.widened k i (omega arith) (slice_get-get_or old.states.items k 0 lower ∙ ap Some same) u j has marked))
          (cases_eq k place);
    }

-- a seen state leads to seen states
closed : (es : List Edge) (marks : List Bool) (start states place : ℕ) (r : given.Reached) → IsReaching es marks start states place r → length r.states.items ≤ place → (i : ℕ) → IsIn r.seen.items i → (us : List ℕ) (j : ℕ) → LeadsIn es marks i us j → IsIn r.seen.items j
unfolding LeadsIn
closed es marks start states place r h all i is [] j leads = subst (IsIn r.seen.items) leads is
closed es marks start states place r h all i is (u ∷ us) j leads =
    let at = h.reached.seen i is in
    let there = slice_get-get_or r.states.items at.0 i at.1 ∙ ap Some at.2 in
    closed es marks start states place r h all leads.0 (h.widened at.0 i (omega (arith, at.1)) there u leads.0 leads.1 leads.2) us j leads.3

-- so all states to which the first leads are seen
pub all_seen : (es : List Edge) (marks : List Bool) (start states place : ℕ) (r : given.Reached) → IsReaching es marks start states place r → length r.states.items ≤ place → (us : List ℕ) (j : ℕ) → LeadsIn es marks start us j → IsIn r.seen.items j
all_seen es marks start states place r h all =
    let low = slice_get_within r.states.items 0 start h.reached.begins in
    let first = subst (Contains r.states.items) (get_or_from_slice_get r.states.items 0 start 0 h.reached.begins) (Contains-get_or r.states.items 0 0 low) in
    closed es marks start states place r h all start (h.reached.met start first)

-- BACK TO THE FIRST

-- from the state at a place further turns lead to the state at another
abbrev pub LeadOn : List Edge → List Bool → given.Reached → ℕ → List ℕ → ℕ → Type 0
LeadOn es marks r k us to = LeadsIn es marks (get_or r.states.items k 0) us (get_or r.states.items to 0)

module _ (es : List Edge) (marks : List Bool) (start : ℕ) (r : given.Reached) (h : IsReached es marks start r) where
  -- a link leads back to an earlier place
  pub is_before : (k : ℕ) (link : Link) → 0 < k → k < length r.states.items → link ≡ get_or r.links.items (k - 1) link → link.before < k
  is_before k link some low is =
      let few : k - 1 < length r.links.items = omega (arith, h.counted) in
      let l = h.linked (k - 1) few in
      let same : link ≡ l.link = is ∙ get_or_from_slice_get r.links.items (k - 1) l.link link l.link_is in
      let before : link.before ≡ l.link.before = ap (λ (m : Link). m.before) same in
      omega (arith, l.earlier, before)

  -- and its turn leads from there
  pub one_back : (k to : ℕ) (link : Link) (us more : List ℕ) → 0 < k → k < length r.states.items → link ≡ get_or r.links.items (k - 1) link → more ≡ us ++ link.unit ∷ [] → LeadOn es marks r k (reverse us) to → LeadOn es marks r link.before (reverse more) to
  unfolding LeadsIn
  one_back k to link us more some low is more_is leads =
      let few : k - 1 < length r.links.items = omega (arith, h.counted) in
      let l = h.linked (k - 1) few in
      let same : link ≡ l.link = is ∙ get_or_from_slice_get r.links.items (k - 1) l.link link l.link_is in
      let from : get_or r.states.items link.before 0 ≡ l.from = ap (λ (m : Link). get_or r.states.items m.before 0) same ∙ get_or_from_slice_get r.states.items l.link.before l.from 0 l.from_is in
      let place : k - 1 + 1 ≡ k = omega arith in
      let end : get_or r.states.items k 0 ≡ l.to = ap (λ (n : ℕ). get_or r.states.items n 0) (sym place) ∙ get_or_from_slice_get r.states.items (k - 1 + 1) l.to 0 l.to_is in
      let last : reverse more ≡ link.unit ∷ reverse us = ap reverse more_is ∙ reverse-append us (link.unit ∷ []) in
      let has : HasEdge es (get_or r.states.items link.before 0) link.unit l.to = subst (λ (i : ℕ). HasEdge es i link.unit l.to) (sym from) (subst (λ (u : ℕ). HasEdge es l.from u l.to) (sym (ap (λ (m : Link). m.unit) same)) l.has) in
      let rest : LeadsIn es marks l.to (reverse us) (get_or r.states.items to 0) = subst (λ (i : ℕ). LeadsIn es marks i (reverse us) (get_or r.states.items to 0)) end leads in
      subst (λ (vs : List ℕ). LeadsIn es marks (get_or r.states.items link.before 0) vs (get_or r.states.items to 0)) (sym last) (l.to, has, l.marked, rest)

  -- no turns lead to where they begin
  pub none_back : (to : ℕ) (us : List ℕ) → us ≡ [] → LeadOn es marks r to (reverse us) to
  unfolding LeadsIn
  none_back to us none = subst (λ (vs : List ℕ). LeadsIn es marks (get_or r.states.items to 0) (reverse vs) (get_or r.states.items to 0)) (sym none) refl

  -- at the first place all turns are found
  pub all_back : (k to : ℕ) (us new : List ℕ) → k ≡ 0 → new ≡ reverse us → LeadOn es marks r k (reverse us) to → LeadsIn es marks start new (get_or r.states.items to 0)
  all_back k to us new first new_is leads =
      let begin : get_or r.states.items k 0 ≡ start = ap (λ (n : ℕ). get_or r.states.items n 0) first ∙ get_or_from_slice_get r.states.items 0 start 0 h.begins in
      subst (λ (i : ℕ). LeadsIn es marks i new (get_or r.states.items to 0)) begin (subst (λ (vs : List ℕ). LeadsIn es marks (get_or r.states.items k 0) vs (get_or r.states.items to 0)) (sym new_is) leads)
