-- A search through all states, stated for whatever orders need: what is an order, what can follow one, the state to which one leads.
-- o and p are orders, u and v units, i, j and k places among the orders that are found, es the turns that are noted from place to place.
use Rattle.std.proofs.Common.{◌≡◌, ℕ, zero, suc, ◌+◌, ◌<◌, ◌≤◌, Bool, true, false, List, [], ◌∷◌, ◌++◌, append_assoc, append-nil, length, refl, sym, ◌∙◌, ap, subst, arith, inl, inr, ◌⊎◌, get_or, ⊎_elim}
use Rattle.std.specs.Prelude.{Contains}
use Rattle.std.proofs.lemmas.Bool.{cases_lt}
use Rattle.std.proofs.lemmas.List.{get_or_append_left, get_or_default, get_or_push, length_push}
use Rattle.std.proofs.lemmas.List.Elements.{Contains-get_or, Contains-append_left, Contains-push, Contains-push_cases}
use Rattle.dbtg_rounds.specs.Rounds.{HasEdge, Leads}
use Rattle.dbtg_rounds.specs.declared.edge.Edge.{Edge}
use Rattle.dbtg_explore.specs.Orders.{IsBefore, IsNoLater}
use Rattle.dbtg_explore.specs.Inside.Search.{AreFirsts, HasFirst, IsTurn, IsUnderWay, LeadApart}
use Rattle.dbtg_explore.specs.Pairwise.{ArePairwise}
use Rattle.dbtg_explore.proofs.Before.{before_last, before_next, before_no_later, before_push, before_trans, no_later_push, no_later_trans}

-- LISTS

pub record Ending (o : List ℕ) : Type 0 where
  pub front : List ℕ
  pub last : ℕ
  pub is : o ≡ front ++ last ∷ []

-- an order is empty, or it has a last unit
pub ending : (o : List ℕ) → (o ≡ []) ⊎ Ending o
ending [] = inl refl
ending (u ∷ o) =
    elim (ending o) [
      | inl none ↦ inr (record { front = []; last = u; is = ap (λ (l : List ℕ). u ∷ l) none })
      | inr e ↦ inr (record { front = u ∷ e.front; last = e.last; is = ap (λ (l : List ℕ). u ∷ l) e.is })
    ]

pub contains_none : {A : Type 0} (x : A) → Contains [] x → ⊥
contains_none x c = let low = c.1 in omega arith

pub contains_here : {A : Type 0} (x : A) (xs : List A) → Contains (x ∷ xs) x
contains_here x xs = (0, omega arith, refl)

pub contains_behind : {A : Type 0} (x : A) (xs : List A) (y : A) → Contains xs y → Contains (x ∷ xs) y
contains_behind x xs y c = let low = c.1 in (suc c.0, omega arith, c.2)

pub contains_cases : {A : Type 0} (x : A) (xs : List A) (y : A) → Contains (x ∷ xs) y → (x ≡ y) ⊎ Contains xs y
contains_cases {A} x xs y c = by c.0 c.1 c.2 where
  by : (k : ℕ) → k < length (x ∷ xs) → get_or (x ∷ xs) k y ≡ y → (x ≡ y) ⊎ Contains xs y
  by zero low is = inl is
  by (suc k) low is = inr (k, omega arith, is)

pub pairwise_push : {A : Type 0} (R : A → A → Type 0) (xs : List A) (y : A) → ArePairwise R xs → ((x : A) → Contains xs x → R x y) → ArePairwise R (xs ++ y ∷ [])
pairwise_push R [] y h all = ((λ z c. absurd (contains_none z c)), tt)
pairwise_push R (x ∷ xs) y h all = (
  (λ z c. ⊎_elim (h.0 z) (λ e. subst (R x) e (all x (contains_here x xs))) (Contains-push_cases xs y z c)),
  pairwise_push R xs y h.1 (λ z c. all z (contains_behind x xs z c)),
)

apart_at : {S : Type 0} (state : List ℕ → S) (xs : List (List ℕ)) (i j : ℕ) → ArePairwise (LeadApart state) xs → i < j → j < length xs → LeadApart state (get_or xs i []) (get_or xs j [])
apart_at state [] i j h low in_range = absurd (omega arith)
apart_at state (x ∷ xs) i zero h low in_range = absurd (omega arith)
apart_at state (x ∷ xs) zero (suc j) h low in_range = h.0 (get_or xs j []) (Contains-get_or xs j [] (omega arith))
apart_at state (x ∷ xs) (suc i) (suc j) h low in_range = apart_at state xs i j h.1 (omega arith) (omega arith)

-- the order at the earlier of two places is before that at the other
pub in_order_at : (xs : List (List ℕ)) (i j : ℕ) → ArePairwise IsBefore xs → i < j → j < length xs → IsBefore (get_or xs i []) (get_or xs j [])
in_order_at [] i j h low in_range = absurd (omega arith)
in_order_at (x ∷ xs) i zero h low in_range = absurd (omega arith)
in_order_at (x ∷ xs) zero (suc j) h low in_range = h.0 (get_or xs j []) (Contains-get_or xs j [] (omega arith))
in_order_at (x ∷ xs) (suc i) (suc j) h low in_range = in_order_at xs i j h.1 (omega arith) (omega arith)

pub no_later_place : (xs : List (List ℕ)) (i j : ℕ) → ArePairwise IsBefore xs → i ≤ j → j < length xs → IsNoLater (get_or xs i []) (get_or xs j [])
no_later_place xs i j h le in_range = elim (cases_lt i j) [
  | inl low ↦ inr (in_order_at xs i j h low in_range)
  | inr high ↦ let e : i ≡ j = omega arith in inl (ap (λ (k : ℕ). get_or xs k []) e)
]

-- THE SEARCH

-- an order comes after all that are found, while the search is at place i, and not through them
pub record IsLater (found : List (List ℕ)) (i : ℕ) (o : List ℕ) : Type 0 where
  pub on_the_way : i < length found
  pub behind : (f : List ℕ) → Contains found f → IsBefore f o

-- what the search needs of orders
pub record GoOn {S : Type 0} (IsOrder : List ℕ → Type 0) (can : List ℕ → ℕ → Bool) (state : List ℕ → S) : Type 0 where
  pub first : IsOrder []
  pub more : (o : List ℕ) (u : ℕ) → IsOrder o → can o u ≡ true → IsOrder (o ++ u ∷ [])
  pub front : (o : List ℕ) (u : ℕ) → IsOrder (o ++ u ∷ []) → IsOrder o
  pub last : (o : List ℕ) (u : ℕ) → IsOrder (o ++ u ∷ []) → can o u ≡ true
  pub can_alike : (o p : List ℕ) (u : ℕ) → state o ≡ state p → can o u ≡ can p u
  pub state_alike : (o p : List ℕ) (u : ℕ) → IsOrder (o ++ u ∷ []) → IsOrder (p ++ u ∷ []) → state o ≡ state p → state (o ++ u ∷ []) ≡ state (p ++ u ∷ [])

module _ {S : Type 0} (IsOrder : List ℕ → Type 0) (can : List ℕ → ℕ → Bool) (state : List ℕ → S) (on : GoOn IsOrder can state) where
  abbrev Under : List (List ℕ) → List Edge → ℕ → ℕ → Type 0
  Under = IsUnderWay IsOrder can state

  -- a turn of unit u, from place i to place k
  abbrev edge : ℕ → ℕ → ℕ → Edge
  edge i u k = record { from = i; unit = u; to = k }

  -- an order with a turn more leads to a state whose order was found
  pub turn_first : (found : List (List ℕ)) (e : Edge) → IsTurn can state found e → HasFirst state found (get_or found e.from [] ++ e.unit ∷ [])
  turn_first found e t = record { first = get_or found e.to []; is_found = Contains-get_or found e.to [] t.to_there; same = t.same; no_later = t.no_later }

  first_more : (found : List (List ℕ)) (p o : List ℕ) → HasFirst state found o → HasFirst state (found ++ p ∷ []) o
  first_more found p o h = record { first = h.first; is_found = Contains-append_left found (p ∷ []) h.first h.is_found; same = h.same; no_later = h.no_later }

  -- a noted turn is still one when another order is found
  turn_more : (found : List (List ℕ)) (p : List ℕ) (e : Edge) → IsTurn can state found e → IsTurn can state (found ++ p ∷ []) e
  turn_more found p e t =
      let long = length_push found p in
      let at_from = get_or_append_left found (p ∷ []) [] e.from t.from_there in
      let at_to = get_or_append_left found (p ∷ []) [] e.to t.to_there in
      let low = t.from_there in
      let high = t.to_there in
      record {
        from_there = omega (arith, long, low);
        to_there = omega (arith, long, high);
        can_turn = ap (λ o. can o e.unit) at_from ∙ t.can_turn;
        same = ap state at_to ∙ t.same ∙ ap (λ o. state (o ++ e.unit ∷ [])) (sym at_from);
        no_later = subst (λ o. IsNoLater o (get_or (found ++ p ∷ []) e.from [] ++ e.unit ∷ [])) (sym at_to) (subst (λ o. IsNoLater (get_or found e.to []) (o ++ e.unit ∷ [])) (sym at_from) t.no_later);
      }

  edge_more : (es : List Edge) (e : Edge) (j v : ℕ) → (k : ℕ) × HasEdge es j v k → (k : ℕ) × HasEdge (es ++ e ∷ []) j v k
  edge_more es e j v h = (h.0, Contains-append_left es (e ∷ []) (edge j v h.0) h.1)

  pub at_beginning : Under ([] ∷ []) [] 0 0
  at_beginning = record {
    are_orders = λ o c. ⊎_elim (λ e. subst IsOrder e on.first) (λ d. absurd (contains_none o d)) (contains_cases [] [] o c);
    apart = ((λ p c. absurd (contains_none p c)), tt);
    in_order = ((λ p c. absurd (contains_none p c)), tt);
    begun = record { first = []; is_found = contains_here [] []; same = refl; no_later = inl refl };
    are_turns = λ e c. absurd (contains_none e c);
    behind = λ j v low. absurd (omega arith);
    here = λ v low. absurd (omega arith);
    earlier = λ o v in_range c le. ⊎_elim (λ e. subst (λ w. IsBefore w (v ∷ [])) e (before_next [] v)) (λ d. absurd (contains_none o d)) (contains_cases [] [] o c);
  }

  module _ (found : List (List ℕ)) (es : List Edge) (i u : ℕ) (in_range : i < length found) (h : Under found es i u) where
    -- the unit cannot have its turn there
    pub no_turn : can (get_or found i []) u ≡ false → Under found es i (u + 1)
    no_turn not_u = record {
      are_orders = h.are_orders;
      apart = h.apart;
      in_order = h.in_order;
      begun = h.begun;
      are_turns = h.are_turns;
      behind = h.behind;
      here = λ v low can_v. elim (cases_lt v u) [
        | inl below ↦ h.here v below can_v
        | inr above ↦
            let e : v ≡ u = omega arith in
            absurd (let both : can (get_or found i []) u ≡ true = subst (λ (w : ℕ). can (get_or found i []) w ≡ true) e can_v in cc)
      ];
      earlier = λ o v r c le. h.earlier o v r c (omega arith);
    }

    here_more : (k v : ℕ) → v < u + 1 → can (get_or found i []) v ≡ true → (j : ℕ) × HasEdge (es ++ edge i u k ∷ []) i v j
    here_more k v low can_v = elim (cases_lt v u) [
      | inl below ↦ edge_more es (edge i u k) i v (h.here v below can_v)
      | inr above ↦
          let e : u ≡ v = omega arith in
          subst (λ (w : ℕ). (j : ℕ) × HasEdge (es ++ edge i u k ∷ []) i w j) e (k, Contains-push es (edge i u k))
    ]

    module _ (can_u : can (get_or found i []) u ≡ true) where
      -- its turn leads to a known state
      pub known_state : (k : ℕ) → k < length found → state (get_or found k []) ≡ state (get_or found i [] ++ u ∷ []) → Under found (es ++ edge i u k ∷ []) i (u + 1)
      known_state k low same = record {
        are_orders = h.are_orders;
        apart = h.apart;
        in_order = h.in_order;
        begun = h.begun;
        are_turns = λ e c. ⊎_elim (h.are_turns e) (λ is. subst (IsTurn can state found) is (record {
          from_there = in_range;
          to_there = low;
          can_turn = can_u;
          same = same;
          no_later = inr (h.earlier (get_or found k []) u in_range (Contains-get_or found k [] low) (omega arith));
        })) (Contains-push_cases es (edge i u k) e c);
        behind = λ j v below can_v. edge_more es (edge i u k) j v (h.behind j v below can_v);
        here = here_more k;
        earlier = λ o v r c le. h.earlier o v r c (omega arith);
      }

      -- its turn leads to a new state
      pub new_state : ((o : List ℕ) → Contains found o → state o ≡ state (get_or found i [] ++ u ∷ []) → ⊥) → Under (found ++ (get_or found i [] ++ u ∷ []) ∷ []) (es ++ edge i u (length found) ∷ []) i (u + 1)
      new_state is_new =
          let next = get_or found i [] ++ u ∷ [] in
          let new = edge i u (length found) in
          let long = length_push found next in
          let same : (j : ℕ) → j < length found → get_or (found ++ next ∷ []) j [] ≡ get_or found j [] = λ j low. get_or_append_left found (next ∷ []) [] j low in
          let last : get_or (found ++ next ∷ []) (length found) [] ≡ next = get_or_push found next [] (length found) refl in
          let turn : (o : List ℕ) (v : ℕ) → u + 1 ≤ v → Contains (found ++ next ∷ []) o → IsBefore o (get_or found i [] ++ v ∷ []) =
          λ o v le c. ⊎_elim (λ d. h.earlier o v in_range d (omega arith)) (λ e. subst (λ w. IsBefore w (get_or found i [] ++ v ∷ [])) e (before_last (get_or found i []) u v (omega arith))) (Contains-push_cases found next o c) in
          let to_next : get_or (found ++ next ∷ []) (length found) [] ≡ get_or (found ++ next ∷ []) i [] ++ u ∷ [] = last ∙ ap (λ o. o ++ u ∷ []) (sym (same i in_range)) in
          let is_turn : IsTurn can state (found ++ next ∷ []) new = record {
            from_there = omega (arith, long, in_range);
            to_there = omega (arith, long);
            can_turn = ap (λ o. can o u) (same i in_range) ∙ can_u;
            same = ap state to_next;
            no_later = inl to_next;
          } in
          record {
            are_orders = λ o c. ⊎_elim (h.are_orders o) (λ e. subst IsOrder e (on.more (get_or found i []) u (h.are_orders _ (Contains-get_or found i [] in_range)) can_u)) (Contains-push_cases found next o c);
            apart = pairwise_push (LeadApart state) found next h.apart is_new;
            in_order = pairwise_push IsBefore found next h.in_order (λ o c. h.earlier o u in_range c (omega arith));
            begun = first_more found next [] h.begun;
            are_turns = λ e c. ⊎_elim (λ d. turn_more found next e (h.are_turns e d)) (λ is. subst (IsTurn can state (found ++ next ∷ [])) is is_turn) (Contains-push_cases es new e c);
            behind = λ j v low. rw (same j (omega arith)) (λ can_v. edge_more es new j v (h.behind j v low can_v));
            here = λ v low. rw (same i in_range) (λ can_v. here_more (length found) v low can_v);
            earlier = λ o v r c le. rw (same i in_range) (turn o v le c);
          }

    -- all units have had their turns there
    pub next_place : ((v : ℕ) → u ≤ v → can (get_or found i []) v ≡ false) → Under found es (i + 1) 0
    next_place no_more = record {
      are_orders = h.are_orders;
      apart = h.apart;
      in_order = h.in_order;
      begun = h.begun;
      are_turns = h.are_turns;
      behind = λ j v low can_v. elim (cases_lt j i) [
        | inl below ↦ h.behind j v below can_v
        | inr above ↦
            let e : j ≡ i = omega arith in
            let can_i : can (get_or found i []) v ≡ true = subst (λ (k : ℕ). can (get_or found k []) v ≡ true) e can_v in
            subst (λ (j : ℕ). (k : ℕ) × HasEdge es j v k) (sym e)
            (elim (cases_lt v u) [
              | inl low ↦ h.here v low can_i
              | inr high ↦ let none = no_more v (omega arith) in absurd (cc)
            ])
      ];
      here = λ v low. absurd (omega arith);
      earlier = λ o v r c le.
          let last : IsBefore o (get_or found i [] ++ u ∷ []) = h.earlier o u in_range c (omega arith) in
          before_trans o (get_or found i [] ++ u ∷ []) (get_or found (i + 1) [] ++ v ∷ []) last (before_push (get_or found i []) (get_or found (i + 1) []) u v (in_order_at found i (i + 1) h.in_order (omega arith) r));
    }

  -- WHICH ORDERS ARE FOUND

  module _ (found : List (List ℕ)) (es : List Edge) (i : ℕ) (h : Under found es i 0) where
    -- one that is found, with a turn more
    module _ (p : List ℕ) (u : ℕ) (before : HasFirst state found p) (is : IsOrder (p ++ u ∷ [])) where
      abbrev j : ℕ
      j = before.is_found.0

      at : get_or found j [] ≡ before.first
      at = get_or_default found j [] before.first before.is_found.1 ∙ before.is_found.2

      -- the search has gone on from there
      known_more : j < i → HasFirst state found (p ++ u ∷ [])
      known_more early =
          let can_u : can before.first u ≡ true = on.can_alike before.first p u before.same ∙ on.last p u is in
          let there = h.behind j u early (ap (λ q. can q u) at ∙ can_u) in
          let goes : HasFirst state found (before.first ++ u ∷ []) = subst (λ q. HasFirst state found (q ++ u ∷ [])) at (turn_first found (edge j u there.0) (h.are_turns (edge j u there.0) there.1)) in
          let same = on.state_alike before.first p u (on.more before.first u (h.are_orders before.first before.is_found) can_u) is before.same in
          record {
            first = goes.first;
            is_found = goes.is_found;
            same = goes.same ∙ same;
            no_later = no_later_trans goes.first (before.first ++ u ∷ []) (p ++ u ∷ []) goes.no_later (no_later_push before.first p u before.no_later);
          }

      -- or not yet
      later_more : i ≤ j → IsLater found i (p ++ u ∷ [])
      later_more le =
          let low = before.is_found.1 in
          let here = get_or found i [] in
          let first : IsNoLater here before.first = subst (IsNoLater here) at (no_later_place found i j h.in_order le low) in
          let turn : IsNoLater (here ++ u ∷ []) (p ++ u ∷ []) = no_later_push here p u (no_later_trans here before.first p first before.no_later) in
          record {
            on_the_way = omega arith;
            behind = λ f c. before_no_later f (here ++ u ∷ []) (p ++ u ∷ []) (h.earlier f u (omega arith) c (omega arith)) turn;
          }

    one_more : (p : List ℕ) (u : ℕ) → HasFirst state found p ⊎ IsLater found i p → IsOrder (p ++ u ∷ []) → HasFirst state found (p ++ u ∷ []) ⊎ IsLater found i (p ++ u ∷ [])
    one_more p u (inl before) is = elim (cases_lt before.is_found.0 i) [ inl early ↦ inl (known_more p u before is early) | inr le ↦ inr (later_more p u before is le) ]
    one_more p u (inr later) is = inr (record { on_the_way = later.on_the_way; behind = λ f c. before_trans f p (p ++ u ∷ []) (later.behind f c) (before_next p u) })

    -- each order has a first order that leads to the same state, or comes after all that are found
    pub found_or_later : (o : List ℕ) → IsOrder o → HasFirst state found o ⊎ IsLater found i o
    found_or_later o is = by (length o) o refl is where
      by : (n : ℕ) (o : List ℕ) → length o ≡ n → IsOrder o → HasFirst state found o ⊎ IsLater found i o
      by zero [] e is = inl h.begun
      by zero (v ∷ o) e is = absurd (omega arith)
      by (suc n) o e is =
          elim (ending o) [
            | inl none ↦ absurd (let short = ap length none in omega arith)
            | inr end ↦
                let here : IsOrder (end.front ++ end.last ∷ []) = subst IsOrder end.is is in
                let long = length_push end.front end.last in
                let short = ap length end.is in
                subst (λ q. HasFirst state found q ⊎ IsLater found i q) (sym end.is)
                (one_more end.front end.last (by n end.front (omega arith) (on.front end.front end.last here)) here)
          ]

  -- AT THE END

  module _ (found : List (List ℕ)) (es : List Edge) (i : ℕ) (through : length found ≤ i) (h : Under found es i 0) where
    -- each order has a first order that leads to the same state
    pub all_found : (o : List ℕ) → IsOrder o → HasFirst state found o
    all_found o is = ⊎_elim (λ first. first) (λ later. absurd (let low = later.on_the_way in omega arith)) (found_or_later found es i h o is)

    -- WAYS FROM PLACE TO PLACE

    is_order_at : (j : ℕ) → j < length found → IsOrder (get_or found j [])
    is_order_at j low = h.are_orders (get_or found j []) (Contains-get_or found j [] low)

    -- turns that lead from place to place can be taken after any order to the state of the first, and lead to that of the last
    pub leads_on : (us : List ℕ) (j k : ℕ) (o : List ℕ) → j < length found → IsOrder o → state o ≡ state (get_or found j []) → Leads es j us k → IsOrder (o ++ us) × (state (o ++ us) ≡ state (get_or found k [])) × (k < length found)
    unfolding Leads
    leads_on [] j k o low is same l =
        (subst IsOrder (sym (append-nil o)) is, ap state (append-nil o) ∙ same ∙ ap (λ n. state (get_or found n [])) l, subst (λ n. n < length found) l low)
    leads_on (u ∷ us) j k o low is same l =
        let t = h.are_turns (edge j u l.0) l.1 in
        let can_u : can o u ≡ true = on.can_alike o (get_or found j []) u same ∙ t.can_turn in
        let there = on.more o u is can_u in
        let first = on.state_alike o (get_or found j []) u there (on.more (get_or found j []) u (is_order_at j low) t.can_turn) same in
        subst (λ q. IsOrder q × (state q ≡ state (get_or found k [])) × (k < length found)) (append_assoc o (u ∷ []) us)
        (leads_on us l.0 k (o ++ u ∷ []) t.to_there there (first ∙ sym t.same) l.2)

    -- an order that goes on from an order to the state of a place leads on from that place
    pub has_way : ((p vs : List ℕ) → IsOrder (p ++ vs) → IsOrder p) → (us : List ℕ) (j : ℕ) (o : List ℕ) → j < length found → state o ≡ state (get_or found j []) → IsOrder (o ++ us) → (k : ℕ) × (k < length found) × Leads es j us k
    unfolding Leads
    has_way front [] j o low same is = (j, low, refl)
    has_way front (u ∷ us) j o low same is =
        let on_again : IsOrder ((o ++ u ∷ []) ++ us) = subst IsOrder (sym (append_assoc o (u ∷ []) us)) is in
        let there = front (o ++ u ∷ []) us on_again in
        let can_j : can (get_or found j []) u ≡ true = on.can_alike (get_or found j []) o u (sym same) ∙ on.last o u there in
        let found_edge = h.behind j u (omega (arith, low, through)) can_j in
        let t = h.are_turns (edge j u found_edge.0) found_edge.1 in
        let first = on.state_alike o (get_or found j []) u there (on.more (get_or found j []) u (is_order_at j low) can_j) same in
        let rest = has_way front us found_edge.0 (o ++ u ∷ []) t.to_there (first ∙ sym t.same) on_again in
        (rest.0, rest.1, (found_edge.0, found_edge.1, rest.2))

    -- two places have different states
    pub one_place : (j k : ℕ) → j < length found → k < length found → state (get_or found j []) ≡ state (get_or found k []) → j ≡ k
    one_place j k low high same = elim (cases_lt j k) [
      | inl below ↦ absurd (apart_at state found j k h.apart below high same)
      | inr above ↦ elim (cases_lt k j) [
        | inl below ↦ absurd (apart_at state found k j h.apart below low (sym same))
        | inr equal ↦ omega (arith, above, equal)
      ]
    ]

    -- the first order to the state of a place is no later than any other to it
    pub no_later_at : (j : ℕ) (o : List ℕ) → j < length found → IsOrder o → state (get_or found j []) ≡ state o → IsNoLater (get_or found j []) o
    no_later_at j o low is same =
        let first = all_found o is in
        let k = first.is_found.0 in
        let at : get_or found k [] ≡ first.first = get_or_default found k [] first.first first.is_found.1 ∙ first.is_found.2 in
        let equal = one_place j k low first.is_found.1 (same ∙ sym first.same ∙ ap state (sym at)) in
        subst (λ p. IsNoLater p o) (sym (ap (λ n. get_or found n []) equal ∙ at)) first.no_later

-- RESULTS

module _ (IsEnd : List ℕ → Type 0) (text : List ℕ → List ℕ) where
  module _ (seen results : List (List ℕ)) (o : List ℕ) (h : AreFirsts IsEnd text seen results) where
    seen_more : (more : List (List ℕ)) → ((r : List ℕ) → Contains results r → Contains more r) → (IsEnd o → HasFirst text more o) → (p : List ℕ) → Contains (seen ++ o ∷ []) p → IsEnd p → HasFirst text more p
    seen_more more kept new p c end =
        elim (Contains-push_cases seen o p c) [
          | inl before ↦ let first = h.all p before end in record { first = first.first; is_found = kept first.first first.is_found; same = first.same; no_later = first.no_later }
          | inr e ↦ subst (HasFirst text more) e (new (subst IsEnd (sym e) end))
        ]

    same_results : (IsEnd o → HasFirst text results o) → AreFirsts IsEnd text (seen ++ o ∷ []) results
    same_results new = record {
      are_seen = λ r c. Contains-append_left seen (o ∷ []) r (h.are_seen r c);
      ends = h.ends;
      all = seen_more results (λ r c. c) new;
      once = h.once;
      in_order = h.in_order;
    }

    -- an order that does not come to an end
    pub no_result : (IsEnd o → ⊥) → AreFirsts IsEnd text (seen ++ o ∷ []) results
    no_result goes_on = same_results (λ end. absurd (goes_on end))

    module _ (last : (p : List ℕ) → Contains seen p → IsBefore p o) where
      -- an order with a known text
      pub known_result : (r : List ℕ) → Contains results r → text r ≡ text o → AreFirsts IsEnd text (seen ++ o ∷ []) results
      known_result r c same = same_results (λ end. record { first = r; is_found = c; same = same; no_later = inr (last r (h.are_seen r c)) })

      -- an order with a new text
      pub new_result : IsEnd o → ((r : List ℕ) → Contains results r → text r ≡ text o → ⊥) → AreFirsts IsEnd text (seen ++ o ∷ []) (results ++ o ∷ [])
      new_result end is_new = record {
        are_seen = λ r c. ⊎_elim (λ d. Contains-append_left seen (o ∷ []) r (h.are_seen r d)) (λ e. subst (Contains (seen ++ o ∷ [])) e (Contains-push seen o)) (Contains-push_cases results o r c);
        ends = λ r c. ⊎_elim (h.ends r) (λ e. subst IsEnd e end) (Contains-push_cases results o r c);
        all = seen_more (results ++ o ∷ []) (λ r c. Contains-append_left results (o ∷ []) r c) (λ is. record { first = o; is_found = Contains-push results o; same = refl; no_later = inl refl });
        once = pairwise_push (LeadApart text) results o h.once is_new;
        in_order = pairwise_push IsBefore results o h.in_order (λ r c. last r (h.are_seen r c));
      }
