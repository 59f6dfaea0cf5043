-- The nodes of a ring by their places in its order.
use Rattle.std.proofs.Common.{◌≡◌, ℕ, zero, suc, ◌+◌, ◌<◌, ◌≤◌, Bool, true, false, cond, ◌==◌, ◌||◌, List, [], ◌∷◌, ◌++◌, map, filter, length, reverse, ◌-◌, Option, Some, None, Contains, refl, sym, ap, ◌∙◌, arith, subst, slice_get, true≢false}
use Rattle.std.proofs.lemmas.Bool.{eq-eqb, ne_eqb, and_parts, and_from}
use Rattle.std.proofs.lemmas.List.{map-append, length-map, length-append, length-reverse, get_or-reverse}
use Rattle.std.proofs.lemmas.Option.{same_Some, slice_get_past, slice_get-get_or}
use Rattle.std.specs.List.{list_any, list_all, insert, remove}
use Rattle.std.specs.Option.{IsSome, IfSome}
use Rattle.dbtg_cells.specs.declared.key.DbKey.{DbKey}
use Rattle.dbtg_cells.specs.declared.links.Node.{Node}
use Rattle.dbtg_cells.specs.declared.sorted.SortFacts.{SortFacts}
use Rattle.dbtg_cells.specs.Keys.{key_eq, has_type}
use Rattle.dbtg_cells.specs.Members.{Entry}
use Rattle.dbtg_cells.specs.Inside.Chain.{Slots, Link, slot, head_at, last_at, Seg, Avoids, Apart, follow, end_or, unlinked_keys, key_at, linked_at, IsRing}
use Rattle.dbtg_cells.specs.Inside.Links.{linked_in, linked_out}
use Rattle.dbtg_cells.specs.Inside.Ordered.{OrderView, node_in_front, last_node}
use Rattle.dbtg_cells.specs.Inside.RingOrder.{Holds, IsOrderOf}
use Rattle.dbtg_cells.proofs.SortedMembers.{keeps_around}
use Rattle.dbtg_cells.proofs.LinksWritten.{Avoids_right}
use Rattle.dbtg_cells.proofs.WholeRings.{members, Seg_avoids, insert_at, reserved_at, joined, parted, listed, next_exists, prior_exists}

abbrev pub places : List Link → List ℕ
places = map (λ e. e.at)

-- the member whose node stands at a place
pub member_placed : (s : Slots) (p : Option ℕ) (es : List Link) (q : Option ℕ) → Seg s p es q → (n i : ℕ) (node : Node) → slice_get (places es) n ≡ Some i → slot s i ≡ Some node → slice_get (members es) n ≡ Some node.member
member_placed s p [] q h n i node at there = absurd (cc)
member_placed s p (e ∷ es) q h zero i node at there = ap Some (ap (λ k. k.member) (same_Some _ _ (sym h.0 ∙ ap (slot s) (same_Some _ _ at) ∙ there)))
member_placed s p (e ∷ es) q h (suc n) i node at there = member_placed s (Some e.at) es q h.1 n i node at there

-- a node that is listed is there
pub none_vacant : (s : Slots) (p : Option ℕ) (es : List Link) (q : Option ℕ) → Seg s p es q → (n i : ℕ) → slice_get (places es) n ≡ Some i → slot s i ≡ None → ⊥
none_vacant s p [] q h n i at there = cc
none_vacant s p (e ∷ es) q h zero i at there = clash _ (sym h.0 ∙ ap (slot s) (same_Some _ _ at) ∙ there)
  where
    clash : (k : Node) → Some k ≡ None → ⊥
    clash k g = cc
none_vacant s p (e ∷ es) q h (suc n) i at there = none_vacant s (Some e.at) es q h.1 n i at there

-- past the last node there is no member
pub none_past : (es : List Link) (n : ℕ) → slice_get (places es) n ≡ None → slice_get (members es) n ≡ None
none_past [] n at = refl
none_past (e ∷ es) zero at = absurd (cc)
none_past (e ∷ es) (suc n) at = none_past es n at

-- a node that is none of them stands nowhere
avoided_place : (i : ℕ) (es : List Link) (n : ℕ) → Avoids i es → slice_get (places es) n ≡ Some i → ⊥
avoided_place i [] n away at = cc
avoided_place i (e ∷ es) zero away at = away.0 (same_Some _ _ at)
avoided_place i (e ∷ es) (suc n) away at = avoided_place i es n away.1 at

pub not_listed : (i : ℕ) (es : List Link) → Avoids i es → list_any (λ n. n == i) (places es) ≡ false
not_listed i [] away = refl
not_listed i (e ∷ es) away = rw (ne_eqb e.at i away.0) (not_listed i es away.1)

pub is_listed : (a : List Link) (e : Link) (b : List Link) → list_any (λ n. n == e.at) (places (a ++ e ∷ b)) ≡ true
is_listed [] e b = ap (λ t. t || list_any (λ n. n == e.at) (places b)) (eq-eqb e.at e.at refl)
is_listed (f ∷ a) e b = ap (λ t. (f.at == e.at) || t) (is_listed a e b) ∙ or_true (f.at == e.at)
  where
    or_true : (t : Bool) → t || true ≡ true
    or_true true = refl
    or_true false = refl

-- each node stands at one place
pub place_of_link : (a : List Link) (e : Link) (b : List Link) (n : ℕ) → Apart (a ++ e ∷ b) → slice_get (places (a ++ e ∷ b)) n ≡ Some e.at → n ≡ length a
place_of_link [] e b zero apart at = refl
place_of_link [] e b (suc n) apart at = absurd (avoided_place e.at b n apart.0 at)
place_of_link (f ∷ a) e b zero apart at = absurd ((Avoids_right f.at a (e ∷ b) apart.0).0 (sym (same_Some _ _ at)))
place_of_link (f ∷ a) e b (suc n) apart at = ap suc (place_of_link a e b n apart.1 at)

-- one node less
pub places_without : (a : List Link) (e : Link) (b : List Link) → remove (places (a ++ e ∷ b)) (length a) ≡ places (a ++ b)
places_without [] e b = refl
places_without (f ∷ a) e b = ap (λ ns. f.at ∷ ns) (places_without a e b)

-- one node more
pub places_with : (a : List Link) (e : Link) (b : List Link) (n : ℕ) → n ≡ length a → insert (places (a ++ b)) n e.at ≡ places (a ++ e ∷ b)
places_with a e b n is =
    let count : n ≡ length (places a) = is ∙ sym (length-map a (λ e. e.at)) in
    rw (map-append (λ e. e.at) a b) (insert_at (places a) (places b) e.at n count) ∙ sym (map-append (λ e. e.at) a (e ∷ b))

-- the node before a place, or what stands before the list
abbrev before_place : Option ℕ → List ℕ → ℕ → Option ℕ
before_place p ns zero = p
before_place p ns (suc n) = slice_get ns n

-- a list of links in two parts, the first of this length
pub record Cut (es : List Link) (n : ℕ) (p : Option ℕ) : Type 0 where
  pub front : List Link
  pub back : List Link
  pub whole : es ≡ front ++ back
  pub count : n ≡ length front
  pub next : slice_get (places es) n ≡ head_at back None
  pub prior : before_place p (places es) n ≡ last_at p front

pub cut : (es : List Link) (n : ℕ) (p : Option ℕ) → n ≤ length es → Cut es n p
cut es zero p within = record { front = []; back = es; whole = refl; count = refl; next = first es; prior = refl }
  where
    first : (es : List Link) → slice_get (places es) 0 ≡ head_at es None
    first [] = refl
    first (e ∷ es) = refl
cut [] (suc n) p within = absurd (omega arith)
cut (e ∷ es) (suc n) p within =
    let rest = cut es n (Some e.at) (omega arith) in
    record {
      front = e ∷ rest.front;
      back = rest.back;
      whole = ap (λ fs. e ∷ fs) rest.whole;
      count = ap suc rest.count;
      next = rest.next;
      prior = beside n ∙ rest.prior;
    }
  where
    beside : (n : ℕ) → slice_get (places (e ∷ es)) n ≡ before_place (Some e.at) (places es) n
    beside zero = refl
    beside (suc n) = refl

pub in_front_is : (ns : List ℕ) (n : ℕ) → node_in_front ns n ≡ before_place None ns n
in_front_is ns zero = refl
in_front_is ns (suc n) = refl

-- a ring after a node came in at a place or went from it, and the list that is read then
pub record Stands (find : DbKey → Option ℕ) (s : Slots) (first last : Option ℕ) (len : ℕ) (list : List Entry) (order : OrderView) (noted : SortFacts) : Type 0 where
  pub ring : IsRing find s first last len
  pub list_is : follow len s first ≡ list
  pub ordered : IsOrderOf find ring.chain order noted

first_place : (es : List Link) → slice_get (places es) 0 ≡ head_at es None
first_place [] = refl
first_place (e ∷ es) = refl

last_place : (p : Option ℕ) (es : List Link) → before_place p (places es) (length es) ≡ last_at p es
last_place p [] = refl
last_place p (e ∷ es) = beside (length es) ∙ last_place (Some e.at) es
  where
    beside : (n : ℕ) → slice_get (places (e ∷ es)) n ≡ before_place (Some e.at) (places es) n
    beside zero = refl
    beside (suc n) = refl

-- the ends of the list are those of the order, and it has as many members
pub by_order : (find : DbKey → Option ℕ) (s : Slots) (first last : Option ℕ) (len : ℕ) (list : List Entry) (order : OrderView) (noted : SortFacts) → Stands find s first last len list order noted → Stands find s (slice_get order.nodes 0) (last_node order.nodes) (length order.nodes) list order noted
by_order find s first last len list order noted S =
    let es = S.ring.chain in
    let is = sym S.ordered.listed in
    let starts : first ≡ slice_get order.nodes 0 = S.ring.starts ∙ sym (first_place es) ∙ ap (λ ns. slice_get ns 0) is in
    let ends : last ≡ last_node order.nodes = S.ring.ends ∙ sym (last_place None es) ∙ ap (before_place None (places es)) (sym (length-map es (λ e. e.at))) ∙ sym (in_front_is (places es) (length (places es))) ∙ ap last_node is in
    let count : len ≡ length order.nodes = S.ring.counted ∙ sym (length-map es (λ e. e.at)) ∙ ap length is in
    subst (λ n. Stands find s (slice_get order.nodes 0) (last_node order.nodes) n list order noted) count
    (subst (λ l. Stands find s (slice_get order.nodes 0) l len list order noted) ends
    (subst (λ f. Stands find s f last len list order noted) starts S))

module _ (find : DbKey → Option ℕ) (s : Slots) (first last : Option ℕ) (len : ℕ) (R : IsRing find s first last len) (order : OrderView) (noted : SortFacts) (O : IsOrderOf find R.chain order noted) where
  pub count_of_places : length order.nodes ≡ length (members R.chain)
  count_of_places = ap length O.listed ∙ length-map R.chain (λ e. e.at) ∙ sym (length-map R.chain (λ e. e.member))

  -- the two nodes beside a place, by the order
  module _ (n : ℕ) (within : n ≤ length R.chain) where
    pub cut_here : Cut R.chain n None
    cut_here = cut R.chain n None within

    pub next_is : slice_get order.nodes n ≡ head_at cut_here.back None
    next_is = ap (λ ns. slice_get ns n) O.listed ∙ cut_here.next

    pub prior_is : node_in_front order.nodes n ≡ last_at None cut_here.front
    prior_is = ap (λ ns. node_in_front ns n) O.listed ∙ in_front_is (places R.chain) n ∙ cut_here.prior

    -- and they are there
    pub next_there : IfSome (slice_get order.nodes n) (λ i. IsSome (slot s i))
    next_there = rw next_is (next_exists find s first last len R cut_here.front cut_here.back cut_here.whole)

    pub prior_there : IfSome (node_in_front order.nodes n) (λ i. IsSome (slot s i))
    prior_there = rw prior_is (prior_exists find s first last len R cut_here.front cut_here.back cut_here.whole)

    -- a reserved node comes in
    module _ (m : Entry) (room : Contains (unlinked_keys s) m.0) (at : ℕ) (found : find m.0 ≡ Some at) where
      pub new_node : list_any (λ i. i == at) order.nodes ≡ false
      new_node =
          let r = reserved_at find s first last len R m.0 room at found in
          ap (list_any (λ i. i == at)) O.listed ∙ not_listed at R.chain (Seg_avoids s at r.node r.there r.off None R.chain None R.links)

      pub come_in : (p q : Option ℕ) → p ≡ node_in_front order.nodes n → q ≡ slice_get order.nodes n
          → (s' : Slots) → s' ≡ linked_in at m p q s → (order' : OrderView) → order'.nodes ≡ insert order.nodes n at → order'.room ≡ order.room
          → (noted' : SortFacts) → Holds noted' (insert (members R.chain) n m)
          → Stands find s' (slice_get order'.nodes 0) (last_node order'.nodes) (length order'.nodes) (insert (members R.chain) n m) order' noted'
      come_in p q is_p is_q s' is_s order' is_nodes is_room noted' holds =
          let r = reserved_at find s first last len R m.0 room at found in
          let c = cut_here in
          let e : Link = record { at = at; member = m } in
          let j = joined find s first last len R c.front c.back c.whole at m r.node r.there r.off r.key in
          let here : insert (members R.chain) n m ≡ members (c.front ++ e ∷ c.back) =
          ap (λ es. insert (members es) n m) c.whole
          ∙ ap (λ ms. insert ms n m) (map-append (λ e. e.member) c.front c.back)
          ∙ insert_at (members c.front) (members c.back) m n (c.count ∙ sym (length-map c.front (λ e. e.member)))
          ∙ sym (map-append (λ e. e.member) c.front (e ∷ c.back)) in
          let placed : Stands find (linked_in at m (last_at None c.front) (head_at c.back None) s) (end_or (last_at None c.front) (Some at) first) (end_or (head_at c.back None) (Some at) last) (len + 1) (insert (members R.chain) n m) order' noted' = record {
            ring = j.0;
            list_is = listed find _ _ _ _ j.0 ∙ ap members j.1 ∙ sym here;
            ordered = record {
              listed = is_nodes ∙ ap (λ ns. insert ns n at) (O.listed ∙ ap places c.whole) ∙ places_with c.front e c.back n c.count ∙ ap places (sym j.1);
              room = λ k i h. subst (λ more. i < more) (sym is_room) (O.room k i h);
              keeps = subst (Holds noted') (here ∙ ap members (sym j.1)) holds;
            };
          } in
          rw (is_s, is_p ∙ prior_is, is_q ∙ next_is) (by_order find _ _ _ _ _ order' noted' placed)

  -- a node goes out
  module _ (a : List Link) (e : Link) (b : List Link) (split : R.chain ≡ a ++ e ∷ b) where
    pub in_order_there : list_any (λ i. i == e.at) order.nodes ≡ true
    in_order_there = ap (list_any (λ i. i == e.at)) (O.listed ∙ ap places split) ∙ is_listed a e b

    pub place_there : (n : ℕ) → slice_get order.nodes n ≡ Some e.at → n ≡ length a
    place_there n at = place_of_link a e b n (subst Apart split R.apart) (ap (λ ns. slice_get ns n) (sym (O.listed ∙ ap places split)) ∙ at)

    pub go_out : (p q : Option ℕ) → p ≡ last_at None a → q ≡ head_at b None → (x : ℕ) → x ≡ e.at
        → (s' : Slots) → s' ≡ linked_out x p q s
        → (n : ℕ) → slice_get order.nodes n ≡ Some x → (order' : OrderView) → order'.nodes ≡ remove order.nodes n → order'.room ≡ order.room
        → Holds noted (members (a ++ b))
        → Stands find s' (slice_get order'.nodes 0) (last_node order'.nodes) (length order'.nodes) (members a ++ members b) order' noted
    go_out p q is_p is_q x is_x s' is_s n at order' is_nodes is_room keeps =
        let fewer : length (a ++ b) + 1 ≡ len = omega (arith, R.counted, ap length split, length-append a b, length-append a (e ∷ b)) in
        let j = parted find s first last len R a e b split (length (a ++ b)) fewer in
        let place = place_there n (at ∙ ap Some is_x) in
        let less : Stands find (linked_out e.at (last_at None a) (head_at b None) s) (end_or (last_at None a) (head_at b None) first) (end_or (head_at b None) (last_at None a) last) (length (a ++ b)) (members a ++ members b) order' noted = record {
          ring = j.0;
          list_is = listed find _ _ _ _ j.0 ∙ ap members j.1 ∙ map-append (λ e. e.member) a b;
          ordered = record {
            listed = is_nodes ∙ ap (λ ns. remove ns n) (O.listed ∙ ap places split) ∙ ap (remove (places (a ++ e ∷ b))) place ∙ places_without a e b ∙ ap places (sym j.1);
            room = λ k i h. subst (λ more. i < more) (sym is_room) (O.room k i h);
            keeps = subst (λ es. Holds noted (members es)) (sym j.1) keeps;
          };
        } in
        rw (is_s, is_p, is_q, is_x) (by_order find _ _ _ _ _ order' noted less)

-- where no type is named, all count
pub all_of_any_type : (ks : List DbKey) → ks ≡ filter (has_type None) ks
all_of_any_type [] = refl
all_of_any_type (k ∷ ks) = ap (λ l. k ∷ l) (all_of_any_type ks)

-- a test of all members that a new one passes too
pub all_with : (test : Entry → Bool) (ms : List Entry) (n : ℕ) (m : Entry) → list_all test ms ≡ true → test m ≡ true → list_all test (insert ms n m) ≡ true
all_with test ms zero m h g = and_from _ _ g h
all_with test [] (suc n) m h g = and_from _ _ g refl
all_with test (e ∷ ms) (suc n) m h g = and_from _ _ (and_parts _ _ h).0 (all_with test ms n m (and_parts _ _ h).1 g)

pub all_around : (test : Entry → Bool) (front : List Entry) (m : Entry) (back : List Entry) → list_all test (front ++ m ∷ back) ≡ true → list_all test (front ++ back) ≡ true
all_around test [] m back h = (and_parts _ _ h).1
all_around test (e ∷ front) m back h = and_from _ _ (and_parts _ _ h).0 (all_around test front m back (and_parts _ _ h).1)

pub all_more : (p q : Entry → Bool) → ((e : Entry) → p e ≡ true → q e ≡ true) → (ms : List Entry) → list_all p ms ≡ true → list_all q ms ≡ true
all_more p q more [] h = refl
all_more p q more (e ∷ ms) h = and_from _ _ (more e (and_parts _ _ h).0) (all_more p q more ms (and_parts _ _ h).1)

-- where all members have a record type, those of the type are all
pub all_of_type : (t : Option ℕ) (ms : List Entry) → list_all (λ e. has_type t e.0) ms ≡ true → map (λ e. e.0) ms ≡ filter (has_type t) (map (λ e. e.0) ms)
all_of_type t [] h = refl
all_of_type t (e ∷ ms) h =
    let here : has_type t e.0 ≡ true = (and_parts _ _ h).0 in
    rw here (ap (λ l. e.0 ∷ l) (all_of_type t ms (and_parts _ _ h).1))

-- what is known holds of fewer
pub holds_around : (noted : SortFacts) (m : Entry) (front back : List Entry) → Holds noted (front ++ m ∷ back) → Holds noted (front ++ back)
holds_around noted m front back h = record {
  sorted = keeps_around noted.sorted m front back h.sorted;
  types = all_around (λ e. has_type noted.rtype e.0) front m back h.types;
}

-- counted from the end
pub from_the_end : (ks : List DbKey) (len n : ℕ) → len ≡ length ks → n < len → slice_get ks (len - 1 - n) ≡ slice_get (reverse ks) n
from_the_end [] len n count within = absurd (omega (arith, count, within))
from_the_end (k ∷ ks) len n count within =
    let back : n < length (reverse (k ∷ ks)) = omega (arith, count, within, length-reverse (k ∷ ks)) in
    let inside : n < length (k ∷ ks) = omega (arith, count, within) in
    let at : len - 1 - n ≡ length (k ∷ ks) - 1 - n = ap (λ m. m - 1 - n) count in
    ap (slice_get (k ∷ ks)) at
    ∙ slice_get-get_or (k ∷ ks) (length (k ∷ ks) - 1 - n) k (omega arith)
    ∙ ap Some (sym (get_or-reverse (k ∷ ks) n k inside))
    ∙ sym (slice_get-get_or (reverse (k ∷ ks)) n k back)

pub past_the_front : (ks : List DbKey) (len n : ℕ) → len ≡ length ks → len ≤ n → None ≡ slice_get (reverse ks) n
past_the_front ks len n count past = sym (slice_get_past (reverse ks) n (omega (arith, count, length-reverse ks)))

-- what is known of nothing
abbrev pub nothing : SortFacts
nothing = record { sorted = None; rtype = None }

-- a ring with no nodes
pub empty : (find : DbKey → Option ℕ) (s : Slots) (order : OrderView) → s ≡ [] → ((k : DbKey) → find k ≡ None) → order.nodes ≡ [] → Stands find s (slice_get order.nodes 0) (last_node order.nodes) (length order.nodes) [] order nothing
empty find s order is_s none is_nodes = by_order find s None None 0 [] order nothing (record {
  ring = record {
    chain = [];
    links = tt;
    starts = refl;
    ends = refl;
    counted = refl;
    apart = tt;
    marked = λ i on. absurd (true≢false (sym on ∙ ap (λ t. linked_at t i) is_s));
    found = λ k i h. absurd (clash i (sym h ∙ none k));
    keyed = λ k i h. absurd (clash k (sym h ∙ ap (λ t. key_at t i) is_s));
  };
  list_is = refl;
  ordered = record {
    listed = is_nodes;
    room = λ k i h. absurd (clash i (sym h ∙ none k));
    keeps = record { sorted = tt; types = refl };
  };
})
  where
    clash : {A : Type 0} (x : A) → Some x ≡ None → ⊥
    clash x h = cc

pub listing : (find : DbKey → Option ℕ) (s : Slots) (first last : Option ℕ) (len : ℕ) (R : IsRing find s first last len) (order : OrderView) (noted : SortFacts) → IsOrderOf find R.chain order noted → Stands find s first last len (follow len s first) order noted
listing find s first last len R order noted O = record { ring = R; list_is = refl; ordered = O }

-- a ring whose parts are written again as they were, except for room in its order
pub as_it_was : (find find' : DbKey → Option ℕ) (s s' : Slots) (first last : Option ℕ) (len : ℕ) (R : IsRing find s first last len) (order order' : OrderView) (noted : SortFacts) (O : IsOrderOf find R.chain order noted)
    → ((k : DbKey) → find' k ≡ find k) → s' ≡ s → order'.nodes ≡ order.nodes → order.room ≤ order'.room
    → Stands find' s' (slice_get order'.nodes 0) (last_node order'.nodes) (length order'.nodes) (follow len s first) order' noted
as_it_was find find' s s' first last len R order order' noted O same is_s nodes more =
    let anew : Stands find' s first last len (follow len s first) order' noted = record {
      ring = record {
        chain = R.chain;
        links = R.links;
        starts = R.starts;
        ends = R.ends;
        counted = R.counted;
        apart = R.apart;
        marked = R.marked;
        found = λ k i h. R.found k i (sym (same k) ∙ h);
        keyed = λ k i h. same k ∙ R.keyed k i h;
      };
      list_is = refl;
      ordered = record {
        listed = nodes ∙ O.listed;
        room = λ k i h. let low = O.room k i (sym (same k) ∙ h) in omega arith;
        keeps = O.keeps;
      };
    } in
    rw is_s (by_order find' s first last len _ order' noted anew)

-- a node that comes in for a key has room
pub room_for_new : (find find' : DbKey → Option ℕ) (k : DbKey) (at room more : ℕ) → ((q : DbKey) → find' q ≡ cond (key_eq k q) (Some at) (find q)) → ((q : DbKey) (i : ℕ) → find q ≡ Some i → i < room) → room ≤ more → at < more → (q : DbKey) (i : ℕ) → find' q ≡ Some i → i < more
room_for_new find find' k at room more finds had wider here q i h = by (key_eq k q) refl
  where
    by : (b : Bool) → key_eq k q ≡ b → i < more
    by true p = subst (λ n. n < more) (same_Some _ _ (sym (finds q ∙ ap (λ b. cond b (Some at) (find q)) p) ∙ h)) here
    by false p = let low = had q i (sym (finds q ∙ ap (λ b. cond b (Some at) (find q)) p) ∙ h) in omega arith
