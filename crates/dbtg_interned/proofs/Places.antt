-- The places of arrays in the trees: what stays when they are given, and what changes with an element.
-- a and b are arrays, before and after; ns are the numbers of a root; at is a place of the arrays.
use Rattle.std.proofs.Common.{◌≡◌, refl, sym, ◌∙◌, ap, subst, ℕ, zero, suc, ◌+◌, ◌<◌, ◌≤◌, inl, inr, arith, List, [], ◌∷◌, length, get_or, map, set, Some, slice_get, replicate, Result, Ok, Err, IfOk, get_or-set_other, get_or-set_same}
use Rattle.std.specs.Prelude.{◌≢◌}
use Rattle.std.proofs.Math.ListN.{get_or-map}
use Rattle.std.proofs.lemmas.Bool.{cases_eq, cases_lt}
use Rattle.std.proofs.lemmas.List.{ext_get_or, length-map, length-set, set-get_or}
use Rattle.std.proofs.lemmas.Grind.{get_or_default_zero}
use Rattle.std.proofs.lemmas.Option.{get_or_from_slice_get, slice_get-get_or, slice_get_within}
use Rattle.dbtg_interned.specs.Kept.{Keeps}
use Rattle.dbtg_interned.specs.Arrays.{AreArrays, AreNodes, Grows, IsArray, KeptArrays, element_by, elements, elements_under, numbers_of, size, tree_element}
use Rattle.dbtg_interned.specs.Inside.Changed.{HasChange, IsNode, IsRoot}
use Rattle.dbtg_interned.proofs.Keeping.{keeps_refl}
use Rattle.dbtg_interned.proofs.Trees.{all_known, is_node, one_node, stays_below, stays_known, stays_node, stays_tree, zero_element, zero_there}

pub if_ok : {X E : Type 0} (r : Result X E) (P Q : X → Type 0) → IfOk r P → ((x : X) → P x → Q x) → IfOk r Q
if_ok (Ok x) P Q h f = f x h
if_ok (Err e) P Q h f = tt

if_both : {X E : Type 0} (r : Result X E) (P Q R : X → Type 0) → IfOk r P → IfOk r Q → ((x : X) → P x → Q x → R x) → IfOk r R
if_both (Ok x) P Q R p q f = f x p q
if_both (Err e) P Q R p q f = tt

-- the place in the trees, from 1 on
abbrev pub place_at : KeptArrays → ℕ → ℕ
place_at a at = get_or a.places at 0

-- an element of a root
pub element_is : (a : KeptArrays) (ns : List ℕ) (at : ℕ) → get_or (elements_under a ns) at 0 ≡ element_by a.nodes ns (place_at a at)
element_is a ns at = get_or-map (element_by a.nodes ns) a.places at 0

pub under_length : (a : KeptArrays) (ns : List ℕ) → length (elements_under a ns) ≡ size a
under_length a ns = length-map a.places (element_by a.nodes ns)

-- elements are the same if those at each place are
pub same_under : (a b : KeptArrays) (ns ms : List ℕ) → size b ≡ size a → ((at : ℕ) → element_by b.nodes ms (place_at b at) ≡ element_by a.nodes ns (place_at a at)) → elements_under b ms ≡ elements_under a ns
same_under a b ns ms long same =
    ext_get_or 0 (elements_under b ms) (elements_under a ns) (under_length b ms ∙ long ∙ sym (under_length a ns))
    (λ at low. element_is b ms at ∙ same at ∙ sym (element_is a ns at))

-- the root of an array
pub root_of : (a : KeptArrays) (n : ℕ) → AreArrays a → IsArray a n → IsRoot a (numbers_of a.nodes n)
root_of a n are h = record { node = is_node a.nodes are.nodes n (h.known 1).0; free = h.free }

-- WHAT STAYS

module _ (a b : KeptArrays) (ns : List ℕ) (are : AreNodes a.nodes) (g : Grows a b) (root : IsRoot a ns) where
  pub stays_root : IsRoot b ns
  stays_root = record {
    node = stays_node a.nodes b.nodes are g.nodes ns root.node;
    free = λ place past. stays_below a.nodes b.nodes are g.nodes ns place root.node ∙ root.free place (omega (arith, past, g.used));
  }

  same_by : (k : ℕ) → element_by b.nodes ns k ≡ element_by a.nodes ns k
  same_by zero = refl
  same_by (suc place) = stays_below a.nodes b.nodes are g.nodes ns place root.node

  -- what a place has that was free before
  free_by : (k : ℕ) → a.used < k → element_by b.nodes ns k ≡ 0
  free_by zero past = refl
  free_by (suc place) past = stays_below a.nodes b.nodes are g.nodes ns place root.node ∙ root.free place (omega (arith, past))

  pub stays_under : elements_under b ns ≡ elements_under a ns
  stays_under =
      same_under a b ns ns g.size_is
      (λ at. elim (g.places at) [
        | inl same ↦ ap (element_by b.nodes ns) same ∙ same_by (place_at a at)
        | inr given ↦ free_by (place_at b at) given.1 ∙ ap (element_by a.nodes ns) (sym given.0)
      ])

pub grows_refl : (a : KeptArrays) → Grows a a
grows_refl a = record { nodes = keeps_refl a.nodes; size_is = refl; used = omega arith; places = λ i. inl refl }

-- more nodes alone
pub grows_nodes : (a b : KeptArrays) → Keeps a.nodes b.nodes → b.places ≡ a.places → b.used ≡ a.used → Grows a b
grows_nodes a b keeps same used =
    record { nodes = keeps; size_is = ap length same; used = omega (arith, used); places = λ i. inl (ap (λ (l : List ℕ). get_or l i 0) same) }

pub more_arrays : (a : KeptArrays) (nodes : List (List ℕ)) → AreArrays a → AreNodes nodes → AreArrays (record { nodes = nodes; places = a.places; used = a.used })
more_arrays a nodes are new = record { nodes = new; few = are.few; within = are.within; own = are.own; each = are.each }

-- an array stays one, with its elements
module _ (a b : KeptArrays) (n : ℕ) (g : Grows a b) (h : IsArray a n) where
  tree_stays : (place : ℕ) → tree_element b.nodes (numbers_of b.nodes n) place ≡ tree_element a.nodes (numbers_of a.nodes n) place
  tree_stays place = stays_tree a.nodes b.nodes g.nodes n place h.known

  by_stays : (k : ℕ) → element_by b.nodes (numbers_of b.nodes n) k ≡ element_by a.nodes (numbers_of a.nodes n) k
  by_stays zero = refl
  by_stays (suc place) = tree_stays place

  by_free : (k : ℕ) → a.used < k → element_by a.nodes (numbers_of a.nodes n) k ≡ 0
  by_free zero past = refl
  by_free (suc place) past = h.free place (omega (arith, past))

  pub array_stays : IsArray b n
  array_stays = record {
    known = λ levels. stays_known a.nodes b.nodes g.nodes levels n (h.known levels);
    free = λ place past. tree_stays place ∙ h.free place (omega (arith, past, g.used));
  }

  pub elements_stay : elements b n ≡ elements a n
  elements_stay =
      same_under a b (numbers_of a.nodes n) (numbers_of b.nodes n) g.size_is
      (λ at. by_stays (place_at b at) ∙ elim (g.places at) [
        | inl same ↦ ap (element_by a.nodes (numbers_of a.nodes n)) same
        | inr given ↦ by_free (place_at b at) given.1 ∙ ap (element_by a.nodes (numbers_of a.nodes n)) (sym given.0)
      ])

-- A PLACE IS GIVEN

module _ (a : KeptArrays) (at : ℕ) (are : AreArrays a) (low : at < size a) (none : place_at a at ≡ 0) where
  abbrev pub given : KeptArrays
  given = record { nodes = a.nodes; places = set a.places at (a.used + 1); used = a.used + 1 }

  here : place_at given at ≡ a.used + 1
  here = get_or-set_same a.places at (a.used + 1) 0 low

  there : (i : ℕ) → i ≢ at → place_at given i ≡ place_at a i
  there i apart = get_or-set_other a.places at i (a.used + 1) 0 apart

  given_own : (i j : ℕ) → 0 < place_at given i → place_at given i ≡ place_at given j → i ≡ j
  given_own i j some same =
      elim (cases_eq i at) [
        | inl is ↦ elim (cases_eq j at) [
          | inl js ↦ is ∙ sym js
          | inr apart ↦
              let one : place_at given i ≡ a.used + 1 = ap (place_at given) is ∙ here in
              absurd (omega (arith, one, same, there j apart, are.within j))
        ]
        | inr apart ↦ elim (cases_eq j at) [
          | inl js ↦
              let one : place_at given j ≡ a.used + 1 = ap (place_at given) js ∙ here in
              absurd (omega (arith, one, same, there i apart, are.within i))
          | inr other ↦ are.own i j (omega (arith, some, there i apart)) (sym (there i apart) ∙ same ∙ there j other)
        ]
      ]

  given_each : (k : ℕ) → 0 < k → k ≤ a.used + 1 → (i : ℕ) × (place_at given i ≡ k)
  given_each k some few =
      elim (cases_lt a.used k) [
        | inl last ↦ (at, here ∙ omega (arith, last, few))
        | inr old ↦
            let found = are.each k some old in
            (found.0, there found.0 (λ e. omega (arith, some, found.1, none, ap (place_at a) e)) ∙ found.1)
      ]

  given_within : (i : ℕ) → place_at given i ≤ a.used + 1
  given_within i =
      elim (cases_eq i at) [
        | inl is ↦ omega (arith, ap (place_at given) is, here)
        | inr apart ↦ omega (arith, there i apart, are.within i)
      ]

  pub given_are : AreArrays given
  given_are = record { nodes = are.nodes; few = omega (arith, are.few, length-set a.places at (a.used + 1)); within = given_within; own = given_own; each = given_each }

  pub given_grows : Grows a given
  given_grows = record {
    nodes = keeps_refl a.nodes;
    size_is = length-set a.places at (a.used + 1);
    used = omega arith;
    places = λ i. elim (cases_eq i at) [
      | inl is ↦ inr (ap (place_at a) is ∙ none, omega (arith, ap (place_at given) is, here))
      | inr apart ↦ inl (there i apart)
    ];
  }

  -- the same with the next place as the code has it
  pub given_as : (next : ℕ) → next ≡ a.used + 1 → AreArrays (record { nodes = a.nodes; places = set a.places at next; used = next })
  given_as next is = subst (λ n. AreArrays (record { nodes = a.nodes; places = set a.places at n; used = n })) (sym is) given_are

  pub given_grows_as : (next : ℕ) → next ≡ a.used + 1 → Grows a (record { nodes = a.nodes; places = set a.places at next; used = next })
  given_grows_as next is = subst (λ n. Grows a (record { nodes = a.nodes; places = set a.places at n; used = n })) (sym is) given_grows

-- AN ELEMENT IS CHANGED

module _ (a b : KeptArrays) (ns ms : List ℕ) (at place element : ℕ) (are : AreArrays a) (same_places : b.places ≡ a.places) (same_used : b.used ≡ a.used) (low : at < size a) (placed : place_at a at ≡ place + 1)
    (root : IsRoot a ns) (node : IsNode b.nodes ms) (changed : HasChange a.nodes b.nodes ns place element ms) where
  pub changed_root : IsRoot b ms
  changed_root = record {
    node = node;
    free = λ other past. changed.elsewhere other (λ e. omega (arith, past, same_used, e, placed, are.within at)) ∙ root.free other (omega (arith, past, same_used));
  }

  changed_by : (i : ℕ) → i ≢ at → (k : ℕ) → place_at a i ≡ k → element_by b.nodes ms k ≡ element_by a.nodes ns k
  changed_by i apart zero is = refl
  changed_by i apart (suc other) is = changed.elsewhere other (λ e. apart (are.own i at (omega (arith, is)) (is ∙ ap suc e ∙ let next : suc place ≡ place + 1 = omega arith in next ∙ sym placed)))

  pub changed_under : elements_under b ms ≡ set (elements_under a ns) at element
  changed_under =
      ext_get_or 0 (elements_under b ms) (set (elements_under a ns) at element)
      (under_length b ms ∙ ap length same_places ∙ sym (under_length a ns) ∙ sym (length-set (elements_under a ns) at element))
      (λ i inside. element_is b ms i ∙ ap (λ (l : List ℕ). element_by b.nodes ms (get_or l i 0)) same_places
      ∙ elim (cases_eq i at) [
        | inl is ↦
            ap (λ j. element_by b.nodes ms (place_at a j)) is ∙ ap (element_by b.nodes ms) (placed ∙ let next : place + 1 ≡ suc place = omega arith in next) ∙ changed.here
            ∙ sym (ap (λ j. get_or (set (elements_under a ns) at element) j 0) is ∙ get_or-set_same (elements_under a ns) at element 0 (omega (arith, low, under_length a ns)))
        | inr apart ↦
            changed_by i apart (place_at a i) refl ∙ sym (element_is a ns i) ∙ sym (get_or-set_other (elements_under a ns) at i element 0 apart)
      ])

-- a place that has none has 0, so putting 0 there changes nothing
pub zero_put : (a : KeptArrays) (ns : List ℕ) (at : ℕ) → place_at a at ≡ 0 → elements_under a ns ≡ set (elements_under a ns) at 0
zero_put a ns at none =
    sym (set-get_or (elements_under a ns) at 0) ∙ ap (set (elements_under a ns) at) (element_is a ns at ∙ ap (element_by a.nodes ns) none)

-- all this, of the arrays a as the code has them: here they are after the place was given, and nodes are those made after that
module _ {E : Type 0} (a mid here : KeptArrays) (nodes : List (List ℕ)) (ns : List ℕ) (at place element : ℕ) (is : here ≡ mid) (are : AreArrays a) (are_mid : AreArrays mid) (g : Grows a mid) (root : IsRoot a ns) (low : at < size a)
    (placed : get_or mid.places at 0 ≡ place + 1) (r : Result (List ℕ) E) (node : IfOk r (IsNode nodes)) (changed : IfOk r (HasChange here.nodes nodes ns place element)) where
  abbrev pub put : KeptArrays
  put = record { nodes = nodes; places = here.places; used = here.used }

  are_here : AreArrays here
  are_here = subst (λ (s : KeptArrays). AreArrays s) (sym is) are_mid

  low_here : at < size here
  low_here = subst (λ (s : KeptArrays). at < size s) (sym is) (omega (arith, low, g.size_is))

  placed_here : place_at here at ≡ place + 1
  placed_here = ap (λ (s : KeptArrays). place_at s at) is ∙ placed

  root_here : IsRoot here ns
  root_here = subst (λ (s : KeptArrays). IsRoot s ns) (sym is) (stays_root a mid ns are.nodes g root)

  pub put_root : IfOk r (IsRoot put)
  put_root =
      if_both r (IsNode nodes) (HasChange here.nodes nodes ns place element) (IsRoot put) node changed
      (λ ms n h. changed_root here put ns ms at place element are_here refl refl low_here placed_here root_here n h)

  pub put_under : IfOk r (λ ms. elements_under put ms ≡ set (elements_under a ns) at element)
  put_under =
      if_both r (IsNode nodes) (HasChange here.nodes nodes ns place element) (λ ms. elements_under put ms ≡ set (elements_under a ns) at element) node changed
      (λ ms n h. changed_under here put ns ms at place element are_here refl refl low_here placed_here root_here n h
      ∙ ap (λ (l : List ℕ). set l at element) (ap (λ (s : KeptArrays). elements_under s ns) is ∙ stays_under a mid ns are.nodes g root))

-- a place as it is read: the code reads with another default
pub read_place : (here a : KeptArrays) (is : here ≡ a) (at k : ℕ) → at < size a → k ≡ get_or here.places at k → k ≡ place_at here at
read_place here a is at k low read = read ∙ get_or_default_zero here.places at k (subst (λ (s : KeptArrays). at < size s) (sym is) low)

-- an element as it is read
pub read_element : (a here : KeptArrays) (is : here ≡ a) (n at place element : ℕ) → at < size a → place_at here at ≡ place + 1 → element ≡ tree_element here.nodes (numbers_of here.nodes n) place → slice_get (elements a n) at ≡ Some element
read_element a here is n at place element low placed read =
    let low_here : at < size here = subst (λ (s : KeptArrays). at < size s) (sym is) low in
    ap (λ (s : KeptArrays). slice_get (elements s n) at) (sym is)
    ∙ slice_get-get_or (elements here n) at 0 (omega (arith, low_here, under_length here (numbers_of here.nodes n)))
    ∙ ap Some
    (element_is here (numbers_of here.nodes n) at ∙ ap (element_by here.nodes (numbers_of here.nodes n)) (placed ∙ let next : place + 1 ≡ suc place = omega arith in next) ∙ sym read)

-- the root of an array as it is read
module _ (a here : KeptArrays) (is : here ≡ a) (n : ℕ) (ns : List ℕ) (are : AreArrays here) (array : IsArray a n) (has : slice_get here.nodes n ≡ Some ns) where
  read_is : numbers_of a.nodes n ≡ ns
  read_is = ap (λ (s : KeptArrays). numbers_of s.nodes n) (sym is) ∙ get_or_from_slice_get here.nodes n ns [] has

  pub read_root : IsRoot a ns
  read_root = subst (λ (l : List ℕ). IsRoot a l) read_is (root_of a n (subst (λ (s : KeptArrays). AreArrays s) is are) array)

  pub read_under : elements_under a ns ≡ elements a n
  read_under = ap (λ (l : List ℕ). elements_under a l) (sym read_is)

-- the array with a root
module _ {E : Type 0} (a here : KeptArrays) (nodes : List (List ℕ)) (is : here ≡ a) (ns : List ℕ) (are : AreArrays here) (new : AreNodes nodes) (keeps : Keeps here.nodes nodes) (root : IsRoot a ns)
    (r : Result ℕ E) (entered : IfOk r (λ n. slice_get nodes n ≡ Some ns)) where
  abbrev pub with_root : KeptArrays
  with_root = record { nodes = nodes; places = here.places; used = here.used }

  grown : Grows here with_root
  grown = grows_nodes here with_root keeps refl refl

  own_root : IsRoot here ns
  own_root = subst (λ (s : KeptArrays). IsRoot s ns) (sym is) root

  numbers_are : (n : ℕ) → slice_get nodes n ≡ Some ns → numbers_of nodes n ≡ ns
  numbers_are n h = get_or_from_slice_get nodes n ns [] h

  pub entered_array : IfOk r (IsArray with_root)
  entered_array =
      if_ok r (λ n. slice_get nodes n ≡ Some ns) (IsArray with_root) entered
      (λ n h. record {
        known = λ levels. all_known nodes new levels n (slice_get_within nodes n ns h);
        free = subst (λ (l : List ℕ). (place : ℕ) → here.used ≤ place → tree_element nodes l place ≡ 0) (sym (numbers_are n h)) (stays_root here with_root ns are.nodes grown own_root).free;
      })

  pub entered_elements : IfOk r (λ n. elements with_root n ≡ elements_under a ns)
  entered_elements =
      if_ok r (λ n. slice_get nodes n ≡ Some ns) (λ n. elements with_root n ≡ elements_under a ns) entered
      (λ n h. ap (λ (l : List ℕ). elements_under with_root l) (numbers_are n h) ∙ stays_under here with_root ns are.nodes grown own_root ∙ ap (λ (s : KeptArrays). elements_under s ns) is)

-- EQUAL ARRAYS

pub one_array : (s : KeptArrays) (m n : ℕ) → AreArrays s → IsArray s m → IsArray s n → elements s m ≡ elements s n → m ≡ n
one_array s m n are p q same =
    one_node s.nodes are.nodes (m + n) m n (omega arith) (p.known 1).0 (q.known 1).0
    (λ place. elim (cases_lt place s.used) [
      | inl low ↦
          let found = are.each (suc place) (omega arith) (omega (arith, low)) in
          sym (ap (element_by s.nodes (numbers_of s.nodes m)) found.1) ∙ sym (element_is s (numbers_of s.nodes m) found.0)
          ∙ ap (λ (l : List ℕ). get_or l found.0 0) same
          ∙ element_is s (numbers_of s.nodes n) found.0 ∙ ap (element_by s.nodes (numbers_of s.nodes n)) found.1
      | inr past ↦ p.free place past ∙ sym (q.free place past)
    ])

pub zeros_array : (s : KeptArrays) → AreNodes s.nodes → IsArray s 0
zeros_array s are = record { known = λ levels. all_known s.nodes are levels 0 (zero_there s.nodes are); free = λ place past. zero_element s.nodes are place }

pub zeros_elements : (s : KeptArrays) → AreNodes s.nodes → elements s 0 ≡ replicate (size s) 0
zeros_elements s are = all_zero s.places where
  zero_by : (k : ℕ) → element_by s.nodes (numbers_of s.nodes 0) k ≡ 0
  zero_by zero = refl
  zero_by (suc place) = zero_element s.nodes are place

  all_zero : (ks : List ℕ) → map (element_by s.nodes (numbers_of s.nodes 0)) ks ≡ replicate (length ks) 0
  all_zero [] = refl
  all_zero (k ∷ ks) = (λ i. zero_by k i ∷ all_zero ks i)
