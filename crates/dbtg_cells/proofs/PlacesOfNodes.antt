-- The order of nodes by their labels: what comes in, goes out, or gets another label.
use Rattle.std.proofs.Common.{◌≡◌, ◌^◌, ℕ, zero, suc, ◌+◌, ◌-◌, ◌*◌, ◌<◌, ◌≤◌, Bool, true, false, not, cond, ◌||◌, ◌==◌, eqb, List, [], ◌∷◌, ◌++◌, length, take, drop, set, get_or, Option, Some, None, refl, sym, ap, ◌∙◌, arith, inl, inr, nat_lt, slice_get, length-set, subst}
use Rattle.std.proofs.lemmas.Bool.{and_parts, and_from, eqb-true, eq-eqb, false_from_ne_true, ltb-true, lt-ltb, not-true, or_left, or_from}
use Rattle.std.proofs.lemmas.List.{get_or-set_same, get_or-set_other, take_more}
use Rattle.std.proofs.lemmas.Map.Steps.{length-le_from_distinct_below}
use Rattle.std.specs.List.{list_any, list_all, position_or_len, insert, remove, IsDistinct, AllByRecursion}
use Rattle.std.specs.Option.{option_map, IfSome}
use Rattle.dbtg_cells.specs.Inside.ByCalc.{is_rising}
use Rattle.dbtg_cells.specs.Inside.Ordered.{label_below, are_below, are_distinct, Fits, IsOrdered}
use Rattle.dbtg_cells.proofs.Rising.{apart, nothing, is_in, in_later, in_cases, all_at, all_from, rising_same, stands_first}
use Rattle.dbtg_cells.proofs.PlainLists.{passes_at}

-- LISTS WITH ONE MORE, OR ONE LESS

all_take : (p : ℕ → Bool) (xs : List ℕ) (i : ℕ) → list_all p xs ≡ true → list_all p (take i xs) ≡ true
all_take p xs zero h = refl
all_take p [] (suc i) h = refl
all_take p (x ∷ xs) (suc i) h = and_from _ _ (and_parts _ _ h).0 (all_take p xs i (and_parts _ _ h).1)

all_drop : (p : ℕ → Bool) (xs : List ℕ) (i : ℕ) → list_all p xs ≡ true → list_all p (drop i xs) ≡ true
all_drop p xs zero h = h
all_drop p [] (suc i) h = refl
all_drop p (x ∷ xs) (suc i) h = all_drop p xs i (and_parts _ _ h).1

pub all_insert : (p : ℕ → Bool) (xs : List ℕ) (i n : ℕ) → list_all p xs ≡ true → p n ≡ true → list_all p (insert xs i n) ≡ true
all_insert p xs zero n h g = and_from _ _ g h
all_insert p [] (suc i) n h g = and_from _ _ g refl
all_insert p (x ∷ xs) (suc i) n h g = and_from _ _ (and_parts _ _ h).0 (all_insert p xs i n (and_parts _ _ h).1 g)

all_remove : (p : ℕ → Bool) (xs : List ℕ) (i : ℕ) → list_all p xs ≡ true → list_all p (remove xs i) ≡ true
all_remove p [] zero h = refl
all_remove p [] (suc i) h = refl
all_remove p (x ∷ xs) zero h = (and_parts _ _ h).1
all_remove p (x ∷ xs) (suc i) h = and_from _ _ (and_parts _ _ h).0 (all_remove p xs i (and_parts _ _ h).1)

-- a test that passes wherever another does
all_more : (p q : ℕ → Bool) → ((y : ℕ) → p y ≡ true → q y ≡ true) → (xs : List ℕ) → list_all p xs ≡ true → list_all q xs ≡ true
all_more p q more [] h = refl
all_more p q more (x ∷ xs) h = and_from _ _ (more x (and_parts _ _ h).0) (all_more p q more xs (and_parts _ _ h).1)

rising_insert : (lt : ℕ → ℕ → Bool) (xs : List ℕ) (i n : ℕ) → is_rising lt xs ≡ true → list_all (λ y. lt y n) (take i xs) ≡ true → list_all (lt n) (drop i xs) ≡ true → is_rising lt (insert xs i n) ≡ true
rising_insert lt xs zero n rising front behind = and_from _ _ behind rising
rising_insert lt [] (suc i) n rising front behind = refl
rising_insert lt (x ∷ xs) (suc i) n rising front behind =
    and_from _ _ (all_insert (lt x) xs i n (and_parts _ _ rising).0 (and_parts _ _ front).0)
    (rising_insert lt xs i n (and_parts _ _ rising).1 (and_parts _ _ front).1 behind)

rising_remove : (lt : ℕ → ℕ → Bool) (xs : List ℕ) (i : ℕ) → is_rising lt xs ≡ true → is_rising lt (remove xs i) ≡ true
rising_remove lt [] zero rising = refl
rising_remove lt [] (suc i) rising = refl
rising_remove lt (x ∷ xs) zero rising = (and_parts _ _ rising).1
rising_remove lt (x ∷ xs) (suc i) rising = and_from _ _ (all_remove (lt x) xs i (and_parts _ _ rising).0) (rising_remove lt xs i (and_parts _ _ rising).1)

rising_more : (lt lt' : ℕ → ℕ → Bool) → ((x y : ℕ) → lt x y ≡ true → lt' x y ≡ true) → (xs : List ℕ) → is_rising lt xs ≡ true → is_rising lt' xs ≡ true
rising_more lt lt' more [] rising = refl
rising_more lt lt' more (x ∷ xs) rising = and_from _ _ (all_more (lt x) (lt' x) (more x) xs (and_parts _ _ rising).0) (rising_more lt lt' more xs (and_parts _ _ rising).1)

-- EACH NODE IS LISTED ONCE

abbrev differ : ℕ → ℕ → Bool
differ i j = not (i == j)

labels_differ : (labels : List ℕ) (i j : ℕ) → label_below labels i j ≡ true → differ i j ≡ true
labels_differ labels i j h = ap not (false_from_ne_true (i == j) (λ e. clash (ltb-true _ _ h) (ap (λ k. get_or labels k 0) (eqb-true i j e))))
  where
    clash : {a b : ℕ} → a < b → a ≡ b → ⊥
    clash low same = omega arith

pub distinct : (labels nodes : List ℕ) → is_rising (label_below labels) nodes ≡ true → are_distinct nodes ≡ true
distinct labels nodes rising = rising_more (label_below labels) differ (labels_differ labels) nodes rising

-- a number that is not in the list differs from all in it
all_differ : (n : ℕ) (xs : List ℕ) → is_in n xs ≡ false → list_all (differ n) xs ≡ true
all_differ n xs h = all_from (differ n) xs (λ y r. ap not (false_from_ne_true (n == y) (λ e. apart _ (ap (λ k. is_in k xs) (eqb-true n y e) ∙ r) h)))

all_differ_from : (n : ℕ) (xs : List ℕ) → is_in n xs ≡ false → list_all (λ y. differ y n) xs ≡ true
all_differ_from n xs h = all_from (λ y. differ y n) xs (λ y r. ap not (false_from_ne_true (y == n) (λ e. apart _ (ap (λ k. is_in k xs) (sym (eqb-true y n e)) ∙ r) h)))

pub distinct_insert : (xs : List ℕ) (i n : ℕ) → are_distinct xs ≡ true → is_in n xs ≡ false → are_distinct (insert xs i n) ≡ true
distinct_insert xs i n apart h = rising_insert differ xs i n apart (all_take _ xs i (all_differ_from n xs h)) (all_drop _ xs i (all_differ n xs h))

is_distinct : (xs : List ℕ) → are_distinct xs ≡ true → IsDistinct eqb xs
unfolding IsDistinct
is_distinct [] h = tt
is_distinct (x ∷ xs) h = (each xs (and_parts _ _ h).0, is_distinct xs (and_parts _ _ h).1)
  where
    each : (ys : List ℕ) → list_all (differ x) ys ≡ true → AllByRecursion (λ y. eqb x y ≡ false) ys
    each [] g = tt
    each (y ∷ ys) g = (not-true _ (and_parts _ _ g).0, each ys (and_parts _ _ g).1)

few : (n : ℕ) (xs : List ℕ) → are_distinct xs ≡ true → are_below n xs ≡ true → length xs ≤ n
few n xs h low = length-le_from_distinct_below xs n (is_distinct xs h) (λ q found. ltb-true q n (all_at (λ m. nat_lt m n) xs q low (turned q xs found)))
  where
    turned : (q : ℕ) (ys : List ℕ) → list_any (eqb q) ys ≡ true → is_in q ys ≡ true
    turned q [] g = nothing g
    turned q (y ∷ ys) g = by (eqb q y) refl (turned q ys)
      where
        by : (b : Bool) → eqb q y ≡ b → (list_any (eqb q) ys ≡ true → is_in q ys ≡ true) → is_in q (y ∷ ys) ≡ true
        by true p rest = or_left _ _ (eq-eqb y q (sym (eqb-true q y p)))
        by false p rest = in_later q y ys (rest (sym (ap (λ b. b || list_any (eqb q) ys) p) ∙ g))

-- with one more that is not listed, there are still at most as many as have labels
fewer : (n x : ℕ) (xs : List ℕ) → are_distinct xs ≡ true → are_below n xs ≡ true → x < n → is_in x xs ≡ false → length xs < n
fewer n x xs h low within other =
    let most = few n (x ∷ xs) (and_from _ _ (all_differ x xs other) h) (and_from _ _ (lt-ltb x n within) low) in
    omega arith

in_take : (y : ℕ) (xs : List ℕ) (i : ℕ) → is_in y (take i xs) ≡ true → is_in y xs ≡ true
in_take y xs zero h = nothing h
in_take y [] (suc i) h = nothing h
in_take y (x ∷ xs) (suc i) h = elim (in_cases y x (take i xs) h) [
  | inl e ↦ or_left _ _ (eq-eqb x y e)
  | inr r ↦ in_later y x xs (in_take y xs i r)
]

in_drop : (y : ℕ) (xs : List ℕ) (i : ℕ) → is_in y (drop i xs) ≡ true → is_in y xs ≡ true
in_drop y xs zero h = h
in_drop y [] (suc i) h = nothing h
in_drop y (x ∷ xs) (suc i) h = in_later y x xs (in_drop y xs i h)

-- WHERE A NODE STANDS

labels_pass : (a b c : ℕ) → nat_lt a b ≡ true → nat_lt b c ≡ true → nat_lt a c ≡ true
labels_pass a b c h g = let low = ltb-true a b h in let high = ltb-true b c g in lt-ltb a c (omega arith)

pub labels_down : (labels : List ℕ) (n x y : ℕ) → label_below labels x y ≡ true → label_below labels y n ≡ true → label_below labels x n ≡ true
labels_down labels n x y h g = labels_pass (get_or labels x 0) (get_or labels y 0) (get_or labels n 0) h g

pub found_there : (labels nodes : List ℕ) (n : ℕ) → is_rising (label_below labels) nodes ≡ true → is_in n nodes ≡ true → slice_get nodes (position_or_len (λ y. not (label_below labels y n)) nodes) ≡ Some n
found_there labels nodes n rising here = stands_first (label_below labels) (λ y. not (label_below labels y n)) n nodes rising itself (λ x less late. apart _ late (ap not less)) here
  where
    never : (a : ℕ) → nat_lt a a ≡ true → ⊥
    never a h = let low = ltb-true a a h in absurd (omega arith)

    itself : not (label_below labels n n) ≡ true
    itself = ap not (false_from_ne_true _ (never (get_or labels n 0)))

-- A LABEL BETWEEN THOSE BESIDE IT

fits_behind : (labels nodes : List ℕ) (place label : ℕ) → is_rising (label_below labels) nodes ≡ true → IfSome (option_map (λ n. get_or labels n 0) (slice_get nodes place)) (λ a. label < a) → list_all (λ n. nat_lt label (get_or labels n 0)) (drop place nodes) ≡ true
fits_behind labels [] zero label rising h = refl
fits_behind labels [] (suc i) label rising h = refl
fits_behind labels (x ∷ xs) zero label rising h = and_from _ _ (lt-ltb label _ h) (all_more (label_below labels x) (λ n. nat_lt label (get_or labels n 0)) higher xs (and_parts _ _ rising).0)
  where
    higher : (y : ℕ) → label_below labels x y ≡ true → nat_lt label (get_or labels y 0) ≡ true
    higher y low = lt-ltb label _ (omega (arith, h, ltb-true _ _ low))
fits_behind labels (x ∷ xs) (suc i) label rising h = fits_behind labels xs i label (and_parts _ _ rising).1 h

fits_front : (labels nodes : List ℕ) (place label : ℕ) → is_rising (label_below labels) nodes ≡ true → place ≤ length nodes → IfSome (cond (place == 0) None (option_map (λ n. get_or labels n 0) (slice_get nodes (place - 1)))) (λ b. b < label) → list_all (λ n. nat_lt (get_or labels n 0) label) (take place nodes) ≡ true
fits_front labels nodes zero label rising within h = refl
fits_front labels nodes (suc i) label rising within h = front nodes i rising within (rw (ne, less) at h)
  where
    ne : suc i == 0 ≡ false
    ne = false_from_ne_true _ (λ e. let same : suc i ≡ 0 = eqb-true (suc i) 0 e in absurd (omega arith))

    less : suc i - 1 ≡ i
    less = omega arith

    front : (nodes : List ℕ) (i : ℕ) → is_rising (label_below labels) nodes ≡ true → suc i ≤ length nodes → IfSome (option_map (λ n. get_or labels n 0) (slice_get nodes i)) (λ b. b < label) → list_all (λ n. nat_lt (get_or labels n 0) label) (take (suc i) nodes) ≡ true
    front [] i rising within h = absurd (omega arith)
    front (x ∷ xs) zero rising within h = and_from _ _ (lt-ltb _ label h) refl
    front (x ∷ []) (suc i) rising within h = absurd (omega arith)
    front (x ∷ (y ∷ ys)) (suc i) rising within h =
        let rest : list_all (λ n. nat_lt (get_or labels n 0) label) (y ∷ take i ys) ≡ true = front (y ∷ ys) i (and_parts _ _ rising).1 (omega arith) h in
        and_from _ _ (labels_pass (get_or labels x 0) (get_or labels y 0) label (and_parts _ _ (and_parts _ _ rising).0).0 (and_parts _ _ rest).0) rest

pub fitting : (nodes labels : List ℕ) (place : ℕ) (o below above : Option ℕ) → is_rising (label_below labels) nodes ≡ true → place ≤ length nodes → below ≡ cond (place == 0) None (option_map (λ n. get_or labels n 0) (slice_get nodes (place - 1))) → above ≡ option_map (λ n. get_or labels n 0) (slice_get nodes place) → IfSome o (λ label. IfSome below (λ b. b < label)) → IfSome o (λ label. IfSome above (λ a. label < a)) → IfSome o (Fits nodes labels place)
fitting nodes labels place None below above rising within is_below is_above low high = tt
fitting nodes labels place (Some label) below above rising within is_below is_above low high = record {
  front = fits_front labels nodes place label rising within (subst (λ o. IfSome o (λ b. b < label)) is_below low);
  behind = fits_behind labels nodes place label rising (subst (λ o. IfSome o (λ a. label < a)) is_above high);
}

-- a node gets a label, and those of the list, to which it does not belong, keep theirs
module _ (xs labels : List ℕ) (n label : ℕ) (other : is_in n xs ≡ false) (within : n < length labels) where
  kept : (y : ℕ) → is_in y xs ≡ true → get_or (set labels n label) y 0 ≡ get_or labels y 0
  kept y r = get_or-set_other labels n y label 0 (λ e. apart _ (ap (λ k. is_in k xs) (sym e) ∙ r) other)

  own : get_or (set labels n label) n 0 ≡ label
  own = get_or-set_same labels n label 0 within

  still_rising : is_rising (label_below labels) xs ≡ true → is_rising (label_below (set labels n label)) xs ≡ true
  still_rising rising = rising_same (label_below labels) (label_below (set labels n label)) xs (λ x y r s. ap (λ k. nat_lt k (get_or (set labels n label) y 0)) (kept x r) ∙ ap (nat_lt (get_or labels x 0)) (kept y s)) rising

  stays_under : (y : ℕ) → is_in y xs ≡ true → nat_lt (get_or labels y 0) label ≡ true → label_below (set labels n label) y n ≡ true
  stays_under y r h = ap (λ k. nat_lt k (get_or (set labels n label) n 0)) (kept y r) ∙ ap (nat_lt (get_or labels y 0)) own ∙ h

  stays_over : (y : ℕ) → is_in y xs ≡ true → nat_lt label (get_or labels y 0) ≡ true → label_below (set labels n label) n y ≡ true
  stays_over y r h = ap (λ k. nat_lt k (get_or (set labels n label) y 0)) own ∙ ap (nat_lt label) (kept y r) ∙ h

  keeps_test : (test : ℕ → Bool) → list_all (λ y. test (get_or labels y 0)) xs ≡ true → list_all (λ y. test (get_or (set labels n label) y 0)) xs ≡ true
  keeps_test test h = all_from (λ y. test (get_or (set labels n label) y 0)) xs (λ y r. ap test (kept y r) ∙ all_at (λ y. test (get_or labels y 0)) xs y h r)

pub fitted : (nodes labels : List ℕ) (capacity place node label : ℕ) → IsOrdered nodes labels capacity → node < length labels → is_in node nodes ≡ false → Fits nodes labels place label → IsOrdered (insert nodes place node) (set labels node label) capacity
fitted nodes labels capacity place node label O within other F = record {
  rising = rising_insert (label_below (set labels node label)) nodes place node (still_rising nodes labels node label other within O.rising)
      (all_from (λ y. label_below (set labels node label) y node) (take place nodes) (λ y r. stays_under nodes labels node label other within y (in_take y nodes place r) (all_at (λ n. nat_lt (get_or labels n 0) label) (take place nodes) y F.front r)))
      (all_from (label_below (set labels node label) node) (drop place nodes) (λ y r. stays_over nodes labels node label other within y (in_drop y nodes place r) (all_at (λ n. nat_lt label (get_or labels n 0)) (drop place nodes) y F.behind r)));
  below = ap (λ k. are_below k (insert nodes place node)) (length-set labels node label) ∙ all_insert (λ n. nat_lt n (length labels)) nodes place node O.below (lt-ltb node _ within);
  room = omega (arith, O.room, length-set labels node label);
  numbers = omega (arith, O.numbers, length-set labels node label);
}

-- an order whose list lost one node
pub ordered_without : (nodes labels : List ℕ) (capacity place : ℕ) → IsOrdered nodes labels capacity → IsOrdered (remove nodes place) labels capacity
ordered_without nodes labels capacity place O = record {
  rising = rising_remove (label_below labels) nodes place O.rising;
  below = all_remove (λ n. nat_lt n (length labels)) nodes place O.below;
  room = O.room;
  numbers = O.numbers;
}

-- the same order, with other room
pub same_order : (nodes nodes' labels labels' : List ℕ) (capacity capacity' : ℕ) → nodes' ≡ nodes → labels' ≡ labels → capacity ≤ capacity' → IsOrdered nodes labels capacity → IsOrdered nodes' labels' capacity'
same_order nodes nodes' labels labels' capacity capacity' is_nodes is_labels more O = rw (is_nodes, is_labels) (record { rising = O.rising; below = O.below; room = omega (arith, O.room); numbers = O.numbers })

pub few_nodes : (nodes labels : List ℕ) (capacity : ℕ) → IsOrdered nodes labels capacity → length nodes ≤ length labels
few_nodes nodes labels capacity O = few (length labels) nodes (distinct labels nodes O.rising) O.below

pub has_room : (nodes labels : List ℕ) (capacity node : ℕ) → IsOrdered nodes labels capacity → node < length labels → is_in node nodes ≡ false → length nodes < capacity
has_room nodes labels capacity node O within other = omega (arith, O.room, fewer (length labels) node nodes (distinct labels nodes O.rising) O.below within other)

-- labels that are added change none that was there
pub added : (nodes labels labels' : List ℕ) (capacity capacity' : ℕ) → length labels ≤ length labels' → ((n : ℕ) → n < length labels → get_or labels' n 0 ≡ get_or labels n 0) → length labels' ≤ capacity' → length labels' < 2 ^ 32 → IsOrdered nodes labels capacity → IsOrdered nodes labels' capacity'
added nodes labels labels' capacity capacity' more kept room numbers O = record {
  rising = rising_same (label_below labels) (label_below labels') nodes (λ x y r s. ap (λ k. nat_lt k (get_or labels' y 0)) (there x r) ∙ ap (nat_lt (get_or labels x 0)) (there y s)) O.rising;
  below = all_more (λ n. nat_lt n (length labels)) (λ n. nat_lt n (length labels')) (λ y low. lt-ltb y _ (omega (arith, more, ltb-true _ _ low))) nodes O.below;
  room = room;
  numbers = numbers;
}
  where
    there : (y : ℕ) → is_in y nodes ≡ true → get_or labels' y 0 ≡ get_or labels y 0
    there y r = kept y (ltb-true y _ (all_at (λ n. nat_lt n (length labels)) nodes y O.below r))

-- NEW LABELS

all_push : (p : ℕ → Bool) (xs : List ℕ) (n : ℕ) → list_all p xs ≡ true → p n ≡ true → list_all p (xs ++ n ∷ []) ≡ true
all_push p [] n h g = and_from _ _ g refl
all_push p (x ∷ xs) n h g = and_from _ _ (and_parts _ _ h).0 (all_push p xs n (and_parts _ _ h).1 g)

rising_push : (lt : ℕ → ℕ → Bool) (xs : List ℕ) (n : ℕ) → is_rising lt xs ≡ true → list_all (λ y. lt y n) xs ≡ true → is_rising lt (xs ++ n ∷ []) ≡ true
rising_push lt [] n rising h = refl
rising_push lt (x ∷ xs) n rising h = and_from _ _ (all_push (lt x) xs n (and_parts _ _ rising).0 (and_parts _ _ h).0) (rising_push lt xs n (and_parts _ _ rising).1 (and_parts _ _ h).1)

-- a node differs from those before it
not_in_front : (xs : List ℕ) (i : ℕ) → i < length xs → are_distinct xs ≡ true → is_in (get_or xs i 0) (take i xs) ≡ false
not_in_front xs zero within h = refl
not_in_front [] (suc i) within h = refl
not_in_front (x ∷ xs) (suc i) within h = or_from _ _ (not-true _ (passes_at (differ x) xs i 0 (and_parts _ _ h).0 (omega arith))) (not_in_front xs i (omega arith) (and_parts _ _ h).1)

-- the nodes before an index have labels that rise and are below the next one
pub record Labelled (nodes labels : List ℕ) (i label : ℕ) : Type 0 where
  pub rising : is_rising (label_below labels) (take i nodes) ≡ true
  pub under : list_all (λ n. nat_lt (get_or labels n 0) label) (take i nodes) ≡ true

pub labelled_more : (nodes labels : List ℕ) (i label step : ℕ) → i < length nodes → are_distinct nodes ≡ true → are_below (length labels) nodes ≡ true → 0 < step → Labelled nodes labels i label → Labelled nodes (set labels (get_or nodes i 0) label) (i + 1) (label + step)
labelled_more nodes labels i label step low apart below some L =
    let other = not_in_front nodes i low apart in
    let within = ltb-true _ _ (passes_at (λ n. nat_lt n (length labels)) nodes i 0 below low) in
    next (get_or nodes i 0) other within (take_more nodes i 0 low)
  where
    next : (n : ℕ) → is_in n (take i nodes) ≡ false → n < length labels → take (i + 1) nodes ≡ take i nodes ++ n ∷ [] → Labelled nodes (set labels n label) (i + 1) (label + step)
    next n other within is =
        let xs = take i nodes in
        let under : list_all (λ y. nat_lt (get_or (set labels n label) y 0) (label + step)) (take i nodes) ≡ true = keeps_test (take i nodes) labels n label other within (λ k. nat_lt k (label + step)) (all_more (λ y. nat_lt (get_or labels y 0) label) (λ y. nat_lt (get_or labels y 0) (label + step)) higher (take i nodes) L.under) in
        let own : nat_lt (get_or (set labels n label) n 0) (label + step) ≡ true = ap (λ k. nat_lt k (label + step)) (get_or-set_same labels n label 0 within) ∙ lt-ltb label (label + step) (omega (arith, some)) in
        record {
          rising = ap (is_rising (label_below (set labels n label))) is ∙ rising_push (label_below (set labels n label)) (take i nodes) n (still_rising (take i nodes) labels n label other within L.rising) (all_from (λ y. label_below (set labels n label) y n) (take i nodes) (λ y r. stays_under (take i nodes) labels n label other within y r (all_at (λ y. nat_lt (get_or labels y 0) label) (take i nodes) y L.under r)));
          under = ap (list_all (λ y. nat_lt (get_or (set labels n label) y 0) (label + step))) is ∙ all_push (λ y. nat_lt (get_or (set labels n label) y 0) (label + step)) (take i nodes) n under own;
        }
      where
        higher : (y : ℕ) → nat_lt (get_or labels y 0) label ≡ true → nat_lt (get_or labels y 0) (label + step) ≡ true
        higher y h = lt-ltb _ _ (omega (arith, ltb-true _ _ h))

-- what is left of the span at the next index
pub left_more : (step rest more : ℕ) → more ≡ rest + 1 → step * more ≡ step + step * rest
left_more step rest more e = rw e (omega arith)

pub relabelled : (listed nodes labels labels' : List ℕ) (capacity capacity' : ℕ) → listed ≡ nodes → is_rising (label_below labels') listed ≡ true → length labels' ≡ length labels → are_below (length labels) listed ≡ true → length labels ≤ capacity → length labels < 2 ^ 32 → capacity' ≡ capacity → IsOrdered nodes labels' capacity'
relabelled listed nodes labels labels' capacity capacity' is rising len below room numbers same = record {
  rising = ap (is_rising (label_below labels')) (sym is) ∙ rising;
  below = ap (λ k. are_below k nodes) len ∙ ap (are_below (length labels)) (sym is) ∙ below;
  room = omega (arith, len, room, same);
  numbers = omega (arith, len, numbers);
}

-- a length after an attempt to add
pub resized : (b : Bool) (n m l : ℕ) → l ≡ cond b m n → n ≤ m → (n ≤ l) × (l ≤ m)
resized true n m l e low = (omega arith, omega arith)
resized false n m l e low = (omega arith, omega arith)
