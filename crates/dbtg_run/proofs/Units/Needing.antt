-- What a need says of the area, the cell or the owners that it names, and that each need that is met brings the end nearer.
use Rattle.std.proofs.Common.{◌≡◌, ℕ, zero, suc, ◌+◌, ◌*◌, ◌<◌, ◌≤◌, Bool, true, false, not, cond, ◌||◌, List, [], ◌∷◌, ◌++◌, filter, length, Option, Some, None, inl, inr, refl, sym, ap, ◌∙◌, subst, arith, eq-eqb}
use Rattle.std.specs.Prelude.{is_some, ◌==◌}
use Rattle.std.specs.List.{list_any, find, range_with_len}
use Rattle.std.proofs.lemmas.Bool.{not-true, cases_Bool}
use Rattle.std.proofs.lemmas.List.FromFn.{length-range_with_len}
use Rattle.dbtg_schema.specs.Lists.{Lists}
use Rattle.dbtg_cells.specs.declared.cell.Cell.{Cell}
use Rattle.dbtg_cells.specs.declared.name.CellName.{CellName}
use Rattle.dbtg_cells.specs.Names.{name_eq}
use Rattle.dbtg_cells.specs.CellNumbers.{cell_number, cells_in_order}
use Rattle.dbtg_cells.proofs.Public.{stands_at}
use Rattle.dbtg_unit.specs.declared.held.Need.TheVariants.{Area, Stale, Ready}
use Rattle.dbtg_unit.specs.declared.statement.Statement.{Statement}
use Rattle.dbtg_unit.specs.declared.unit.Unit.{Unit}
use Rattle.dbtg_unit.specs.Database.State.Base.{Database}
use Rattle.dbtg_unit.specs.Database.Statements.Checks.{areas_of, refused_at_once}
use Rattle.dbtg_unit.specs.Database.Statements.Fits.{fits}
use Rattle.dbtg_unit.specs.Hands.Hands.{Hands}
use Rattle.dbtg_unit.specs.Hands.Needs.{areas_in_order, cells_of, is_stale, need, next_of}
use Rattle.dbtg_unit.proofs.Public.{In as InKeys, find_element}
use Rattle.dbtg_step.specs.Machine.SequentialDatabase.{In}
use Rattle.dbtg_step.specs.Machine.Network.{next_need_of, noted_owners}
use Rattle.dbtg_step.specs.Machine.TurningBack.{count}
use Rattle.dbtg_step.proofs.Public.{chose_area, count_length, count_up_to, needs_come_to_an_end, network_names_cells, slice_get_in}
use Rattle.dbtg_run.specs.declared.view.About.{About}
use Rattle.dbtg_run.specs.Inside.Views.{times, one_if}
use Rattle.dbtg_run.specs.Inside.LatchRule.{area_count, cells_of_table}
use Rattle.dbtg_run.specs.Inside.Posed.{not_held, turns_left}

-- COUNTS

count_falls : {X : Type 0} (p q : X → Bool) (c : X) (xs : List X) → ((x : X) → q x ≡ true → p x ≡ true) → In c xs → p c ≡ true → q c ≡ false → count q xs < count p xs
count_falls p q c [] f i h n = absurd i
count_falls {X} p q c (x ∷ xs) f (inl e) h n =
    let rest = count_up_to p q xs f in
    let here : p x ≡ true = subst (λ (y : X). p y ≡ true) e h in
    let not_here : q x ≡ false = subst (λ (y : X). q y ≡ false) e n in
    rw (here, not_here) (omega (arith, rest))
count_falls p q c (x ∷ xs) f (inr i) h n =
    let rest = count_falls p q c xs f i h n in
    elim (cases_Bool (q x)) [ inl e ↦ let k = f x e in rw (e, k) (omega (arith, rest)) | inr e ↦ rw e (omega (arith, rest)) ]

-- LISTS

-- the other word for it
there : {X : Type 0} (x : X) (xs : List X) → InKeys x xs → In x xs
there x [] i = absurd i
there x (y ∷ ys) (inl e) = inl (sym e)
there x (y ∷ ys) (inr i) = inr (there x ys i)

in_filter : {X : Type 0} (p : X → Bool) (x : X) (xs : List X) → In x (filter p xs) → In x xs
in_filter p x [] i = absurd i
in_filter p x (y ∷ xs) i = by (p y) i (in_filter p x xs)
  where
    by : (b : Bool) → In x (cond b (y ∷ filter p xs) (filter p xs)) → (In x (filter p xs) → In x xs) → In x (y ∷ xs)
    by true (inl e) rec = inl e
    by true (inr j) rec = inr (rec j)
    by false j rec = inr (rec j)

in_range : (x a n : ℕ) → In x (range_with_len a n) → x < a + n
in_range x a zero i = absurd i
in_range x a (suc n) (inl e) = omega arith
in_range x a (suc n) (inr i) = let h : x < (a + 1) + n = in_range x (a + 1) n i in omega arith

-- with one more at the end
any_more : {X : Type 0} (p : X → Bool) (xs : List X) (x : X) → list_any p (xs ++ x ∷ []) ≡ list_any p xs || p x
any_more p [] x = or_nothing (p x)
  where
    or_nothing : (b : Bool) → (b || false) ≡ (false || b)
    or_nothing true = refl
    or_nothing false = refl
any_more p (y ∷ xs) x = ap (λ b. p y || b) (any_more p xs x) ∙ sym (or_assoc (p y) (list_any p xs) (p x))
  where
    or_assoc : (a b c : Bool) → ((a || b) || c) ≡ (a || (b || c))
    or_assoc true b c = refl
    or_assoc false b c = refl

pub no_times : (a : ℕ) (xs : List ℕ) → list_any (λ b. b == a) xs ≡ false → times a xs ≡ 0
no_times a [] e = refl
no_times a (x ∷ xs) e = by (x == a) e (no_times a xs)
  where
    by : (b : Bool) → (b || list_any (λ b. b == a) xs) ≡ false → (list_any (λ b. b == a) xs ≡ false → times a xs ≡ 0) → one_if b + times a xs ≡ 0
    by true e rec = absurd (cc (e))
    by false e rec = let h = rec e in omega arith

-- one more is held: fewer are not
falls_more : {X Y : Type 0} (same : Y → X → Bool) (xs : List X) (all : List Y) (c : Y) (x : X) → In c all → list_any (same c) xs ≡ false → same c x ≡ true
    → count (λ y. not (list_any (same y) (xs ++ x ∷ []))) all < count (λ y. not (list_any (same y) xs)) all
falls_more same xs all c x i none here =
    count_falls (λ y. not (list_any (same y) xs)) (λ y. not (list_any (same y) (xs ++ x ∷ []))) c all
    (λ y e. before (list_any (same y) xs) (same y x) (sym (ap not (any_more (same y) xs x)) ∙ e))
    i (ap not none) (ap not (any_more (same c) xs x) ∙ after (list_any (same c) xs) (same c x) here)
  where
    before : (a b : Bool) → not (a || b) ≡ true → not a ≡ true
    before true b e = absurd (cc (e))
    before false b e = refl

    after : (a b : Bool) → b ≡ true → not (a || b) ≡ false
    after true b e = refl
    after false true e = refl
    after false false e = absurd (cc (e))

-- WHAT A NEED SAYS

module _ (schema : Lists) (capacity : ℕ) (db : Database) (unit : Unit) (hands : Hands) (x : Statement) where
  pub record IsArea (a : ℕ) : Type 0 where
    pub inside : a < length schema.areas
    pub fresh : list_any (λ b. b == a) hands.areas ≡ false
    pub in_range_of : In a (range_with_len 0 (length schema.areas))

  pub area_needed : (a : ℕ) → Area a ≡ need schema capacity db unit hands x → IsArea a
  unfolding need
  area_needed a e =
      let f = chose_area [] (is_some (refused_at_once schema capacity unit x)) (find (λ a. not (list_any (λ b. b == a) hands.areas)) (areas_in_order schema unit x)) (find (λ c. not (list_any (λ e. name_eq c e.0) hands.cells)) (cells_of schema capacity db unit hands.guesses x)) (is_stale schema capacity db unit hands.guesses x) a (ap (next_need_of []) (sym e)) in
      let g = find_element (λ a. not (list_any (λ b. b == a) hands.areas)) (areas_in_order schema unit x) a f.1 in
      let r = in_filter (λ a. list_any (λ b. b == a) (areas_of schema unit x)) a (range_with_len 0 (length schema.areas)) (there a (areas_in_order schema unit x) g.0) in
      record { inside = let h = in_range a 0 (length schema.areas) r in omega arith; fresh = not-true _ g.1; in_range_of = r }

  -- a statement turns back where a guess is stale, and with the true owners none is
  pub stale_needed : Stale ≡ need schema capacity db unit hands x → is_stale schema capacity db unit hands.guesses x ≡ true
  unfolding need
  stale_needed e = chose (is_some (refused_at_once schema capacity unit x)) (find (λ a. not (list_any (λ b. b == a) hands.areas)) (areas_in_order schema unit x)) (find (λ c. not (list_any (λ e. name_eq c e.0) hands.cells)) (cells_of schema capacity db unit hands.guesses x)) (is_stale schema capacity db unit hands.guesses x) (sym e)
    where
      chose : (r : Bool) (oa : Option ℕ) (oc : Option CellName) (stale : Bool) → (cond r Ready (next_of oa oc stale)) ≡ Stale → stale ≡ true
      chose true oa oc stale e = absurd (cc (e))
      chose false (Some a) oc stale e = absurd (cc (e))
      chose false None (Some c) stale e = absurd (cc (e))
      chose false None None false e = absurd (cc (e))
      chose false None None true e = refl

  pub not_stale_then : fits schema x ≡ true → is_stale schema capacity db unit (noted_owners schema capacity db unit x hands.guesses) x ≡ false
  not_stale_then fit = (needs_come_to_an_end schema capacity).not_stale_again db unit x hands.guesses fit

-- THE END

module _ (about : About) where
  pub area_nearer : (tries : ℕ) (hands : Hands) (a : ℕ) → In a (range_with_len 0 (area_count about)) → list_any (λ b. b == a) hands.areas ≡ false
      → turns_left about tries (record hands { areas = hands.areas ++ a ∷ [] }) < turns_left about tries hands
  area_nearer tries hands a i fresh =
      let h = falls_more (λ (c : ℕ) (b : ℕ). b == c) hands.areas (range_with_len 0 (area_count about)) a a i fresh (eq-eqb a a refl) in
      omega (arith, h)

  pub cell_nearer : (tries number : ℕ) (hands : Hands) (c : CellName) (y : Cell) → cell_number about.schema.value about.capacity c ≡ Some number → list_any (λ e. name_eq c e.0) hands.cells ≡ false
      → turns_left about tries (record hands { cells = hands.cells ++ (c, y) ∷ [] }) < turns_left about tries hands
  cell_nearer tries number hands c y named fresh =
      let i = slice_get_in (cells_in_order about.schema.value about.capacity) number c (stands_at c (cells_in_order about.schema.value about.capacity) number named) in
      let h = falls_more (λ (d : CellName) (e : CellName × Cell). name_eq d e.0) hands.cells (cells_in_order about.schema.value about.capacity) c (c, y) i fresh ((network_names_cells about.schema.value about.capacity).same_self c) in
      omega (arith, h)

  not_held_most : (hands : Hands) → not_held about hands ≤ area_count about + cells_of_table about
  not_held_most hands =
      let a = count_length (λ a. not (list_any (λ b. b == a) hands.areas)) (range_with_len 0 (area_count about)) in
      let b = length-range_with_len 0 (area_count about) in
      let c = count_length (λ c. not (list_any (λ (e : CellName × Cell). name_eq c e.0) hands.cells)) (cells_in_order about.schema.value about.capacity) in
      omega (arith, a, b, c)

  -- a try brings it nearer, whatever is held then
  pub try_nearer : (tries : ℕ) (old new : Hands) → 0 < tries → (t : ℕ) → t + 1 ≡ tries → turns_left about t new < turns_left about tries old
  try_nearer tries old new some t e =
      let n = not_held_most new in
      let all = area_count about + cells_of_table about in
      let m : tries * (all + 1) ≡ t * (all + 1) + (all + 1) = step t (all + 1) tries e in
      omega (arith, n, m)
    where
      step : (t k tries : ℕ) → t + 1 ≡ tries → tries * k ≡ t * k + k
      step t k tries e = subst (λ n. n * k ≡ t * k + k) e (grow t k)
        where
          grow : (t k : ℕ) → (t + 1) * k ≡ t * k + k
          grow t k = omega arith
