-- What is kept of a DELETE's course stays right while more cells are taken.
-- Uses: what a DELETE reads from the held cells. Promises: `course_stays`, and which hands have all that others have.
use Rattle.std.proofs.Common.{◌≡◌, ◌&&◌, refl, sym, ◌∙◌, ap, ℕ, zero, suc, ◌+◌, ◌<◌, Bool, true, false, cond, not, List, [], ◌∷◌, ◌++◌, Option, Some, None, arith, inl, inr, map, subst, take}
use Rattle.std.specs.Prelude.{filter, is_some, option_and_then, slice_get, ◌==◌}
use Rattle.std.specs.List.{flat_map}
use Rattle.std.proofs.lemmas.Bool.{false≢true}
use Rattle.std.proofs.lemmas.Option.{none-some, same_Some}
use Rattle.dbtg_schema.specs.Lists.{Lists}
use Rattle.dbtg_schema.specs.Lookups.{at, some_and}
use Rattle.dbtg_schema.specs.Structure.{set_numbers}
use Rattle.dbtg_cells.specs.declared.cell.Cell.{Cell}
use Rattle.dbtg_cells.specs.declared.key.DbKey.{DbKey}
use Rattle.dbtg_cells.specs.declared.key.Owner.{Owner}
use Rattle.dbtg_cells.specs.declared.key.Owner.TheVariants.{Rec}
use Rattle.dbtg_cells.specs.declared.name.CellName.{CellName}
use Rattle.dbtg_cells.specs.declared.name.CellName.TheVariants.{Extent, Ring}
use Rattle.dbtg_cells.specs.Keys.{owner_eq}
use Rattle.dbtg_cells.specs.Names.{name_eq}
use Rattle.dbtg_cells.specs.Members.{keys_in}
use Rattle.dbtg_unit.specs.declared.statement.Erase.{Erase}
use Rattle.dbtg_unit.specs.declared.unit.Unit.{Unit}
use Rattle.dbtg_unit.specs.Database.State.CellNames.{slot_name}
use Rattle.dbtg_unit.specs.Database.Statements.Doomed.{takes_member}
use Rattle.dbtg_unit.specs.Hands.Erasing.{brought, brought_from, own_rings, with_those}
use Rattle.dbtg_unit.specs.Hands.Hands.{Hands, cell_of}
use Rattle.dbtg_unit.specs.Hands.InHand.{occurrence_of, owner_in, stored_of}
use Rattle.dbtg_unit.specs.Hands.Local.{holds}
use Rattle.dbtg_unit.specs.Hands.Needs.{ring_names}
use Rattle.dbtg_unit.proofs.Public.{In, any_agrees, filter_agrees_on_list, flat_map_agrees, holds_there, in_flat_map, in_left, in_map, in_right, of_flat_map}
use Rattle.dbtg_erase.specs.declared.course.Course.{Course}
use Rattle.dbtg_erase.specs.declared.names.Names.{Names}
use Rattle.dbtg_erase.specs.Course.{AroundFits, IsCourse, IsCourseOfCurrent, IsCourseIfBegun, MembersFit}
use Rattle.dbtg_erase.specs.Inside.Course.{HasAllOf}
use Rattle.dbtg_erase.specs.NextCell.{first_missing, least_name, outer_names}
use Rattle.dbtg_erase.specs.WorkList.{cells_of_gone, elsewhere_in, list_in, members_in_hand, most_gone, own_sets, taken_in, taken_of_set}
use Rattle.dbtg_erase.proofs.Bringing.{kept_at, still_at}
use Rattle.dbtg_erase.proofs.Reading.{none_wanting}

-- WHAT HAS ALL OF WHAT

-- hands with the same cells
pub same_cells : (hands hands' : Hands) → hands'.cells ≡ hands.cells → HasAllOf hands hands'
same_cells hands hands' e c h = ap (cell_of c) e

found_front : (c : CellName) (xs ys : List (CellName × Cell)) → holds xs c ≡ true → cell_of c (xs ++ ys) ≡ cell_of c xs
found_front c [] ys h = absurd (false≢true h)
found_front c (x ∷ xs) ys h = by (name_eq c x.0) h (found_front c xs ys) where
  by : (b : Bool) → cond b true (holds xs c) ≡ true → (holds xs c ≡ true → cell_of c (xs ++ ys) ≡ cell_of c xs) → cond b (Some x.1) (cell_of c (xs ++ ys)) ≡ cond b (Some x.1) (cell_of c xs)
  by true e rest = refl
  by false e rest = rest e

-- hands with one cell more
pub one_more_cell : (hands hands' : Hands) (e : CellName × Cell) → hands'.cells ≡ hands.cells ++ e ∷ [] → HasAllOf hands hands'
one_more_cell hands hands' e is c h = ap (cell_of c) is ∙ found_front c hands.cells (e ∷ []) h

-- WORK LISTS

of_front : {X : Type 0} (n : ℕ) (xs : List X) (x : X) → In x (take n xs) → In x xs
of_front zero xs x i = absurd i
of_front (suc n) [] x i = absurd i
of_front (suc n) (y ∷ xs) x (inl e) = inl e
of_front (suc n) (y ∷ xs) x (inr i) = inr (of_front n xs x i)

in_front : {X : Type 0} (n j : ℕ) (xs : List X) (x : X) → slice_get xs j ≡ Some x → j < n → In x (take n xs)
in_front n j [] x e h = absurd (none-some x e)
in_front zero j (y ∷ xs) x e h = absurd (omega arith)
in_front (suc n) zero (y ∷ xs) x e h = inl (cc (e))
in_front (suc n) (suc j) (y ∷ xs) x e h = inr (in_front n j xs x e (omega arith))

-- two that bring the same of each of the keys that bring are one
brought_same : (taken taken' : DbKey → List DbKey) (n i : ℕ) (order : List DbKey)
    → ((d : DbKey) (j : ℕ) → j < i + n → slice_get (brought taken n i order) j ≡ Some d → taken' d ≡ taken d) → brought taken' n i order ≡ brought taken n i order
brought_same taken taken' zero i order h = refl
brought_same taken taken' (suc n) i order h = by (slice_get order i) refl h (brought_same taken taken' n (suc i)) where
  by : (o : Option DbKey) → slice_get order i ≡ o → ((d : DbKey) (j : ℕ) → j < i + suc n → slice_get (brought taken n (suc i) (brought_from taken order o)) j ≡ Some d → taken' d ≡ taken d)
      → ((zs : List DbKey) → ((d : DbKey) (j : ℕ) → j < suc i + n → slice_get (brought taken n (suc i) zs) j ≡ Some d → taken' d ≡ taken d) → brought taken' n (suc i) zs ≡ brought taken n (suc i) zs)
      → brought taken' n (suc i) (brought_from taken' order o) ≡ brought taken n (suc i) (brought_from taken order o)
  by None e h later = later order (λ d j below at. h d j (omega arith) at)
  by (Some d) e h later =
      let here : taken' d ≡ taken d = h d i (omega arith) (kept_at taken n (suc i) i (with_those order (taken d)) d (still_at order (taken d) i d e)) in
      ap (λ xs. brought taken' n (suc i) (with_those order xs)) here ∙ later (with_those order (taken d)) (λ d j below at. h d j (omega arith) at)

-- names that are all held
none_is : (hands : Hands) (cs : List CellName) → ((c : CellName) → In c cs → holds hands.cells c ≡ true) → first_missing hands cs ≡ None
none_is hands [] h = refl
none_is hands (c ∷ cs) h = ap (λ b. cond (not b) (Some c) (first_missing hands cs)) (h c (inl refl)) ∙ none_is hands cs (λ d i. h d (inr i))

module _ (schema : Lists) (hands hands' : Hands) (all : HasAllOf hands hands') where
  stays : (c : CellName) → holds hands.cells c ≡ true → holds hands'.cells c ≡ true
  stays c h = sym (holds_there hands'.cells c) ∙ ap is_some (all c h) ∙ holds_there hands.cells c ∙ h

  held_of : (cs : List CellName) → first_missing hands cs ≡ None → (c : CellName) → In c cs → holds hands.cells c ≡ true
  held_of cs none c i = none_wanting (holds hands.cells) cs none c i

  -- names that are held stay so
  still : (cs : List CellName) → first_missing hands cs ≡ None → first_missing hands' cs ≡ None
  still cs none = none_is hands' cs (λ c i. stays c (held_of cs none c i))

  list_same : (d : DbKey) (s : ℕ) → holds hands.cells (Ring s (Some (d.rtype, d.number))) ≡ true → list_in hands' d s ≡ list_in hands d s
  list_same d s h = ap (λ (o : Option Cell). keys_in (occurrence_of (Rec d) o)) (all (Ring s (Some (d.rtype, d.number))) h)

  owner_same : (m : DbKey) (s : ℕ) → holds hands.cells (slot_name m) ≡ true → owner_in hands' s m ≡ owner_in hands s m
  owner_same m s h = ap (λ (o : Option Cell). option_and_then (λ r. at r.owners s) (stored_of m.generation o)) (all (slot_name m) h)

  ring_held : (d : DbKey) (s : ℕ) → first_missing hands (own_rings schema d) ≡ None → In s (own_sets schema d) → holds hands.cells (Ring s (Some (d.rtype, d.number))) ≡ true
  ring_held d s none i = held_of (own_rings schema d) none _ (in_map (λ s. Ring s (Some (d.rtype, d.number))) s (own_sets schema d) i)

  members_same : (d : DbKey) → first_missing hands (own_rings schema d) ≡ None → members_in_hand schema hands' d ≡ members_in_hand schema hands d
  members_same d none = flat_map_agrees (list_in hands' d) (list_in hands d) (own_sets schema d) (λ s i. list_same d s (ring_held d s none i))

  -- what a record whose cells are held has of the cells
  own_of : (d : DbKey) → first_missing hands (cells_of_gone schema hands d) ≡ None → first_missing hands (own_rings schema d) ≡ None
  own_of d none = none_is hands (own_rings schema d) (λ c i. held_of (cells_of_gone schema hands d) none c (inr (in_left c (own_rings schema d) (map slot_name (members_in_hand schema hands d)) i)))

  cells_same : (d : DbKey) → first_missing hands (own_rings schema d) ≡ None → cells_of_gone schema hands' d ≡ cells_of_gone schema hands d
  cells_same d none = ap (λ ms. slot_name d ∷ own_rings schema d ++ map slot_name ms) (members_same d none)

  elsewhere_same : (s : ℕ) (o : Owner) (m : DbKey) → holds hands.cells (slot_name m) ≡ true → elsewhere_in schema hands' s o m ≡ elsewhere_in schema hands s o m
  elsewhere_same s o m h = any_agrees _ _ (set_numbers schema) (λ s' i. ap (some_and (λ o'. not (s' == s && owner_eq o' o))) (owner_same m s' h))

  slot_held : (d : DbKey) (s : ℕ) (m : DbKey) → first_missing hands (cells_of_gone schema hands d) ≡ None → In s (own_sets schema d) → In m (list_in hands d s) → holds hands.cells (slot_name m) ≡ true
  slot_held d s m none i j =
      held_of (cells_of_gone schema hands d) none (slot_name m)
      (inr (in_right (slot_name m) (own_rings schema d) (map slot_name (members_in_hand schema hands d)) (in_map slot_name m (members_in_hand schema hands d) (in_flat_map (list_in hands d) s m (own_sets schema d) i j))))

  taken_same : (option : Erase) (d : DbKey) → first_missing hands (cells_of_gone schema hands d) ≡ None → taken_in schema hands' option d ≡ taken_in schema hands option d
  taken_same option d none =
      flat_map_agrees (taken_of_set schema hands' option d) (taken_of_set schema hands option d) (own_sets schema d)
      (λ s i.
      ap (filter (λ m. takes_member schema option s (elsewhere_in schema hands' s (Rec d) m) m)) (list_same d s (ring_held d s (own_of d none) i))
      ∙ filter_agrees_on_list (λ m. takes_member schema option s (elsewhere_in schema hands' s (Rec d) m) m) (λ m. takes_member schema option s (elsewhere_in schema hands s (Rec d) m) m) (list_in hands d s)
      (λ m j. ap (λ b. takes_member schema option s b m) (elsewhere_same s (Rec d) m (slot_held d s m none i j))))

  -- each record that goes has its cells held
  each_none : (gone : List DbKey) → first_missing hands (flat_map (cells_of_gone schema hands) gone) ≡ None → (d : DbKey) → In d gone → first_missing hands (cells_of_gone schema hands d) ≡ None
  each_none gone none d i = none_is hands (cells_of_gone schema hands d) (λ c j. held_of (flat_map (cells_of_gone schema hands) gone) none c (in_flat_map (cells_of_gone schema hands) d c gone i j))

  all_same : (gone : List DbKey) → first_missing hands (flat_map (cells_of_gone schema hands) gone) ≡ None → flat_map (cells_of_gone schema hands') gone ≡ flat_map (cells_of_gone schema hands) gone
  all_same gone none = flat_map_agrees (cells_of_gone schema hands') (cells_of_gone schema hands) gone (λ d i. cells_same d (own_of d (each_none gone none d i)))

  all_still : (gone : List DbKey) → first_missing hands (flat_map (cells_of_gone schema hands) gone) ≡ None → first_missing hands' (flat_map (cells_of_gone schema hands') gone) ≡ None
  all_still gone none = ap (first_missing hands') (all_same gone none) ∙ still (flat_map (cells_of_gone schema hands) gone) none

  -- this many steps of the work list
  steps_same : (option : Erase) (n : ℕ) (order gone : List DbKey) → brought (taken_in schema hands option) n 0 order ≡ gone → first_missing hands (flat_map (cells_of_gone schema hands) (take n gone)) ≡ None
      → brought (taken_in schema hands' option) n 0 order ≡ gone
  steps_same option n order gone e none =
      brought_same (taken_in schema hands option) (taken_in schema hands' option) n 0 order
      (λ d j below there. taken_same option d (each_none (take n gone) none d (in_front n j gone d (ap (λ xs. slice_get xs j) (sym e) ∙ there) (omega arith)))) ∙ e

  outer_same : (gone : List DbKey) → first_missing hands (flat_map (cells_of_gone schema hands) gone) ≡ None → flat_map (outer_names schema hands') gone ≡ flat_map (outer_names schema hands) gone
  outer_same gone none =
      flat_map_agrees (outer_names schema hands') (outer_names schema hands) gone
      (λ d i.
      let slot = held_of (cells_of_gone schema hands d) (each_none gone none d i) (slot_name d) (inl refl) in
      ap (λ cs. Extent d.rtype ∷ cs) (flat_map_agrees (λ s. ring_names s (owner_in hands' s d)) (λ s. ring_names s (owner_in hands s d)) (set_numbers schema) (λ s j. ap (ring_names s) (owner_same d s slot))))

  module _ (capacity : ℕ) (option : Erase) (k : DbKey) where
    members_stay : (d : Option DbKey) (names : Option Names) → MembersFit schema hands d names → MembersFit schema hands' d names
    members_stay d None kept = tt
    members_stay d (Some names) kept = λ x e.
        let was = kept x e in
        record {
          own = still (slot_name x ∷ own_rings schema x) was.own;
          members = was.members ∙ ap (map slot_name) (sym (members_same x (none_is hands (own_rings schema x) (λ c i. held_of (slot_name x ∷ own_rings schema x) was.own c (inr i)))));
          passed = still (take names.passed names.names.items) was.passed;
        }

    around_stays : (gone : List DbKey) (names : Option Names) → AroundFits schema capacity hands option k gone names → AroundFits schema capacity hands' option k gone names
    around_stays gone None kept = tt
    around_stays gone (Some names) kept = (
      sym (steps_same option (most_gone schema capacity) (k ∷ []) gone (sym kept.0) (front_none gone kept.1)),
      all_still gone kept.1,
      record {
        in_order = λ p. kept.2.in_order p ∙ ap (λ cs. least_name None (filter p cs)) (sym (outer_same gone kept.1));
        passed = still (take names.passed names.names.items) kept.2.passed;
      },
    ) where
      front_none : (gone : List DbKey) → first_missing hands (flat_map (cells_of_gone schema hands) gone) ≡ None → first_missing hands (flat_map (cells_of_gone schema hands) (take (most_gone schema capacity) gone)) ≡ None
      front_none gone none = none_is hands _ (λ c i. let d = of_flat_map (cells_of_gone schema hands) c (take (most_gone schema capacity) gone) i in held_of (flat_map (cells_of_gone schema hands) gone) none c (in_flat_map (cells_of_gone schema hands) d.0 c gone (of_front (most_gone schema capacity) gone d.0 d.1) d.2))

    pub course_goes_on : (course : Course) → IsCourse schema capacity hands option k course → IsCourse schema capacity hands' option k course
    course_goes_on course was =
        record {
          few = was.few;
          within = was.within;
          gone = sym (steps_same option course.done (k ∷ []) course.gone (sym was.gone) was.cells);
          cells = all_still (take course.done course.gone) was.cells;
          members = members_stay (slice_get course.gone course.done) course.members was.members;
          around = around_stays course.gone course.around was.around;
        }

-- THE CURRENT OF RUN-UNIT

-- nothing kept is right
pub nothing_kept : (schema : Lists) (capacity : ℕ) (hands : Hands) (unit : Unit) (option : Erase) → IsCourseOfCurrent schema capacity hands unit option None
unfolding IsCourseOfCurrent
nothing_kept schema capacity hands unit option = λ k e. tt

-- what is kept is right when more is held
pub kept_stays : (schema : Lists) (capacity : ℕ) (hands hands' : Hands) (unit : Unit) (option : Erase) (course : Option Course) → HasAllOf hands hands' → IsCourseOfCurrent schema capacity hands unit option course → IsCourseOfCurrent schema capacity hands' unit option course
unfolding IsCourseOfCurrent
kept_stays schema capacity hands hands' unit option None all kept = λ k e. tt
kept_stays schema capacity hands hands' unit option (Some course) all kept = λ k e. course_goes_on schema hands hands' all capacity option k course (kept k e)

-- what is kept of a DELETE is kept of the current, and the other way round
pub kept_of : (schema : Lists) (capacity : ℕ) (hands : Hands) (unit : Unit) (option : Erase) (course : Option Course) (k : DbKey) → unit.currency.run_unit ≡ Some k → IsCourseOfCurrent schema capacity hands unit option course → IsCourseIfBegun schema capacity hands option k course
unfolding IsCourseOfCurrent
kept_of schema capacity hands unit option course k is kept = kept k is

pub kept_by : (schema : Lists) (capacity : ℕ) (hands : Hands) (unit : Unit) (option : Erase) (course : Option Course) (k : DbKey) → unit.currency.run_unit ≡ Some k → IsCourseIfBegun schema capacity hands option k course → IsCourseOfCurrent schema capacity hands unit option course
unfolding IsCourseOfCurrent
kept_by schema capacity hands unit option course k is kept = λ j e. subst (λ (d : DbKey). IsCourseIfBegun schema capacity hands option d course) (same_Some k j (sym is ∙ e)) kept
