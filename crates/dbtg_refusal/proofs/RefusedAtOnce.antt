-- A refusal that needs no cell has something in its way.
use Rattle.std.proofs.Common.{◌≡◌, refl, sym, ◌∙◌, ap, subst, ℕ, zero, suc, ◌+◌, ◌<◌, ◌≤◌, Bool, true, false, eqb, ◌&&◌, not, List, [], ◌∷◌, length, Option, Some, None, inl, inr, ⊎_elim, arith}
use Rattle.std.specs.Prelude.{filter, is_none, is_some, nat_lt, option_and_then, option_map}
use Rattle.std.specs.List.{find, list_all, list_any, range_with_len}
use Rattle.std.proofs.lemmas.Bool.{and_from, and_parts, cases_Bool, eq-eqb, eqb-false, eqb-true, false_from_ne_true, false≢true, ltb-true, or_cases, or_left, or_right}
use Rattle.dbtg_schema.specs.Lists.{Lists}
use Rattle.dbtg_schema.specs.Lookups.{at, some_and}
use Rattle.dbtg_schema.specs.Sound.{IsSound}
use Rattle.dbtg_schema.specs.Structure.{automatic_sets, member_clause}
use Rattle.dbtg_schema.specs.declared.shape.Class.{Class}
use Rattle.dbtg_schema.proofs.Public.{some_is}
use Rattle.dbtg_cells.specs.declared.key.DbKey.{DbKey}
use Rattle.dbtg_cells.specs.declared.usage.Mode.{Mode}
use Rattle.dbtg_cells.specs.Modes.{is_update}
use Rattle.dbtg_unit.specs.declared.statement.Form.{Form}
use Rattle.dbtg_unit.specs.declared.statement.Form.TheVariants.{Key, CurrentOfUnit, CurrentOfType, CurrentOfSet, CurrentOfArea, InSet, InArea, OwnerOf, Calc, NextDuplicate, Sorted}
use Rattle.dbtg_unit.specs.declared.statement.Statement.{Statement}
use Rattle.dbtg_unit.specs.declared.statement.Statement.TheVariants.{OpenArea, CloseArea, Find, Get, Store, Insert, Remove, Modify, Delete, Keep, Free}
use Rattle.dbtg_unit.specs.declared.unit.Cause.{Cause}
use Rattle.dbtg_unit.specs.declared.unit.Unit.{Unit}
use Rattle.dbtg_unit.specs.Database.State.Units.{place_in}
use Rattle.dbtg_unit.specs.Database.Statements.Checks.{areas_of, checks_at_once, refused_at_once}
use Rattle.dbtg_unit.specs.Database.Statements.Conditions.{changes_records, class_in, current_type, find_lacks_current, frees_what_is_not_kept, is_beyond, is_inserting_mandatory_automatic, is_open_statement, is_opening_again, is_removing_mandatory, lacks_current, needs_current}
use Rattle.dbtg_unit.specs.Database.Statements.Fits.{fits}
use Rattle.dbtg_unit.specs.Database.Statements.StoredFacts.{StoredFacts}
use Rattle.dbtg_unit.proofs.Public.{areas_known, find_element}
use Rattle.dbtg_refusal.specs.declared.obstacle.Obstacle.TheVariants as obstacle
use Rattle.dbtg_refusal.specs.Obstacles.{Holder, area_with, class_of, current_for, obstacle_by, opened_by, searched, without_current}
use Rattle.dbtg_refusal.proofs.FirstCauses.{first_in, map_some}
use Rattle.dbtg_refusal.proofs.FoundInLists.{any_is_found, found_kept}

-- AREAS

-- if one of the numbers passes, some number passes
any_of : (p : ℕ → Bool) (a : ℕ) (numbers : List ℕ) → p a ≡ true → list_any (λ b. eqb b a) numbers ≡ true → list_any p numbers ≡ true
any_of p a [] h among = absurd (false≢true among)
any_of p a (b ∷ bs) h among = ⊎_elim (λ e. or_left _ _ (subst (λ y. p y ≡ true) (sym (eqb-true b a e)) h)) (λ r. or_right _ _ (any_of p a bs h r)) (or_cases _ _ among)

-- so does one of a range
any_in_range : (p : ℕ → Bool) (start n a : ℕ) → start ≤ a → a < start + n → p a ≡ true → list_any p (range_with_len start n) ≡ true
any_in_range p start zero a low high h = absurd (omega (arith, low, high))
any_in_range p start (suc n) a low high h =
    elim (cases_Bool (eqb start a)) [
      | inl e ↦ or_left _ _ (subst (λ y. p y ≡ true) (sym (eqb-true start a e)) h)
      | inr e ↦ let ne = eqb-false start a e in or_right _ _ (any_in_range p (start + 1) n a (omega (arith, low, ne)) (omega (arith, high)) h)
    ]

-- a number of a list that passes
one_of : (n : ℕ) (p : ℕ → Bool) (numbers : List ℕ) → list_all (λ a. nat_lt a n) numbers ≡ true → list_any p numbers ≡ true → (a : ℕ) × (p a ≡ true) × (a < n) × (list_any (λ b. eqb b a) numbers ≡ true)
one_of n p [] all any = absurd (false≢true any)
one_of n p (x ∷ xs) all any =
    ⊎_elim
    (λ e. (x, e, ltb-true _ _ (and_parts _ _ all).0, or_left _ _ (eq-eqb x x refl)))
    (λ r. let w = one_of n p xs (and_parts _ _ all).1 r in (w.0, w.1, w.2, or_right _ _ w.3))
    (or_cases _ _ any)

-- the first, ascending, of some numbers that passes
pub first_passing : (n : ℕ) (p : ℕ → Bool) (numbers : List ℕ) → list_all (λ a. nat_lt a n) numbers ≡ true → list_any p numbers ≡ true
    → (a : ℕ) × (find p (filter (λ a. list_any (λ b. eqb b a) numbers) (range_with_len 0 n)) ≡ Some a) × (p a ≡ true) × (list_any (λ b. eqb b a) numbers ≡ true)
first_passing n p numbers all any =
    let keep : ℕ → Bool = λ a. list_any (λ b. eqb b a) numbers in
    let one = one_of n p numbers all any in
    let below : one.0 < 0 + n = omega (arith, one.2) in
    let low : 0 ≤ one.0 = omega arith in
    let some = any_is_found (λ a. keep a && p a) (range_with_len 0 n) ∙ any_in_range (λ a. keep a && p a) 0 n one.0 low below (and_from _ _ one.3 one.1) in
    let is = some_is (find (λ a. keep a && p a) (range_with_len 0 n)) some in
    let it = find_element (λ a. keep a && p a) (range_with_len 0 n) is.0 is.1 in
    let both = and_parts _ _ it.1 in
    (is.0, sym (found_kept keep p (range_with_len 0 n)) ∙ is.1, both.1, both.0)

open_is_some : (m : Option Mode) → is_none m ≡ false → is_some m ≡ true
open_is_some None h = absurd (false≢true (sym h))
open_is_some (Some m) h = refl

-- WHAT IS IN THE WAY

module _ (schema : Lists) (sound : IsSound schema) (unit : Unit) where
  other_type : (test : ℕ → Bool) → some_and test (current_type unit) ≡ true → is_some (option_map obstacle.Record unit.currency.run_unit) ≡ true
  other_type test h = by unit.currency.run_unit h where
    by : (o : Option DbKey) → some_and test (option_map (λ k. k.rtype) o) ≡ true → is_some (option_map obstacle.Record o) ≡ true
    by None h = absurd (false≢true h)
    by (Some k) h = refl

  of_class : (s : ℕ) (test : Class → Bool) → some_and test (class_in schema unit s) ≡ true → is_some (option_map (λ t. obstacle.Class t s) (current_type unit)) ≡ true
  of_class s test h = by (current_type unit) h where
    by : (o : Option ℕ) → some_and test (option_and_then (λ t. option_map (λ m. m.class) (member_clause schema s t)) o) ≡ true → is_some (option_map (λ t. obstacle.Class t s) o) ≡ true
    by None h = absurd (false≢true h)
    by (Some t) h = refl

  inserting : (x : Statement) → is_inserting_mandatory_automatic schema unit x ≡ true → is_some (class_of unit x) ≡ true
  inserting (OpenArea a mode) h = absurd (false≢true h)
  inserting (CloseArea a) h = absurd (false≢true h)
  inserting (Find suppress form) h = absurd (false≢true h)
  inserting (Get r) h = absurd (false≢true h)
  inserting (Store t items suppress) h = absurd (false≢true h)
  inserting (Insert s) h = of_class s _ h
  inserting (Remove s) h = absurd (false≢true h)
  inserting (Modify t changes) h = absurd (false≢true h)
  inserting (Delete option) h = absurd (false≢true h)
  inserting Keep h = absurd (false≢true h)
  inserting (Free all) h = absurd (false≢true h)

  removing : (x : Statement) → is_removing_mandatory schema unit x ≡ true → is_some (class_of unit x) ≡ true
  removing (OpenArea a mode) h = absurd (false≢true h)
  removing (CloseArea a) h = absurd (false≢true h)
  removing (Find suppress form) h = absurd (false≢true h)
  removing (Get r) h = absurd (false≢true h)
  removing (Store t items suppress) h = absurd (false≢true h)
  removing (Insert s) h = absurd (false≢true h)
  removing (Remove s) h = of_class s _ h
  removing (Modify t changes) h = absurd (false≢true h)
  removing (Delete option) h = absurd (false≢true h)
  removing Keep h = absurd (false≢true h)
  removing (Free all) h = absurd (false≢true h)

  -- an area of the statement that passes is found, and what is found passes
  area_found : (test : Option Mode → Bool) (x : Statement) → fits schema x ≡ true → list_any (λ a. test (at unit.modes a)) (areas_of schema unit x) ≡ true
      → (a : ℕ) × (area_with test schema unit x ≡ Some a) × (test (at unit.modes a) ≡ true) × (list_any (λ b. eqb b a) (areas_of schema unit x) ≡ true)
  area_found test x fit any = first_passing (length schema.areas) (λ a. test (at unit.modes a)) (areas_of schema unit x) (areas_known schema sound unit x fit) any

  -- an area that the unit has open is told as it is open
  opened : (test : Option Mode → Bool) (x : Statement) (a : ℕ) → area_with test schema unit x ≡ Some a → is_some (at unit.modes a) ≡ true → is_some (option_and_then (opened_by unit) (area_with test schema unit x)) ≡ true
  opened test x a is there = ap (λ o. is_some (option_and_then (opened_by unit) o)) is ∙ map_some (obstacle.Opened a unit.number) (at unit.modes a) ∙ there

  opening_again : (x : Statement) → fits schema x ≡ true → is_opening_again unit x ≡ true → is_some (option_and_then (opened_by unit) (area_with is_some schema unit x)) ≡ true
  opening_again (OpenArea a mode) fit h = let f = area_found is_some (OpenArea a mode) fit (or_left _ _ h) in opened is_some (OpenArea a mode) f.0 f.1 f.2
  opening_again (CloseArea a) fit h = absurd (false≢true h)
  opening_again (Find suppress form) fit h = absurd (false≢true h)
  opening_again (Get r) fit h = absurd (false≢true h)
  opening_again (Store t items suppress) fit h = absurd (false≢true h)
  opening_again (Insert s) fit h = absurd (false≢true h)
  opening_again (Remove s) fit h = absurd (false≢true h)
  opening_again (Modify t changes) fit h = absurd (false≢true h)
  opening_again (Delete option) fit h = absurd (false≢true h)
  opening_again Keep fit h = absurd (false≢true h)
  opening_again (Free all) fit h = absurd (false≢true h)

  closed : (x : Statement) → fits schema x ≡ true → list_any (λ a. is_none (at unit.modes a)) (areas_of schema unit x) ≡ true → is_some (option_map obstacle.Area (area_with is_none schema unit x)) ≡ true
  closed x fit any = ap (λ o. is_some (option_map obstacle.Area o)) (area_found is_none x fit any).1

  -- a statement that changes records is no OPEN
  is_no_open : (x : Statement) → changes_records x ≡ true → not (is_open_statement x) ≡ true
  is_no_open (OpenArea a mode) h = absurd (false≢true h)
  is_no_open (CloseArea a) h = refl
  is_no_open (Find suppress form) h = refl
  is_no_open (Get r) h = refl
  is_no_open (Store t items suppress) h = refl
  is_no_open (Insert s) h = refl
  is_no_open (Remove s) h = refl
  is_no_open (Modify t changes) h = refl
  is_no_open (Delete option) h = refl
  is_no_open Keep h = refl
  is_no_open (Free all) h = refl

  not_update : (x : Statement) → fits schema x ≡ true → (not (is_open_statement x) && list_any (λ a. is_none (at unit.modes a)) (areas_of schema unit x)) ≡ false
      → (changes_records x && list_any (λ a. not (some_and is_update (at unit.modes a))) (areas_of schema unit x)) ≡ true
      → is_some (option_and_then (opened_by unit) (area_with (λ mode. not (some_and is_update mode)) schema unit x)) ≡ true
  not_update x fit all_open h =
      let both = and_parts _ _ h in
      let closed_one = list_any (λ a. is_none (at unit.modes a)) (areas_of schema unit x) in
      let none : closed_one ≡ false = ap (λ b. b && closed_one) (sym (is_no_open x both.0)) ∙ all_open in
      let f = area_found (λ mode. not (some_and is_update mode)) x fit both.1 in
      opened (λ mode. not (some_and is_update mode)) x f.0 f.1
      (open_is_some (at unit.modes f.0) (false_from_ne_true _ (λ e. false≢true (sym none ∙ any_of (λ a. is_none (at unit.modes a)) f.0 (areas_of schema unit x) e f.3))))

  find_lacks : (form : Form) → find_lacks_current schema unit form ≡ true → is_some (current_for form) ≡ true
  find_lacks (Key k) h = absurd (false≢true h)
  find_lacks CurrentOfUnit h = absurd (false≢true h)
  find_lacks (CurrentOfType r) h = refl
  find_lacks (CurrentOfSet s) h = refl
  find_lacks (CurrentOfArea a) h = refl
  find_lacks (InSet which r s) h = refl
  find_lacks (InArea which r a) h = refl
  find_lacks (OwnerOf s) h = refl
  find_lacks (Calc r values) h = absurd (false≢true h)
  find_lacks (NextDuplicate r) h = refl
  find_lacks (Sorted s value) h = refl

  lacking : (x : Statement) → lacks_current schema unit x ≡ true → is_some (without_current schema unit x) ≡ true
  lacking (OpenArea a mode) h = absurd (false≢true h)
  lacking (CloseArea a) h = absurd (false≢true h)
  lacking (Find suppress form) h = find_lacks form h
  lacking (Get r) h = absurd (false≢true h)
  lacking (Store t items suppress) h = map_some obstacle.Set _ ∙ any_is_found (λ s. is_none (place_in schema unit s)) (automatic_sets schema t) ∙ h
  lacking (Insert s) h = refl
  lacking (Remove s) h = absurd (false≢true h)
  lacking (Modify t changes) h = absurd (false≢true h)
  lacking (Delete option) h = absurd (false≢true h)
  lacking Keep h = absurd (false≢true h)
  lacking (Free all) h = absurd (false≢true h)

  beyond : (capacity : ℕ) (x : Statement) → is_beyond capacity x ≡ true → is_some (searched schema unit x) ≡ true
  beyond capacity (OpenArea a mode) h = absurd (false≢true h)
  beyond capacity (CloseArea a) h = absurd (false≢true h)
  beyond capacity (Find suppress (Key k)) h = refl
  beyond capacity (Find suppress CurrentOfUnit) h = absurd (false≢true h)
  beyond capacity (Find suppress (CurrentOfType r)) h = absurd (false≢true h)
  beyond capacity (Find suppress (CurrentOfSet s)) h = absurd (false≢true h)
  beyond capacity (Find suppress (CurrentOfArea a)) h = absurd (false≢true h)
  beyond capacity (Find suppress (InSet which r s)) h = absurd (false≢true h)
  beyond capacity (Find suppress (InArea which r a)) h = absurd (false≢true h)
  beyond capacity (Find suppress (OwnerOf s)) h = absurd (false≢true h)
  beyond capacity (Find suppress (Calc r values)) h = absurd (false≢true h)
  beyond capacity (Find suppress (NextDuplicate r)) h = absurd (false≢true h)
  beyond capacity (Find suppress (Sorted s value)) h = absurd (false≢true h)
  beyond capacity (Get r) h = absurd (false≢true h)
  beyond capacity (Store t items suppress) h = absurd (false≢true h)
  beyond capacity (Insert s) h = absurd (false≢true h)
  beyond capacity (Remove s) h = absurd (false≢true h)
  beyond capacity (Modify t changes) h = absurd (false≢true h)
  beyond capacity (Delete option) h = absurd (false≢true h)
  beyond capacity Keep h = absurd (false≢true h)
  beyond capacity (Free all) h = absurd (false≢true h)

  current_is_some : (o : Option DbKey) → is_none o ≡ false → is_some (option_map obstacle.Record o) ≡ true
  current_is_some None h = absurd (false≢true (sym h))
  current_is_some (Some k) h = refl

  not_kept : (x : Statement) → (needs_current x && is_none unit.currency.run_unit) ≡ false → frees_what_is_not_kept unit x ≡ true → is_some (option_map obstacle.Record unit.currency.run_unit) ≡ true
  not_kept (OpenArea a mode) current h = absurd (false≢true h)
  not_kept (CloseArea a) current h = absurd (false≢true h)
  not_kept (Find suppress form) current h = absurd (false≢true h)
  not_kept (Get r) current h = absurd (false≢true h)
  not_kept (Store t items suppress) current h = absurd (false≢true h)
  not_kept (Insert s) current h = absurd (false≢true h)
  not_kept (Remove s) current h = absurd (false≢true h)
  not_kept (Modify t changes) current h = absurd (false≢true h)
  not_kept (Delete option) current h = absurd (false≢true h)
  not_kept Keep current h = absurd (false≢true h)
  not_kept (Free true) current h = absurd (false≢true h)
  not_kept (Free false) current h = current_is_some unit.currency.run_unit current

-- what is refused at once has something in its way, whatever a view answers
pub at_once : (schema : Lists) (capacity : ℕ) (view : StoredFacts) (holder : Holder) (unit : Unit) (x : Statement) (why : Cause) → IsSound schema → fits schema x ≡ true
    → refused_at_once schema capacity unit x ≡ Some why → is_some (obstacle_by schema view holder unit x why) ≡ true
at_once schema capacity view holder unit x why sound fit h =
    elim (first_in (checks_at_once schema capacity unit x) why h) [
      | inl p ↦ has p.1 refl
      | inr current ↦ elim current.1 [
        | inl p ↦ has p.1 (other_type schema sound unit _ p.0)
        | inr b ↦ elim b.1 [
          | inl p ↦ has p.1 (inserting schema sound unit x p.0)
          | inr c ↦ elim c.1 [
            | inl p ↦ has p.1 (removing schema sound unit x p.0)
            | inr d ↦ elim d.1 [
              | inl p ↦ has p.1 (opening_again schema sound unit x fit p.0)
              | inr e ↦ elim e.1 [
                | inl p ↦ has p.1 (lacking schema sound unit x p.0)
                | inr all_open ↦ elim all_open.1 [
                  | inl p ↦ has p.1 (closed schema sound unit x fit (and_parts _ _ p.0).1)
                  | inr g ↦ elim g.1 [
                    | inl p ↦ has p.1 (not_update schema sound unit x fit g.0 p.0)
                    | inr i ↦ elim i.1 [
                      | inl p ↦ has p.1 (beyond schema sound unit capacity x p.0)
                      | inr j ↦ elim j.1 [
                        | inl p ↦ has p.1 (not_kept schema sound unit x current.0 p.0)
                        | inr k ↦ absurd k.1
                      ]
                    ]
                  ]
                ]
              ]
            ]
          ]
        ]
      ]
    ]
  where
    has : {c : Cause} → c ≡ why → is_some (obstacle_by schema view holder unit x c) ≡ true → is_some (obstacle_by schema view holder unit x why) ≡ true
    has same h = subst (λ w. is_some (obstacle_by schema view holder unit x w) ≡ true) same h
