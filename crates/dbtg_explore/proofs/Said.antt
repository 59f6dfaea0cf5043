-- What the array of a state says of its programs is so.
-- m is a meeting, h a history, n the number of the state after it, u and v are units, i is a place in what is said of a unit.
use Rattle.std.proofs.Common.{◌≡◌, refl, sym, ◌∙◌, ap, subst, ℕ, ◌+◌, ◌-◌, ◌<◌, ◌≤◌, Bool, true, false, not, ◌&&◌, List, [], ◌++◌, length, get_or, Option, None, Some, arith, inl, inr, if◌then◌else◌}
use Rattle.std.specs.Prelude.{◌==◌, flat_map, is_some, nat_le, nat_lt, option_and_then, option_map, option_to_list, unwrap_or}
use Rattle.std.specs.List.{list_any, range_with_len}
use Rattle.std.proofs.lemmas.Bool.{cases_lt, eqb-true, false_from_ne_true, le-leb, lt-ltb, leb-true, ne_eqb, true≢false}
use Rattle.std.proofs.lemmas.List.{length-map}
use Rattle.std.proofs.lemmas.List.Folds.{list_any_at}
use Rattle.std.proofs.lemmas.List.FromFn.{get_or-range_with_len, length-range_with_len}
use Rattle.dbtg_unit.specs.declared.statement.Statement.{Statement}
use Rattle.dbtg_unit.specs.declared.unit.Entry.{Entry}
use Rattle.dbtg_program.specs.declared.program.End.TheVariants.{Stop, Assert, Size, Astray}
use Rattle.dbtg_program.specs.declared.program.Program.{Program}
use Rattle.dbtg_program.specs.Going.{Due, due, ended}
use Rattle.dbtg_step.specs.Machine.SequentialDatabase.{unit_at}
use Rattle.dbtg_going.specs.Turns.{comes}
use Rattle.dbtg_states.specs.Numbers.{Numbers}
use Rattle.dbtg_states.specs.Inside.SpelledUnits.{unit_numbers}
use Rattle.dbtg_explore.specs.Orders.{Meeting, can_go_on, can_turn}
use Rattle.dbtg_explore.specs.States.{sequential_after, state_after}
use Rattle.dbtg_explore.specs.Versions.{unversioned, unversioned_unit}
use Rattle.dbtg_explore.specs.Inside.Keys.{due_numbers, items_read_by}
use Rattle.dbtg_explore.specs.Inside.Parts.{IsNumberOf, kept_count, unit_part}
use Rattle.dbtg_explore.specs.Inside.Standing.{failure_of, fails_in, goes_on_in, is_kept_beside, is_over_in, keeps_beside, said, turns_in}
use Rattle.dbtg_explore.specs.Inside.Transitions.{KeepsAlone}
use Rattle.dbtg_explore.specs.Inside.Walks.{failure_by, failure_in}
use Rattle.dbtg_explore.proofs.Alike.{IsDueOf, comes_at}
use Rattle.dbtg_explore.proofs.Keyed.{units_counted}
use Rattle.dbtg_explore.proofs.Noting.{cannot_go}
use Rattle.dbtg_explore.proofs.Parts.{some_at}
use Rattle.dbtg_explore.proofs.Steps.{none_before, none_beyond}

-- a test that fails for all of these numbers fails for each of them
none_of : (test : ℕ → Bool) (count v : ℕ) → list_any test (range_with_len 1 count) ≡ false → 0 < v → v ≤ count → test v ≡ false
none_of test count v none low high =
    false_from_ne_true (test v) (λ one.
    let units = range_with_len 1 count in
    let long : length units ≡ count = length-range_with_len 1 count in
    let at : get_or units (v - 1) 0 ≡ 1 + (v - 1) = get_or-range_with_len 1 count (v - 1) 0 (omega (arith, low, high)) in
    let is : get_or units (v - 1) 0 ≡ v = omega (arith, at, low) in
    true≢false (sym (list_any_at test units (v - 1) 0 (omega (arith, long, low, high)) (ap test is ∙ one)) ∙ none))

module _ (m : Meeting) (kept : Numbers) (h : List Entry) (n : ℕ) (at : IsNumberOf m kept h n) where
  said_is : (u i : ℕ) → 0 < u → u ≤ length m.programs → said kept n u i ≡ get_or (unit_part m h u) i 0
  said_is u i low high = ap (λ (c : Option (List ℕ)). get_or (unwrap_or c []) i 0) (at.number.units_are u low high)

  -- who can go on
  flag : (b : Bool) → ((if b then 1 else 0) == 1) ≡ b
  flag true = refl
  flag false = refl

  pub goes_on_is : (u : ℕ) → goes_on_in m kept n u ≡ can_go_on m h u
  goes_on_is u = elim (cases_lt 0 u) [
    | inl low ↦ elim (cases_lt (length m.programs) u) [
      | inl beyond ↦
          let out : nat_le u (length m.programs) ≡ false = false_from_ne_true (nat_le u (length m.programs)) (λ t. let within = leb-true u (length m.programs) t in omega (arith, within, beyond)) in
          ap (λ b. nat_lt 0 u && (b && said kept n u 1 == 1)) out ∙ both_false (nat_lt 0 u) ∙ sym (cannot_go m h u (none_beyond m.programs u beyond))
      | inr within ↦
          (λ j. lt-ltb 0 u low j && (le-leb u (length m.programs) (omega (arith, within)) j && said_is u 1 low (omega (arith, within)) j == 1)) ∙ flag (can_go_on m h u)
    ]
    | inr high ↦
        let is : u ≡ 0 = omega (arith, high) in
        subst (λ v. goes_on_in m kept n v ≡ can_go_on m h v) (sym is) (sym (cannot_go m h 0 (none_before m.programs)))
  ] where
    both_false : (b : Bool) → (b && false) ≡ false
    both_false true = refl
    both_false false = refl

  pub turns_is : (u : ℕ) → turns_in m kept n u ≡ can_turn m h u
  turns_is u = λ j. goes_on_is u j && not (m.last_waits && (u == length m.programs && list_any (λ v. goes_on_is v j) (range_with_len 1 (length m.programs - 1))))

  pub is_over_is : is_over_in m kept n ≡ not (list_any (can_go_on m h) (range_with_len 1 (length m.programs)))
  is_over_is = λ j. not (list_any (λ v. goes_on_is v j) (range_with_len 1 (length m.programs)))

  -- who keeps a record
  zero_is : (b : ℕ) → (false ≡ true → ⊥) → not (b == 0) ≡ false → b ≡ 0
  zero_is b none h = eqb-true b 0 (by (b == 0) h) where
    by : (c : Bool) → not c ≡ false → c ≡ true
    by true e = refl
    by false e = absurd (true≢false e)

  pub keeps_alone : (u : ℕ) → is_kept_beside m kept n u ≡ false → KeepsAlone m h u
  keeps_alone u none v apart = elim (cases_lt 0 v) [
    | inl low ↦ elim (cases_lt (length m.programs) v) [
      | inl beyond ↦
          let counted = units_counted m h in
          let long = length-map (sequential_after m h).units (unversioned_unit (sequential_after m h).database) in
          ap kept_count (none_beyond (unversioned (sequential_after m h)).units v (omega (arith, beyond, counted, long)))
      | inr within ↦
          let nothing = none_of (keeps_beside kept n u) (length m.programs) v none low (omega (arith, within)) in
          let other : (v == u) ≡ false = ne_eqb v u apart in
          let zero_said : not (said kept n v 0 == 0) ≡ false = sym (ap (λ b. not b && not (said kept n v 0 == 0)) other) ∙ nothing in
          sym (said_is v 0 low (omega (arith, within))) ∙ zero_is (said kept n v 0) (λ e. true≢false (sym e)) zero_said
    ]
    | inr high ↦
        let is : v ≡ 0 = omega (arith, high) in
        ap kept_count (ap (unit_at (unversioned (sequential_after m h)).units) is ∙ none_before (unversioned (sequential_after m h)).units)
  ]

  -- who has failed
  failed : (read : List Bool) (d : Due) (rest : List ℕ) → failure_of (get_or (flat_map (due_numbers read) (option_to_list (Some d)) ++ rest) 0 0) (get_or (flat_map (due_numbers read) (option_to_list (Some d)) ++ rest) 1 0) ≡ failure_by d
  failed read (due state s) rest = refl
  failed read (ended state Stop) rest = refl
  failed read (ended state (Assert line)) rest = refl
  failed read (ended state (Size line)) rest = refl
  failed read (ended state (Astray line)) rest = refl

  failed_there : (read : List Bool) (d : Option Due) (rest : List ℕ) → is_some d ≡ true → failure_of (get_or (flat_map (due_numbers read) (option_to_list d) ++ rest) 0 0) (get_or (flat_map (due_numbers read) (option_to_list d) ++ rest) 1 0) ≡ option_and_then failure_by d
  failed_there read None rest none = absurd (true≢false (sym none))
  failed_there read (Some d) rest some = failed read d rest

  program_there : (o : Option Program) (u : ℕ) → is_some o ≡ true → is_some (option_map (λ (p : Program). comes m.schema p u h) o) ≡ true
  program_there None u none = none
  program_there (Some p) u some = refl

  pub fails_is : (u : ℕ) → 0 < u → u ≤ length m.programs → fails_in kept n u ≡ failure_in (state_after m h) u
  fails_is u low high =
      (λ j. failure_of (said_is u 2 low high j) (said_is u 3 low high j))
      ∙ failed_there (items_read_by m.programs u) (unit_at (state_after m h).programs u) (flat_map unit_numbers (option_to_list (unit_at (unversioned (sequential_after m h)).units u)))
      (ap is_some (comes_at m h u) ∙ program_there (unit_at m.programs u) u (some_at m.programs u low high))

  -- where a program stands in which a statement is due
  pub at_is : (u : ℕ) (s : Statement) (d : IsDueOf m h u s) → 0 < u → u ≤ length m.programs → said kept n u 3 ≡ d.at.at
  at_is u s d low high =
      let there : unit_at (state_after m h).programs u ≡ Some (due d.at s) = comes_at m h u ∙ ap (option_map (λ (p : Program). comes m.schema p u h)) d.found ∙ ap Some d.comes_is in
      said_is u 3 low high
      ∙ ap (λ o. get_or (flat_map (due_numbers (items_read_by m.programs u)) (option_to_list o) ++ flat_map unit_numbers (option_to_list (unit_at (unversioned (sequential_after m h)).units u))) 1 0) there
