-- Where looks lead: what was looked at once leads there wherever the same is looked at, and is written into the array of the state.
-- p and r are the parts of states before a statement, q and s after it; u and v are units, l and k looks, i is a place in an array, c the name
-- of a cell, n and j are numbers of states.
use Rattle.std.proofs.Common.{◌≡◌, refl, sym, ◌∙◌, ap, subst, ℕ, ◌+◌, ◌-◌, ◌<◌, ◌≤◌, true, false, List, ◌++◌, length, Option, Some, None, inl, inr, ⊎_elim, arith, map, slice_get}
use Rattle.std.specs.Prelude.{◌≢◌, All, option_and_then, option_map, unwrap_or}
use Rattle.std.specs.List.{list_all}
use Rattle.std.proofs.lemmas.Bool.{cases_Bool, cases_lt, false≢true, false_from_ne_true}
use Rattle.std.proofs.lemmas.List.{length-append}
use Rattle.std.proofs.lemmas.List.Elements.{All-weaker}
use Rattle.std.proofs.lemmas.Option.{same_Some, slice_get_within}
use Rattle.dbtg_interned.specs.Kept.{Keeps}
use Rattle.dbtg_interned.specs.Arrays.{IsArray, elements}
use Rattle.dbtg_interned.proofs.Public.{elements_length, stays_size}
use Rattle.dbtg_cells.specs.CellNumbers.{cell_count, cell_number, cells_in_order, is_cell}
use Rattle.dbtg_cells.specs.declared.name.CellName.{CellName}
use Rattle.dbtg_cells.proofs.Public.{numbered_at, stands_at}
use Rattle.dbtg_unit.proofs.Public.{In, in_map, of_map}
use Rattle.dbtg_states.specs.declared.transitions.Look.{Look}
use Rattle.dbtg_states.specs.declared.transitions.Passage.{Passage}
use Rattle.dbtg_states.specs.Numbers.{AreNumbers, Grow, Numbers, NumbersState, content_at}
use Rattle.dbtg_states.specs.Parts.{Parts}
use Rattle.dbtg_states.specs.Transitions.{AreLooks, HasBefore, cell_place, written}
use Rattle.dbtg_states.specs.Inside.Transitions.{Follow, IsLook, SayBefore, is_looked_at, part_at}
use Rattle.dbtg_states.proofs.States.Numbers.{still_there, with_parts}
use Rattle.dbtg_states.proofs.States.Places.{at_cell, at_unit, behind_units, each_in, each_of, is_looked, its_number, looked_at, number_says, place_by, places, says_number, says_some, stays_there}
use Rattle.dbtg_states.proofs.States.Written.{written_has, written_other}

-- ONCE

-- a passage leads from a state with parts p to one whose units and cells say this; its statement looked at its unit's part and at those of
-- these cells
pub record WasSeen (p : Parts) (unit : ℕ → List ℕ) (cell : CellName → List ℕ) (kept : Numbers) (passage : Passage) (names : List CellName) (looks : List Look) : Type 0 where
  pub numbered : 0 < passage.unit
  pub within : passage.unit ≤ p.count
  pub before : NumbersState p kept passage.before
  pub after : NumbersState (with_parts p unit cell) kept passage.after
  pub are_cells : list_all (is_cell p.schema p.capacity) names ≡ true
  pub are_looks : AreLooks p.schema p.capacity p.count kept passage names looks

module _ (p : Parts) (after_unit : ℕ → List ℕ) (after_cell : CellName → List ℕ) (kept : Numbers) (passage : Passage) (names : List CellName) (looks : List Look) (seen : WasSeen p after_unit after_cell kept passage names looks) where
  abbrev u : ℕ
  u = passage.unit

  abbrev q : Parts
  q = with_parts p after_unit after_cell

  abbrev contents : List (List ℕ)
  contents = kept.contents

  -- a place that was looked at is the unit's or a cell's
  looked_by : (P : ℕ → Type 0) → P (u - 1) → ((c : CellName) (i : ℕ) → In c names → cell_number p.schema p.capacity c ≡ Some i → P (p.count + i)) → (i : ℕ) → In i (places looks) → P i
  looked_by P of_unit of_cell i there = place_by p.schema p.capacity p.count (u - 1) names seen.are_cells P of_unit of_cell i (subst (λ (is : List ℕ). In i is) seen.are_looks.places_are there)

  place_within : (i : ℕ) → In i (places looks) → i < p.count + cell_count p.schema p.capacity
  place_within =
      looked_by (λ i. i < p.count + cell_count p.schema p.capacity)
      (let low = seen.numbered in let high = seen.within in omega (arith, low, high))
      (λ c i there number. let within = slice_get_within (cells_in_order p.schema p.capacity) i c (stands_at c (cells_in_order p.schema p.capacity) i number) in omega (arith, within))

  unit_looked : In (u - 1) (places looks)
  unit_looked = subst (λ (is : List ℕ). In (u - 1) is) (sym seen.are_looks.places_are) (inl refl)

  cell_looked : (c : CellName) (i : ℕ) → In c names → cell_number p.schema p.capacity c ≡ Some i → In (p.count + i) (places looks)
  cell_looked c i there number =
      let is : cell_place p.schema p.capacity p.count c ≡ p.count + i = ap (λ (r : Option ℕ). p.count + unwrap_or r 0) number in
      subst (λ (ps : List ℕ). In (p.count + i) ps) (sym seen.are_looks.places_are) (inr (subst (λ j. In j (map (cell_place p.schema p.capacity p.count) names)) is (in_map (cell_place p.schema p.capacity p.count) c names there)))

  -- what was looked at said this before, and says this after
  had_before : (l : Look) → In l looks → slice_get contents l.before ≡ part_at p l.place
  had_before l i =
      sym (ap (option_and_then (slice_get contents)) (each_in (λ l. slice_get (elements kept.arrays passage.before) l.place ≡ Some l.before) looks seen.are_looks.had l i))
      ∙ number_says p kept passage.before seen.before l.place (place_within l.place (in_map (λ (l : Look). l.place) l looks i))

  has_after : (l : Look) → In l looks → slice_get contents l.after ≡ part_at q l.place
  has_after l i =
      sym (ap (option_and_then (slice_get contents)) (each_in (λ l. slice_get (elements kept.arrays passage.after) l.place ≡ Some l.after) looks seen.are_looks.has l i))
      ∙ number_says q kept passage.after seen.after l.place (place_within l.place (in_map (λ (l : Look). l.place) l looks i))

  pub looks_are : All (IsLook (p.count + cell_count p.schema p.capacity) contents) looks
  looks_are =
      each_of (IsLook (p.count + cell_count p.schema p.capacity) contents) looks (λ l i.
      let within = place_within l.place (in_map (λ (l : Look). l.place) l looks i) in
      let said = says_some p l.place within in
      let says = says_some q l.place within in
      record {
        place = within;
        before = slice_get_within contents l.before said.0 (had_before l i ∙ said.1);
        after = slice_get_within contents l.after says.0 (has_after l i ∙ says.1);
      })

  -- another state in which the parts that were looked at say what they said
  module _ (unit : ℕ → List ℕ) (cell : CellName → List ℕ) (say : SayBefore kept.contents (with_parts p unit cell) looks) where
    abbrev r : Parts
    r = with_parts p unit cell

    same_there : (i : ℕ) → In i (places looks) → part_at p i ≡ part_at r i
    same_there i there =
        let at = of_map (λ (l : Look). l.place) i looks there in
        subst (λ j. part_at p j ≡ part_at r j) at.2 (sym (had_before at.0 at.1) ∙ each_in (λ l. slice_get contents l.before ≡ part_at r l.place) looks say at.0 at.1)

    pub same_unit_said : p.unit passage.unit ≡ unit passage.unit
    same_unit_said = same_Some (p.unit u) (unit u) (sym (at_unit p u seen.numbered seen.within) ∙ same_there (u - 1) unit_looked ∙ at_unit r u seen.numbered seen.within)

    pub same_cell_said : (c : CellName) → In c names → p.cell c ≡ cell c
    same_cell_said c there =
        let number = its_number p.schema p.capacity names seen.are_cells c there in
        same_Some (p.cell c) (cell c) (sym (at_cell p c number.0 number.1) ∙ same_there (p.count + number.0) (cell_looked c number.0 there number.1) ∙ at_cell r c number.0 number.1)

    -- the state to which the same statement leads from there: what was looked at says the same as after the passage, and the rest what it said
    module _ (then_unit : ℕ → List ℕ) (then_cell : CellName → List ℕ) (own : after_unit passage.unit ≡ then_unit passage.unit) (cells : (c : CellName) → In c names → after_cell c ≡ then_cell c)
        (other_units : (v : ℕ) → 0 < v → v ≢ passage.unit → then_unit v ≡ unit v) (other_cells : (c : CellName) → (In c names → ⊥) → then_cell c ≡ cell c) where
      abbrev s : Parts
      s = with_parts p then_unit then_cell

      same_then : (i : ℕ) → In i (places looks) → part_at q i ≡ part_at s i
      same_then =
          looked_by (λ i. part_at q i ≡ part_at s i)
          (at_unit q u seen.numbered seen.within ∙ ap Some own ∙ sym (at_unit s u seen.numbered seen.within))
          (λ c i there number. at_cell q c i number ∙ ap Some (cells c there) ∙ sym (at_cell s c i number))

      other_then : (i : ℕ) → is_looked_at looks i ≡ false → part_at s i ≡ part_at r i
      other_then i free =
          ⊎_elim
          (λ front.
          let place : i + 1 - 1 ≡ i = omega arith in
          let apart : i + 1 ≢ u = λ e. unseen (subst (λ j. In j (places looks)) (sym (sym place ∙ ap (λ v. v - 1) e)) unit_looked) in
          subst (λ j. part_at s j ≡ part_at r j) place
          (at_unit s (i + 1) (omega arith) (omega (arith, front)) ∙ ap Some (other_units (i + 1) (omega arith) apart) ∙ sym (at_unit r (i + 1) (omega arith) (omega (arith, front)))))
          (λ past.
          let place : p.count + (i - p.count) ≡ i = omega (arith, past) in
          behind_units s i past ∙ by_cell place (slice_get (cells_in_order p.schema p.capacity) (i - p.count)) refl ∙ sym (behind_units r i past))
          (cases_lt i p.count) where
            unseen : In i (places looks) → ⊥
            unseen there = false≢true (sym free ∙ is_looked looks i there)

            by_cell : p.count + (i - p.count) ≡ i → (c : Option CellName) → slice_get (cells_in_order p.schema p.capacity) (i - p.count) ≡ c → option_map then_cell c ≡ option_map cell c
            by_cell place None e = refl
            by_cell place (Some c) e = ap Some (other_cells c (λ there. unseen (subst (λ j. In j (places looks)) place (cell_looked c (i - p.count) there (numbered_at p.schema p.capacity (i - p.count) c e)))))

      pub follows : Follow kept.contents (with_parts p unit cell) (with_parts p then_unit then_cell) looks
      follows = record {
        seen = each_of (λ l. slice_get contents l.after ≡ part_at s l.place) looks (λ l i. has_after l i ∙ same_then l.place (in_map (λ (l : Look). l.place) l looks i));
        unseen = other_then;
      }

-- LATER

-- looks say what they said when more is kept
module _ (old new : List (List ℕ)) (keeps : Keeps old new) (count : ℕ) (looks : List Look) (are : All (IsLook count old) looks) where
  longer : length old ≤ length new
  longer = let is : length new ≡ length (old ++ keeps.rest) = ap length keeps.new_is in let all = length-append old keeps.rest in omega (arith, is, all)

  is_look_then : (l : Look) → In l looks → IsLook count old l
  is_look_then = each_in (IsLook count old) looks are

  pub looks_later : All (IsLook count new) looks
  looks_later =
      All-weaker (IsLook count old) (IsLook count new) (λ l h.
      let more = longer in
      let before = h.before in
      let after = h.after in
      record { place = h.place; before = omega (arith, before, more); after = omega (arith, after, more) })
      looks are

  pub said_before : (p : Parts) → SayBefore new p looks → SayBefore old p looks
  said_before p say =
      each_of (λ l. slice_get old l.before ≡ part_at p l.place) looks (λ l i.
      sym (stays_there old new keeps l.before (is_look_then l i).before) ∙ each_in (λ l. slice_get new l.before ≡ part_at p l.place) looks say l i)

  pub follow_later : (p q : Parts) → Follow old p q looks → Follow new p q looks
  follow_later p q follow = record {
    seen = each_of (λ l. slice_get new l.after ≡ part_at q l.place) looks (λ l i.
        stays_there old new keeps l.after (is_look_then l i).after ∙ each_in (λ l. slice_get old l.after ≡ part_at q l.place) looks follow.seen l i);
    unseen = follow.unseen;
  }

-- WRITTEN

module _ (p : Parts) (old : Numbers) (looks : List Look) (n : ℕ) (are : All (IsLook (p.count + cell_count p.schema p.capacity) old.contents) looks) (at : NumbersState p old n) where
  is_look : (l : Look) → In l looks → IsLook (p.count + cell_count p.schema p.capacity) old.contents l
  is_look = each_in (IsLook (p.count + cell_count p.schema p.capacity) old.contents) looks are

  -- what was looked at is said in the state
  pub say_before : HasBefore old n looks → SayBefore old.contents p looks
  say_before had =
      each_of (λ l. slice_get old.contents l.before ≡ part_at p l.place) looks (λ l i.
      sym (ap (option_and_then (slice_get old.contents)) (each_in (λ l. slice_get (elements old.arrays n) l.place ≡ Some l.before) looks had l i))
      ∙ number_says p old n at l.place (is_look l i).place)

  module _ (unit : ℕ → List ℕ) (cell : CellName → List ℕ) (new : Numbers) (j : ℕ) (follow : Follow old.contents p (with_parts p unit cell) looks) (once : AreNumbers new) (keeps : Grow old new) (is_array : IsArray new.arrays j)
      (wrote : elements new.arrays j ≡ written looks (elements old.arrays n)) where
    abbrev led : Parts
    led = with_parts p unit cell

    abbrev total : ℕ
    total = p.count + cell_count p.schema p.capacity

    seen_then : (l : Look) → In l looks → slice_get old.contents l.after ≡ part_at led l.place
    seen_then = each_in (λ l. slice_get old.contents l.after ≡ part_at led l.place) looks follow.seen

    -- looks at one place leave the same there
    left_alike : (l k : Look) → In l looks → In k looks → k.place ≡ l.place → k.after ≡ l.after
    left_alike l k i r same =
        let said = says_some led l.place (is_look l i).place in
        at.kept_once.contents.once k.after l.after said.0 (seen_then k r ∙ ap (part_at led) same ∙ said.1) (seen_then l i ∙ said.1)

    has : (l : Look) → In l looks → slice_get (elements new.arrays j) l.place ≡ Some l.after
    has l i =
        let long = elements_length old.arrays n at.kept_once.arrays at.is_array in
        let room = at.room in
        let low = (is_look l i).place in
        ap (λ (es : List ℕ). slice_get es l.place) wrote ∙ written_has looks (elements old.arrays n) l (omega (arith, long, room, low)) i (λ k r same. left_alike l k i r same)

    others : (i : ℕ) → is_looked_at looks i ≡ false → slice_get (elements new.arrays j) i ≡ slice_get (elements old.arrays n) i
    others i unseen =
        ap (λ (es : List ℕ). slice_get es i) wrote
        ∙ written_other looks (elements old.arrays n) i (λ l r same. false≢true (sym unseen ∙ is_looked looks i (subst (λ k. In k (places looks)) same (in_map (λ (l : Look). l.place) l looks r))))

    -- at each place the new array says what the state then says
    says_then : (i : ℕ) → i < total → content_at new j i ≡ part_at led i
    says_then i low =
        elim (cases_Bool (is_looked_at looks i)) [
          | inl seen ↦
              let found = looked_at looks i seen in
              let l = found.0 in
              subst (λ k. content_at new j k ≡ part_at led k) found.2
              (ap (option_and_then (slice_get new.contents)) (has l found.1)
              ∙ stays_there old.contents new.contents keeps.contents l.after (is_look l found.1).after
              ∙ seen_then l found.1)
          | inr unseen ↦
              let said = says_some p i low in
              ap (option_and_then (slice_get new.contents)) (others i unseen)
              ∙ still_there old.contents new.contents keeps.contents (slice_get (elements old.arrays n) i) said.0 (number_says p old n at i low ∙ said.1)
              ∙ sym (follow.unseen i unseen ∙ said.1)
        ]

    unseen_past : (i : ℕ) → total ≤ i → is_looked_at looks i ≡ false
    unseen_past i past =
        false_from_ne_true (is_looked_at looks i) (λ seen.
        let found = looked_at looks i seen in
        let low = (is_look found.0 found.1).place in
        let same = found.2 in
        omega (arith, past, low, same))

    -- so the statement need not be made again
    pub led_to : NumbersState (with_parts p unit cell) new j
    led_to =
        let size_is = stays_size old.arrays new.arrays keeps.arrays in
        let room = at.room in
        says_number led new j once (omega (arith, size_is, room)) is_array says_then
        (λ i past within. others i (unseen_past i past) ∙ at.zeros i past (omega (arith, size_is, within)))
