-- Where a meeting is, and where a turn leads from there.
-- m is a meeting, u a unit, x a statement.
use Rattle.std.proofs.Common.{append_assoc, ◌≡◌, ℕ, zero, suc, ◌+◌, ◌-◌, ◌<◌, ◌≤◌, Bool, true, false, List, [], ◌∷◌, ◌++◌, length, map, Option, Some, None, inr, refl, ap, subst, sym, ◌∙◌, slice_get, arith}
use Rattle.std.specs.Prelude.{flat_map, if◌then◌else◌, option_and_then, option_map, option_to_list, nat_lt, slice_index_or, ◌||◌}
use Rattle.std.specs.List.{list_all, list_any, range_with_len}
use Rattle.std.proofs.lemmas.Bool.Decides.{nat_tests}
use Rattle.dbtg_schema.specs.Lists.{Lists}
use Rattle.dbtg_unit.specs.declared.statement.Statement.{Statement}
use Rattle.dbtg_unit.specs.declared.unit.Entry.{Entry}
use Rattle.dbtg_unit.specs.declared.unit.Unit.{Unit}
use Rattle.dbtg_unit.specs.Database.Statements.Fits.{fits}
use Rattle.dbtg_unit.specs.Database.Laws.Replay.{IsHistoryOf, entries_of, opening_state, effect_of_unit, replay}
use Rattle.dbtg_unit.specs.Database.Laws.StaysLegal.{IsLegalState}
use Rattle.dbtg_unit.specs.Database.State.Image.{Image, image_of}
use Rattle.dbtg_unit.proofs.Public.{any_in, in_range, range_more}
use Rattle.dbtg_program.specs.declared.going.Due.TheVariants as code_due
use Rattle.dbtg_program.specs.declared.program.Program.{Program}
use Rattle.dbtg_program.specs.Going.{Due}
use Rattle.dbtg_step.specs.Core.Whole.{HasMade, Making, state_now}
use Rattle.dbtg_step.specs.Machine.SequentialDatabase.{unit_at, with_unit_at}
use Rattle.dbtg_step.proofs.Public.{map_at}
use Rattle.dbtg_going.specs.declared.member.Going.{Going}
use Rattle.dbtg_going.specs.Goings.{AreGoing, IsGoing, comes_of}
use Rattle.dbtg_going.specs.Turns as turns
use Rattle.dbtg_going.specs.Turns.{comes, made, statement_due}
use Rattle.dbtg_going.proofs.Turning.{at_index, is_due, nobody, one_more}
use Rattle.dbtg_going.specs.declared.member.Reached.{Reached}
use Rattle.dbtg_going.specs.Texts.{programs_text}
use Rattle.dbtg_script.specs.Printing.Texts.{run_text}
use Rattle.dbtg_states.specs.Users.{by_unit}
use Rattle.dbtg_states.specs.Inside.SpelledUnits.{unit_numbers}
use Rattle.dbtg_explore.specs.Orders.{IsMeeting, Meeting, after_turn, can_go_on, can_turn, due_of}
use Rattle.dbtg_explore.specs.Results.{reached_of, state_text}
use Rattle.dbtg_explore.specs.States.{comes_of_each, sequential_after, state_after, without_versions}
use Rattle.dbtg_explore.specs.Inside.Keys.{due_numbers, items_read_by}
use Rattle.dbtg_explore.specs.Inside.Parts.{kept_count, unit_part}
use Rattle.dbtg_explore.specs.Inside.Versions.{is_in_order}
use Rattle.dbtg_explore.specs.Versions.{unversioned, unversioned_unit}
use Rattle.dbtg_explore.proofs.Keyed.{legal_after}
use Rattle.dbtg_explore.proofs.Versions.Images.{image_first, kept_in_order}
use Rattle.dbtg_explore.specs.Inside.Walks.{AreStanding, HasTurned}
use Rattle.dbtg_explore.proofs.Alike.{due_is}

-- WHAT IS DUE

-- the statement x is due in the program of unit u, which exists
pub record Awaits (m : Meeting) (history : List Entry) (goings : List Going) (u : ℕ) (x : Statement) : Type 0 where
  pub program : Program
  pub going : Going
  pub program_found : unit_at m.programs u ≡ Some program
  pub going_found : unit_at goings u ≡ Some going
  pub at : IsGoing m.schema program (entries_of u history) going
  pub due_is : going.due ≡ code_due.Statement x
  pub fit : fits m.schema x ≡ true
  pub numbered : 0 < u
  pub within : u ≤ length goings

in_list : {X : Type 0} (xs : List X) (k : ℕ) (x : X) → slice_get xs k ≡ Some x → k < length xs
in_list [] k x e = absurd cc
in_list (y ∷ xs) zero x e = omega arith
in_list (y ∷ xs) (suc k) x e = let rest = in_list xs k x e in omega (arith, rest)

pub has_number : {X : Type 0} (xs : List X) (u : ℕ) (x : X) → unit_at xs u ≡ Some x → (0 < u) × (u ≤ length xs)
unfolding unit_at
has_number xs zero x e = absurd cc
has_number xs (suc k) x e = let low = in_list xs k x e in (omega arith, omega (arith, low))

module _ (m : Meeting) (database : Making) (goings : List Going) (w : AreStanding m database goings) (u : ℕ) where
  pub awaits : (x : Statement) → due_of m database.history u ≡ Some x → Awaits m database.history goings u x
  awaits x said = by (unit_at m.programs u) refl said where
    by : (o : Option Program) → unit_at m.programs u ≡ o → option_and_then (λ (p : Program). statement_due m.schema (comes m.schema p u database.history)) o ≡ Some x → Awaits m database.history goings u x
    by None found e = absurd cc
    by (Some p) found e =
        let there = w.are_going.each u p found in
        let is = is_due m.schema there.0.state there.0.due x (ap (statement_due m.schema) there.2.comes ∙ e) in
        let number = has_number goings u there.0 there.1 in
        record {
          program = p;
          going = there.0;
          program_found = found;
          going_found = there.1;
          at = there.2;
          due_is = is.0;
          fit = is.1;
          numbered = number.0;
          within = number.1;
        }

  -- A TURN

  module _ (x : Statement) (new : Making) (made_by : HasMade database u x new) where
    abbrev pub entry : Entry
    entry = record { ticket = length database.history; unit = u; statement = x; answer = made_by.outcome.answer }

    pub history_is : new.history ≡ database.history ++ entry ∷ []
    history_is = ap (λ (n : Making). n.history) made_by.new_is

    abbrev outcome_at : Making → Type 0
    outcome_at d = effect_of_unit d.schema d.capacity (replay d.schema d.capacity (opening_state d.schema d.units) d.history) u x ≡ Some made_by.outcome

    after_is : due_of m database.history u ≡ Some x → database.history ++ entry ∷ [] ≡ after_turn m database.history u
    after_is said =
        let outcome = subst outcome_at w.database_is made_by.outcome_is in
        ap (turns.with_effect_of database.history u x) (sym outcome) ∙ ap (made m.schema m.capacity (length m.programs) database.history u) (sym said)

    pub has_turned : due_of m database.history u ≡ Some x → (a : Awaits m database.history goings u x) (on : Going) → IsGoing m.schema a.program (entries_of u database.history ++ entry ∷ []) on → HasTurned m u database new (with_unit_at goings u on)
    has_turned said a on is = record {
      standing = record {
        database_is = made_by.new_is ∙ (λ i. record (w.database_is i) { history = (sym history_is) i });
        are_going = subst (λ es. AreGoing m.schema m.programs es (with_unit_at goings u on)) (sym history_is) (one_more (IsGoing m.schema) m.programs database.history goings w.are_going u entry refl a.program a.going on a.program_found a.going_found is);
      };
      history_is = history_is ∙ after_is said;
      entry = entry;
      of_unit = refl;
      one_more = history_is;
    }

-- if a unit can have its turn, a statement is due
module _ (m : Meeting) where
  pub turn_numbered : (history : List Entry) (u : ℕ) → can_turn m history u ≡ true → 0 < u
  unfolding unit_at
  turn_numbered history zero can = absurd (cc (can))
  turn_numbered history (suc i) can = omega arith

-- WHAT COMES OF EACH

module _ (m : Meeting) (history : List Entry) where
  dues_from : (k : ℕ) (ps : List Program) (gs : List Going) → length gs ≡ length ps → ((i : ℕ) (p : Program) → slice_get ps i ≡ Some p → (g : Going) × (slice_get gs i ≡ Some g) × IsGoing m.schema p (entries_of (k + i) history) g)
      → map comes_of gs ≡ comes_of_each m history k ps
  dues_from k [] [] n each = refl
  dues_from k [] (g ∷ gs) n each = absurd (omega (arith, n))
  dues_from k (p ∷ ps) [] n each = absurd (omega (arith, n))
  dues_from k (p ∷ ps) (g ∷ gs) n each =
      let first = each 0 p refl in
      let same : g ≡ first.0 = cc (first.1) in
      let unit : k + 0 ≡ k = omega arith in
      let here : comes_of g ≡ comes m.schema p k history = ap comes_of same ∙ first.2.comes ∙ ap (λ v. comes m.schema p v history) unit in
      let rest = dues_from (k + 1) ps gs (omega (arith, n)) (λ i q e.
      let there = each (suc i) q e in
      let number : k + suc i ≡ (k + 1) + i = omega arith in
      (there.0, there.1, subst (λ v. IsGoing m.schema q (entries_of v history) there.0) number there.2)) in
      λ i. here i ∷ rest i

  pub dues_are : (goings : List Going) → AreGoing m.schema m.programs history goings → map comes_of goings ≡ (state_after m history).programs
  unfolding unit_at
  dues_are goings are = dues_from 1 m.programs goings are.count (λ i p e.
      let there = are.each (suc i) p e in
      let number : suc i ≡ 1 + i = omega arith in
      (there.0, there.1, subst (λ v. IsGoing m.schema p (entries_of v history) there.0) number there.2))

  -- what is said of the programs by unit
  pub by_goings : {Y : Type 0} (goings : List Going) (f : Due → Option Y) (u : ℕ) → AreGoing m.schema m.programs history goings
      → option_and_then f (unit_at (state_after m history).programs u) ≡ option_and_then (λ g. f (comes_of g)) (unit_at goings u)
  by_goings goings f u are =
      ap (λ ds. option_and_then f (unit_at ds u)) (sym (dues_are goings are)) ∙ ap (option_and_then f) (map_at comes_of goings u) ∙ chained_back (unit_at goings u) where
        chained_back : (o : Option Going) → option_and_then f (option_map comes_of o) ≡ option_and_then (λ g. f (comes_of g)) o
        chained_back None = refl
        chained_back (Some g) = refl

  pub due_one : (goings : List Going) (u : ℕ) (o : Option Going) → AreGoing m.schema m.programs history goings → unit_at goings u ≡ o → option_and_then (λ g. statement_due m.schema (comes_of g)) o ≡ due_of m history u
  due_one goings u o are is = ap (option_and_then (λ g. statement_due m.schema (comes_of g))) (sym is) ∙ sym (by_goings goings (statement_due m.schema) u are) ∙ sym (due_is m history u)

-- BY INDEX

pub none_got : {X : Type 0} (xs ys : List X) (u : ℕ) → 0 < u → ys ≡ xs → false ≡ nat_lt (u - 1) (length ys) → unit_at xs u ≡ None
none_got xs ys u some same e =
    let far : length ys ≤ u - 1 = grind (arith, nat_tests, e) in
    let count : length ys ≡ length xs = ap length same in
    nobody xs u (inr (omega (arith, far, count, some)))

pub one_got : {X : Type 0} (xs ys : List X) (u : ℕ) (x : X) → 0 < u → ys ≡ xs → true ≡ nat_lt (u - 1) (length ys) → x ≡ slice_index_or ys (u - 1) x → unit_at xs u ≡ Some x
one_got xs ys u x some same e is =
    let near : u - 1 < length ys = grind (arith, nat_tests, e) in
    let count : length ys ≡ length xs = ap length same in
    at_index xs u x some (omega (arith, near, count, some)) ∙ ap Some (ap (λ zs. slice_index_or zs (u - 1) x) (sym same) ∙ sym is)

any_behind : {X : Type 0} (f : X → Bool) (xs : List X) (y : X) → list_any f xs ≡ false → f y ≡ false → list_any f (xs ++ y ∷ []) ≡ false
any_behind f [] y h g = ap (λ b. b || false) g
any_behind {X} f (x ∷ xs) y h g = by (λ k. any_behind f xs y k g) (f x) refl h where
  by : (list_any f xs ≡ false → list_any f (xs ++ y ∷ []) ≡ false) → (b : Bool) → f x ≡ b → (b || list_any f xs) ≡ false → (f x || list_any f (xs ++ y ∷ [])) ≡ false
  by rest true e k = absurd cc
  by rest false e k = ap (λ b. b || list_any f (xs ++ y ∷ [])) e ∙ rest k

pub none_more : (f : ℕ → Bool) (n : ℕ) → list_any f (range_with_len 1 n) ≡ false → false ≡ f (n + 1) → list_any f (range_with_len 1 (n + 1)) ≡ false
none_more f n h g =
    let next : n + 1 ≡ suc n = omega arith in
    let last : n + 1 ≡ 1 + n = omega arith in
    ap (λ k. list_any f (range_with_len 1 k)) next ∙ ap (list_any f) (range_more n 1) ∙ any_behind f (range_with_len 1 n) (1 + n) h (ap f (sym last) ∙ sym g)

pub one_there : (f : ℕ → Bool) (n i : ℕ) → i < n → true ≡ f (i + 1) → true ≡ list_any f (range_with_len 1 n)
one_there f n i h g = sym (any_in f (i + 1) (range_with_len 1 n) (in_range n 1 (i + 1) (omega arith) (omega (arith, h))) (sym g))

-- WHAT IS PRINTED

module _ (m : Meeting) (database : Making) (goings : List Going) (w : AreStanding m database goings) where
  -- the history says that the state is legal
  pub legal_there : IsMeeting m → IsHistoryOf database.schema database.capacity database.units database.history → IsLegalState m.schema m.capacity (sequential_after m database.history)
  legal_there meets is =
      legal_after m meets database.history (subst (λ (s : Lists). list_all (λ (e : Entry). fits s e.statement) database.history ≡ true) (ap (λ (d : Making). d.schema) w.database_is) is.fitting)

  units_there : (state_now database).units ≡ (sequential_after m database.history).units
  units_there = ap (λ (d : Making). (state_now d).units) w.database_is

  -- so what its units keep is in key order
  pub in_order_there : IsMeeting m → IsHistoryOf database.schema database.capacity database.units database.history → (units : List Unit) → units ≡ (state_now database).units → list_all (λ u. is_in_order u.kept) units ≡ true
  in_order_there meets is units are = ap (list_all (λ (u : Unit). is_in_order u.kept)) (are ∙ units_there) ∙ kept_in_order m.schema m.capacity (sequential_after m database.history) (legal_there meets is)

  -- the state of the database itself is legal
  pub legal_now : IsMeeting m → IsHistoryOf database.schema database.capacity database.units database.history → IsLegalState database.schema database.capacity (state_now database)
  legal_now meets is = subst (λ (d : Making). IsLegalState d.schema d.capacity (state_now d)) (sym w.database_is) (legal_there meets is)

  -- its units without versions
  pub unversioned_there : (units : List Unit) → units ≡ (state_now database).units → map (unversioned_unit (state_now database).database) units ≡ (unversioned (sequential_after m database.history)).units
  unversioned_there units are = ap (map (unversioned_unit (state_now database).database)) are ∙ ap (λ (d : Making). (unversioned (state_now d)).units) w.database_is

  -- two numbers, and what comes after them, one after another
  pub one_by_one : (a : List ℕ) (k f : ℕ) (p o : List ℕ) → (((a ++ k ∷ []) ++ f ∷ []) ++ p) ++ o ≡ a ++ (k ∷ f ∷ (p ++ o))
  one_by_one a k f p o = append_assoc ((a ++ k ∷ []) ++ f ∷ []) p o ∙ append_assoc (a ++ k ∷ []) (f ∷ []) (p ++ o) ∙ append_assoc a (k ∷ []) (f ∷ (p ++ o))

  -- what the part of a unit says, by the items that its program reads, its program and its unit
  pub part_there : (u : ℕ) (read : List Bool) → read ≡ items_read_by m.programs u
      → kept_count (unit_at (unversioned (state_now database)).units u)
      ∷ (if can_go_on m database.history u then 1 else 0)
      ∷ flat_map (λ g. due_numbers read (comes_of g)) (option_to_list (unit_at goings u))
      ++ flat_map unit_numbers (option_to_list (unit_at (unversioned (state_now database)).units u)) ≡ unit_part m database.history u
  part_there u read is =
      let kept = ap (λ (d : Making). kept_count (unit_at (unversioned (state_now d)).units u)) w.database_is in
      let units = ap (λ (d : Making). flat_map unit_numbers (option_to_list (unit_at (unversioned (state_now d)).units u))) w.database_is in
      λ i. kept i ∷ (if can_go_on m database.history u then 1 else 0) ∷ programs i ++ units i where
        spelled : (o : Option Going) → flat_map (λ g. due_numbers read (comes_of g)) (option_to_list o) ≡ flat_map (due_numbers read) (option_to_list (option_map comes_of o))
        spelled None = refl
        spelled (Some g) = refl

        stand : option_map comes_of (unit_at goings u) ≡ unit_at (state_after m database.history).programs u
        stand = sym (map_at comes_of goings u) ∙ ap (λ ds. unit_at ds u) (dues_are m database.history goings w.are_going)

        programs : flat_map (λ g. due_numbers read (comes_of g)) (option_to_list (unit_at goings u)) ≡ flat_map (due_numbers (items_read_by m.programs u)) (option_to_list (unit_at (state_after m database.history).programs u))
        programs = spelled (unit_at goings u) ∙ (λ i. flat_map (due_numbers (is i)) (option_to_list (stand i)))

  -- the text of its image, its units without versions and its programs
  pub text_is : (image : Image) → image ≡ image_of database.schema database.capacity (state_now database).database → (units : List Unit) → units ≡ (unversioned (sequential_after m database.history)).units
      → (reached : List Reached) → reached ≡ map (λ g. reached_of (comes_of g)) goings → (text : List ℕ)
      → text ≡ run_text m.schema [] image.records image.lists image.next (map (by_unit (range_with_len 1 (length m.programs))) image.usage) units ++ programs_text 1 m.programs reached
      → text ≡ state_text m (without_versions (state_after m database.history))
  text_is image image_is units units_are reached are text is =
      let here = image_is ∙ ap (λ (d : Making). image_of d.schema d.capacity (state_now d).database) w.database_is in
      let programs : reached ≡ map reached_of (state_after m database.history).programs = are ∙ twice goings ∙ ap (map reached_of) (dues_are m database.history goings w.are_going) in
      let first = image_first m.schema m.capacity (sequential_after m database.history).database in
      is
      ∙ (λ i. run_text m.schema [] (here i).records (here i).lists (here i).next (map (by_unit (range_with_len 1 (length m.programs))) (here i).usage) (units_are i) ++ programs_text 1 m.programs (programs i))
      ∙ (λ i. run_text m.schema [] (first i).records (first i).lists (first i).next (map (by_unit (range_with_len 1 (length m.programs))) (first i).usage) (unversioned (sequential_after m database.history)).units ++ programs_text 1 m.programs (map reached_of (state_after m database.history).programs))
    where
      twice : (gs : List Going) → map (λ g. reached_of (comes_of g)) gs ≡ map reached_of (map comes_of gs)
      twice [] = refl
      twice (g ∷ gs) = ap (λ l. reached_of (comes_of g) ∷ l) (twice gs)
