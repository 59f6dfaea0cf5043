-- What counts of programs is known by their numbers; orders lead to legal states; states with the same essence have the same text.
-- m is a meeting, u a unit, o and p are orders.
use Rattle.std.proofs.Common.{◌≡◌, ℕ, zero, suc, ◌+◌, Bool, true, false, ◌&&◌, ◌||◌, List, [], ◌∷◌, ◌++◌, get_or, length, Option, Some, None, refl, ap, subst, sym, ◌∙◌, map, slice_get, arith, inl, inr}
use Rattle.std.specs.Prelude.{⊤, if◌then◌else◌, nat_lt, option_and_then, option_map, unwrap_or}
use Rattle.std.specs.List.{list_all, range_with_len}
use Rattle.std.proofs.lemmas.Bool.{cases_lt, le-leb, lt-leb}
use Rattle.std.proofs.lemmas.List.FromFn.{get_or-range_with_len, length-range_with_len}
use Rattle.std.proofs.lemmas.Option.{slice_get-get_or, slice_get-map, slice_get_past}
use Rattle.dbtg_cells.specs.declared.key.Value.{Value}
use Rattle.dbtg_cells.specs.declared.key.Value.TheVariants.{Num}
use Rattle.dbtg_schema.specs.Lists.{Lists}
use Rattle.dbtg_unit.specs.declared.limits.TheConstants.{MOST_STATEMENTS}
use Rattle.dbtg_unit.specs.declared.statement.Statement.{Statement}
use Rattle.dbtg_unit.specs.declared.unit.Entry.{Entry}
use Rattle.dbtg_unit.specs.Database.State.Image.{Image, image_of}
use Rattle.dbtg_unit.specs.Database.Statements.Effect.{StatementEffect}
use Rattle.dbtg_unit.specs.Database.Statements.Fits.{fits}
use Rattle.dbtg_unit.specs.Database.Laws.Replay.{State, after_entry, entries_of, opening_state, effect_of_unit, replay}
use Rattle.dbtg_unit.specs.Database.Laws.StaysLegal.{IsLegalState}
use Rattle.dbtg_unit.proofs.Public.{effect_keeps_count, opening_is_legal, opening_length, replay_keeps_legal}
use Rattle.dbtg_program.specs.declared.program.End.TheVariants.{Stop, Assert, Size, Astray}
use Rattle.dbtg_program.specs.declared.program.Program.{Program}
use Rattle.dbtg_program.specs.States.{ProgramState}
use Rattle.dbtg_program.specs.Going.{Due, Step, at_line, due, ended, ends, from_step, goes, line_at, line_number, makes, next, within}
use Rattle.dbtg_step.specs.Machine.SequentialDatabase.{unit_at}
use Rattle.dbtg_step.proofs.Public.{fits_more}
use Rattle.dbtg_script.specs.Printing.Texts.{run_text}
use Rattle.dbtg_going.specs.Texts.{count_items, programs_text}
use Rattle.dbtg_going.specs.Turns as turns
use Rattle.dbtg_going.specs.Turns.{after_turns, comes, made, statement_due, statement_of}
use Rattle.dbtg_states.specs.Inside.Spelling.{behind, value_apart}
use Rattle.dbtg_states.specs.Spelling.{Apart, value_numbers}
use Rattle.dbtg_states.specs.Inside.UnitOrder.{in_unit_order}
use Rattle.dbtg_states.proofs.States.SameImages.{image_alike}
use Rattle.dbtg_explore.specs.Counted.{counted, counts, is_counter, reads, values_from}
use Rattle.dbtg_explore.specs.Orders.{IsMeeting, Meeting, after_order, after_turn, beginning, due_of, history_of}
use Rattle.dbtg_explore.specs.Results.{reached_of, state_text}
use Rattle.dbtg_explore.specs.States.{Essence, MeetingState, essence, sequential_after, state_of, without_versions}
use Rattle.dbtg_explore.specs.Versions.{unversioned, unversioned_database}
use Rattle.dbtg_explore.specs.Inside.Keys.{counted_numbers, counts_by, due_numbers, how_numbers, items_read, numbers_from}
use Rattle.dbtg_explore.proofs.Counted.{counted_texts, same_due}

-- WHAT IS DUE

-- a statement that is due is that of the sentence at which the program stands
abbrev IsSaid : Lists → Program → Due → Type 0
IsSaid schema program (due at s) = at_line schema program at (line_at program at) ≡ makes s
IsSaid schema program (ended at how) = ⊤

said_within : (schema : Lists) (program : Program) (n line : ℕ) (state : ProgramState) → IsSaid schema program (within schema program n line state)
unfolding within
said_within schema program zero line state = tt
said_within schema program (suc n) line state = by (λ behind. said_within schema program n (line_number program state) behind) (at_line schema program state (line_at program state)) refl where
  by : ((behind : ProgramState) → IsSaid schema program (within schema program n (line_number program state) behind)) → (step : Step) → at_line schema program state (line_at program state) ≡ step → IsSaid schema program (from_step step state (λ behind. within schema program n (line_number program state) behind))
  by further (goes behind) e = further behind
  by further (makes s) e = e
  by further (ends how) e = tt

said_next : (schema : Lists) (program : Program) (state : ProgramState) → IsSaid schema program (next schema program state)
said_next schema program state = said_within schema program 100000 0 state

-- which fields count is known by the items that are read
counts_is : (way : Bool) (p : Program) (f : ℕ) → counts_by way (items_read p) f ≡ (is_counter p f || (way && reads p f))
counts_is way p f = elim (cases_lt f (count_items p)) [
  | inl low ↦
      let long = length-range_with_len 0 (count_items p) in
      let at = get_or-range_with_len 0 (count_items p) f 0 low in
      let is : get_or (range_with_len 0 (count_items p)) f 0 ≡ f = omega (arith, at) in
      let got : slice_get (items_read p) f ≡ Some (reads p f) =
      slice_get-map (reads p) (range_with_len 0 (count_items p)) f ∙ ap (option_map (reads p)) (slice_get-get_or (range_with_len 0 (count_items p)) f 0 (omega (arith, long, low)) ∙ ap Some is) in
      ap (λ o. unwrap_or (option_map (λ b. way && b) o) true) got ∙ ap (λ b. b || (way && reads p f)) (sym (lt-leb (count_items p) f low))
  | inr high ↦
      let long = length-range_with_len 0 (count_items p) in
      let got : slice_get (items_read p) f ≡ None =
      slice_get-map (reads p) (range_with_len 0 (count_items p)) f ∙ ap (option_map (reads p)) (slice_get_past (range_with_len 0 (count_items p)) f (omega (arith, long, high))) in
      ap (λ o. unwrap_or (option_map (λ b. way && b) o) true) got ∙ ap (λ b. b || (way && reads p f)) (sym (le-leb (count_items p) f high))
]

counter_is : (p : Program) (f : ℕ) → counts_by false (items_read p) f ≡ is_counter p f
counter_is p f = counts_is false p f ∙ or_false (is_counter p f) where
  or_false : (b : Bool) → (b || false) ≡ b
  or_false true = refl
  or_false false = refl

-- the numbers of values tell those that count
numbers_apart : (c : ℕ → Bool) (f : ℕ) (vs ws : List Value) (a b : List ℕ) → length vs ≡ length ws → numbers_from c f vs ++ a ≡ numbers_from c f ws ++ b → (values_from c f vs ≡ values_from c f ws) × (a ≡ b)
numbers_apart c f [] [] a b n e = (refl, e)
numbers_apart c f [] (w ∷ ws) a b n e = absurd (omega (arith, n))
numbers_apart c f (v ∷ vs) [] a b n e = absurd (omega (arith, n))
numbers_apart c f (v ∷ vs) (w ∷ ws) a b n e = by (λ l. numbers_apart c (f + 1) vs ws a b (omega (arith, n)) l) (c f) e where
  by : (numbers_from c (f + 1) vs ++ a ≡ numbers_from c (f + 1) ws ++ b → (values_from c (f + 1) vs ≡ values_from c (f + 1) ws) × (a ≡ b)) → (t : Bool)
      → ((if t then value_numbers v else []) ++ numbers_from c (f + 1) vs) ++ a ≡ ((if t then value_numbers w else []) ++ numbers_from c (f + 1) ws) ++ b
      → ((if t then v else Num 0) ∷ values_from c (f + 1) vs ≡ (if t then w else Num 0) ∷ values_from c (f + 1) ws) × (a ≡ b)
  by further true e =
      let first = behind value_numbers value_apart v w (numbers_from c (f + 1) vs) (numbers_from c (f + 1) ws) a b e in
      let rest = further first.1 in
      (λ i. first.0 i ∷ rest.0 i, rest.1)
  by further false e = let rest = further e in (ap (λ l. Num 0 ∷ l) rest.0, rest.1)

counted_apart : (c d : ℕ → Bool) → ((f : ℕ) → c f ≡ d f) → (vs ws : List Value) (a b : List ℕ) → counted_numbers c vs ++ a ≡ counted_numbers c ws ++ b → (values_from d 0 vs ≡ values_from d 0 ws) × (a ≡ b)
counted_apart c d is vs ws a b e =
    let n : length vs ≡ length ws = cc in
    let rest : numbers_from c 0 vs ++ a ≡ numbers_from c 0 ws ++ b = cc in
    let both = numbers_apart c 0 vs ws a b n rest in
    (sym (λ i. values_from (λ f. is f i) 0 vs) ∙ both.0 ∙ (λ i. values_from (λ f. is f i) 0 ws), both.1)

-- what does not count has no numbers
counted_length : (c : ℕ → Bool) (f : ℕ) (vs : List Value) → length (values_from c f vs) ≡ length vs
counted_length c f [] = refl
counted_length c f (v ∷ vs) = ap suc (counted_length c (f + 1) vs)

numbers_same : (c : ℕ → Bool) (f : ℕ) (vs : List Value) → numbers_from c f (values_from c f vs) ≡ numbers_from c f vs
numbers_same c f [] = refl
numbers_same c f (v ∷ vs) = λ i. by (c f) i ++ numbers_same c (f + 1) vs i where
  by : (t : Bool) → (if t then value_numbers (if t then v else Num 0) else []) ≡ (if t then value_numbers v else [])
  by true = refl
  by false = refl

counted_same : (c d : ℕ → Bool) → ((f : ℕ) → c f ≡ d f) → (vs : List Value) → counted_numbers c (values_from d 0 vs) ≡ counted_numbers c vs
counted_same c d is vs = ap (λ l. counted_numbers c l) (sym (λ i. values_from (λ f. is f i) 0 vs)) ∙ (λ i. counted_length c 0 vs i ∷ numbers_same c 0 vs i)

pub due_counted : (p : Program) (d : Due) → due_numbers (items_read p) (counted p d) ≡ due_numbers (items_read p) d
due_counted p (due x s) = ap (λ l. 0 ∷ x.at ∷ l) (counted_same (counts_by true (items_read p)) (counts p) (counts_is true p) x.values)
due_counted p (ended x how) = ap (λ l. how_numbers how ++ l) (counted_same (counts_by false (items_read p)) (is_counter p) (counter_is p) x.values)

how_apart : Apart how_numbers
how_apart Stop Stop a b e = (refl, cc)
how_apart (Assert l) (Assert k) a b e = let same : l ≡ k = cc in (ap Assert same, cc)
how_apart (Size l) (Size k) a b e = let same : l ≡ k = cc in (ap Size same, cc)
how_apart (Astray l) (Astray k) a b e = let same : l ≡ k = cc in (ap Astray same, cc)
how_apart Stop (Assert k) a b e = absurd cc
how_apart Stop (Size k) a b e = absurd cc
how_apart Stop (Astray k) a b e = absurd cc
how_apart (Assert l) Stop a b e = absurd cc
how_apart (Assert l) (Size k) a b e = absurd cc
how_apart (Assert l) (Astray k) a b e = absurd cc
how_apart (Size l) Stop a b e = absurd cc
how_apart (Size l) (Assert k) a b e = absurd cc
how_apart (Size l) (Astray k) a b e = absurd cc
how_apart (Astray l) Stop a b e = absurd cc
how_apart (Astray l) (Assert k) a b e = absurd cc
how_apart (Astray l) (Size k) a b e = absurd cc

-- the numbers of what comes of a program tell what counts of it
pub due_apart : (schema : Lists) (program : Program) (x y : Due) (a b : List ℕ) → IsSaid schema program x → IsSaid schema program y → due_numbers (items_read program) x ++ a ≡ due_numbers (items_read program) y ++ b → (counted program x ≡ counted program y) × (a ≡ b)
due_apart schema program (due at s) (due at' t) a b said said' e =
    let place : at.at ≡ at'.at = cc in
    let rest : counted_numbers (counts_by true (items_read program)) at.values ++ a ≡ counted_numbers (counts_by true (items_read program)) at'.values ++ b = cc in
    let values = counted_apart (counts_by true (items_read program)) (counts program) (counts_is true program) at.values at'.values a b rest in
    let statement = same_due program schema at at' s t place values.0 said said' in
    (λ i. due (record { at = place i; values = values.0 i; status = 0 }) (statement i), values.1)
due_apart schema program (ended at how) (ended at' how') a b said said' e =
    let read = counts_by false (items_read program) in
    let kind = behind how_numbers how_apart how how' (counted_numbers read at.values) (counted_numbers read at'.values) a b e in
    let values = counted_apart read (is_counter program) (counter_is program) at.values at'.values a b kind.1 in
    (λ i. ended (record { at = 0; values = values.0 i; status = 0 }) (kind.0 i), values.1)
due_apart schema program (due at s) (ended at' Stop) a b said said' e = absurd cc
due_apart schema program (due at s) (ended at' (Assert l)) a b said said' e = absurd cc
due_apart schema program (due at s) (ended at' (Size l)) a b said said' e = absurd cc
due_apart schema program (due at s) (ended at' (Astray l)) a b said said' e = absurd cc
due_apart schema program (ended at Stop) (due at' t) a b said said' e = absurd cc
due_apart schema program (ended at (Assert l)) (due at' t) a b said said' e = absurd cc
due_apart schema program (ended at (Size l)) (due at' t) a b said said' e = absurd cc
due_apart schema program (ended at (Astray l)) (due at' t) a b said said' e = absurd cc

module _ (m : Meeting) where
  pub said_comes : (p : Program) (u : ℕ) (history : List Entry) → IsSaid m.schema p (comes m.schema p u history)
  said_comes p u history = said_next m.schema p _

  -- ALL STATEMENTS FIT

  abbrev AllFit : List Entry → Type 0
  AllFit es = list_all (λ (e : Entry). fits m.schema e.statement) es ≡ true

  fit_outcome : (history : List Entry) (u : ℕ) (s : Statement) (o : Option StatementEffect) → AllFit history → fits m.schema s ≡ true → AllFit (turns.with_effect_of history u s o)
  fit_outcome history u s None h f = h
  fit_outcome history u s (Some o) h f = fits_more m.schema history (record { ticket = length history; unit = u; statement = s; answer = o.answer }) h f

  fit_made : (history : List Entry) (u : ℕ) (o : Option Statement) → AllFit history → ((s : Statement) → o ≡ Some s → fits m.schema s ≡ true) → AllFit (made m.schema m.capacity (length m.programs) history u o)
  fit_made history u None h f = h
  fit_made history u (Some s) h f = fit_outcome history u s _ h (f s refl)

  pub due_fits : (d : Due) (s : Statement) → statement_due m.schema d ≡ Some s → fits m.schema s ≡ true
  due_fits (ended at how) s e = absurd cc
  due_fits (due at t) s e = by (fits m.schema t) refl e where
    by : (b : Bool) → fits m.schema t ≡ b → (if b then Some t else None) ≡ Some s → fits m.schema s ≡ true
    by true is f = let same : t ≡ s = cc in subst (λ (z : Statement). fits m.schema z ≡ true) same is
    by false is f = absurd cc

  pub of_due : (o : Option Program) (f : Program → Option Statement) → ((p : Program) (s : Statement) → f p ≡ Some s → fits m.schema s ≡ true) → (s : Statement) → option_and_then f o ≡ Some s → fits m.schema s ≡ true
  of_due None f h s e = absurd cc
  of_due (Some p) f h s e = h p s e

  fit_order : (history : List Entry) (us : List ℕ) → AllFit history → AllFit (after_order m history us)
  unfolding after_order
  fit_order history [] h = h
  fit_order history (u ∷ us) h =
      fit_order (after_turn m history u) us
      (fit_made history u (due_of m history u) h (of_due (unit_at m.programs u) (λ (p : Program). statement_due m.schema (comes m.schema p u history)) (λ p s e. due_fits (comes m.schema p u history) s e)))

  few_fits : (b : Bool) (d : Due) (s : Statement) → (if b then statement_due m.schema d else None) ≡ Some s → fits m.schema s ≡ true
  few_fits true d s e = due_fits d s e
  few_fits false d s e = absurd cc

  fit_turns : (history : List Entry) (us : List ℕ) → AllFit history → AllFit (after_turns m.schema m.capacity m.programs history us)
  unfolding after_turns
  fit_turns history [] h = h
  fit_turns history (u ∷ us) h =
      fit_turns (turns.after_turn m.schema m.capacity m.programs history u) us
      (fit_made history u (statement_of m.schema m.programs history u) h
      (of_due (unit_at m.programs u) (λ (p : Program). turns.due_after m.schema (length (entries_of u history)) (comes m.schema p u history)) (λ p s e. few_fits (nat_lt (length (entries_of u history)) MOST_STATEMENTS) (comes m.schema p u history) s e)))

  pub order_fits : (o : List ℕ) → AllFit (history_of m o)
  order_fits o = fit_order (beginning m) o (fit_turns [] m.begun refl)

  -- a history of statements that fit leads to a legal state
  pub legal_after : IsMeeting m → (history : List Entry) → AllFit history → IsLegalState m.schema m.capacity (sequential_after m history)
  legal_after meets history fit = replay_keeps_legal m.schema m.capacity (opening_state m.schema (length m.programs)) history meets.sound (opening_is_legal m.schema m.capacity (length m.programs)) fit

  pub legal : IsMeeting m → (o : List ℕ) → IsLegalState m.schema m.capacity (state_of m o).sequential
  legal meets o = legal_after meets (history_of m o) (order_fits o)

  units_after : (state : State) (es : List Entry) → length (replay m.schema m.capacity state es).units ≡ length state.units
  unfolding replay
  units_after state [] = refl
  units_after state (e ∷ es) = units_after (after_entry m.schema m.capacity state e) es ∙ effect_keeps_count state e.unit (effect_of_unit m.schema m.capacity state e.unit e.statement)

  pub units_counted : (history : List Entry) → length (sequential_after m history).units ≡ length m.programs
  units_counted history = units_after (opening_state m.schema (length m.programs)) history ∙ opening_length m.schema (length m.programs)

  pub units_count : (o : List ℕ) → length (state_of m o).sequential.units ≡ length m.programs
  units_count o = units_counted (history_of m o)

  -- THE SAME TEXT

  -- the image of a state without versions
  abbrev image_without : MeetingState → Image
  image_without s = in_unit_order (range_with_len 1 (length m.programs)) (image_of m.schema m.capacity (unversioned_database s.sequential.database))

  without_same : (x y : MeetingState) → essence m x ≡ essence m y → image_without x ≡ image_without y
  without_same x y e = image_alike m.schema m.capacity (range_with_len 1 (length m.programs)) (unversioned x.sequential) (unversioned y.sequential) (ap (λ (z : Essence). z.sequential) e)

  -- states with the same essence have the same text without versions
  pub same_text : (x y : MeetingState) → essence m x ≡ essence m y → state_text m (without_versions x) ≡ state_text m (without_versions y)
  same_text x y e =
      let image = without_same x y e in
      let programs = sym (counted_texts 1 m.programs x.programs) ∙ ap (λ (z : Essence). programs_text 1 m.programs (map reached_of z.programs)) e ∙ counted_texts 1 m.programs y.programs in
      λ i. run_text m.schema [] (image i).records (image i).lists (image i).next (image i).usage (e i).sequential.units ++ programs i
