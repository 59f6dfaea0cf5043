-- A script as a program: its statements are due one after another.
-- es are entries, o is what stands at a place.
use Rattle.std.proofs.Common.{◌≡◌, ℕ, ◌+◌, ◌≤◌, List, [], ◌∷◌, ◌++◌, length, map, drop, Option, Some, None, slice_get, refl, sym, ap, ◌∙◌, subst, inl, inr, arith}
use Rattle.std.specs.Prelude.{option_map}
use Rattle.std.proofs.lemmas.List.{drop_more}
use Rattle.std.proofs.lemmas.Option.{get_or_from_slice_get, slice_get-map, slice_get_cases, slice_get_past, slice_get_within}
use Rattle.dbtg_schema.specs.Lists.{Lists}
use Rattle.dbtg_unit.specs.declared.statement.Statement.{Statement}
use Rattle.dbtg_unit.specs.declared.unit.Entry.{Entry}
use Rattle.dbtg_program.specs.declared.program.End.TheVariants.{Stop}
use Rattle.dbtg_program.specs.States.{ProgramState, beginning}
use Rattle.dbtg_program.specs.Going.{Due, GoOn, IsDue, after_due, at_line, due, ended, next, state_after, told}
use Rattle.dbtg_program.specs.Scripts.{line_with, of_script}
use Rattle.dbtg_program.specs.Laws.{IsDueOrStop, ScriptsAreMadeInOrder}
use Rattle.dbtg_program.proofs.Steps.{within_ends, within_makes}

-- behind the end there is nothing either
past : {A : Type 0} (xs : List A) (k n : ℕ) → slice_get xs k ≡ None → k ≤ n → slice_get xs n ≡ None
past xs k n none above = slice_get_past xs n (elim (slice_get_cases xs k).1 [
  | inl p ↦ absurd (cc (p.2, none))
  | inr p ↦ omega (arith, p.0, above)
])

module _ (schema : Lists) (script : List Statement) where
  -- what stands at the place where the program is, comes next
  abbrev comes_at : ProgramState → Option Statement → Due
  comes_at state (Some s) = due state s
  comes_at state None = ended state Stop

  next_is : (state : ProgramState) (o : Option Statement) → slice_get script state.at ≡ o → next schema (of_script script) state ≡ comes_at state o
  next_is state (Some s) is =
      within_makes schema (of_script script) 100000 0 state s (omega arith) (ap (at_line schema (of_script script) state) (slice_get-map line_with script state.at ∙ ap (option_map line_with) is))
  next_is state None is =
      within_ends schema (of_script script) 100000 0 state Stop (omega arith) (ap (at_line schema (of_script script) state) (slice_get-map line_with script state.at ∙ ap (option_map line_with) is))

  comes_so : (state : ProgramState) (o : Option Statement) → IsDueOrStop o (comes_at state o)
  comes_so state (Some s) = refl
  comes_so state None = refl

  -- IN ORDER

  -- after these entries from a state on, what stands as many places further comes next
  abbrev InOrder : List Entry → ProgramState → Type 0
  InOrder es state = IsDueOrStop (slice_get script (state.at + length es)) (next schema (of_script script) (state_after schema (of_script script) state es))

  on : (state : ProgramState) (e : Entry) (es : List Entry) → ((after : ProgramState) → InOrder es after) → (o : Option Statement) → slice_get script state.at ≡ o
      → IsDueOrStop (slice_get script (state.at + length (e ∷ es))) (next schema (of_script script) (state_after schema (of_script script) (after_due (of_script script) state (comes_at state o) e) es))
  on state e es rest (Some s) is =
      let after = told (of_script script) state s e.answer in
      let count : state.at + 1 + length es ≡ state.at + length (e ∷ es) = omega arith in
      subst (λ n. IsDueOrStop (slice_get script n) (next schema (of_script script) (state_after schema (of_script script) after es))) count (rest after)
  on state e es rest None is =
      let now = past script state.at (state.at + length es) is (omega arith) in
      let later = past script state.at (state.at + length (e ∷ es)) is (omega arith) in
      subst (λ o. IsDueOrStop o (next schema (of_script script) (state_after schema (of_script script) state es))) (now ∙ sym later) (rest state)

  in_order_from : (es : List Entry) (state : ProgramState) → InOrder es state
  in_order_from [] state =
      let none : state.at ≡ state.at + 0 = omega arith in
      subst (λ n. IsDueOrStop (slice_get script n) (next schema (of_script script) state)) none
      (subst (IsDueOrStop (slice_get script state.at)) (sym (next_is state (slice_get script state.at) refl)) (comes_so state (slice_get script state.at)))
  in_order_from (e ∷ es) state =
      subst (λ (d : Due). IsDueOrStop (slice_get script (state.at + length (e ∷ es))) (next schema (of_script script) (state_after schema (of_script script) (after_due (of_script script) state d e) es)))
      (sym (next_is state (slice_get script state.at) refl)) (on state e es (in_order_from es) (slice_get script state.at) refl)

  -- THE ENTRIES OF A SCRIPT

  -- entries from a state on have the statements from there on
  abbrev Make : List Entry → ProgramState → Type 0
  Make es state = GoOn schema (of_script script) state es → drop state.at script ≡ map (λ (e : Entry). e.statement) es ++ drop (state.at + length es) script

  made_on : (state : ProgramState) (e : Entry) (es : List Entry) → ((after : ProgramState) → Make es after) → (o : Option Statement) → slice_get script state.at ≡ o → IsDue (comes_at state o) e.statement
      → GoOn schema (of_script script) (after_due (of_script script) state (comes_at state o) e) es → drop state.at script ≡ e.statement ∷ (map (λ (f : Entry). f.statement) es ++ drop (state.at + length (e ∷ es)) script)
  made_on state e es rest (Some s) is same go =
      let count : state.at + 1 + length es ≡ state.at + length (e ∷ es) = omega arith in
      drop_more script state.at s (slice_get_within script state.at s is) ∙ ap (λ x. x ∷ drop (state.at + 1) script) (get_or_from_slice_get script state.at s s is ∙ same)
      ∙ ap (λ xs. e.statement ∷ xs) (rest (told (of_script script) state s e.answer) go ∙ ap (λ n. map (λ (f : Entry). f.statement) es ++ drop n script) count)
  made_on state e es rest None is none go = absurd none

  pub made_from : (es : List Entry) (state : ProgramState) → Make es state
  made_from [] state go = let none : state.at ≡ state.at + 0 = omega arith in ap (λ n. drop n script) none
  made_from (e ∷ es) state go =
      let comes = next_is state (slice_get script state.at) refl in
      made_on state e es (made_from es) (slice_get script state.at) refl (subst (λ (d : Due). IsDue d e.statement) comes go.0)
      (subst (λ (d : Due). GoOn schema (of_script script) (after_due (of_script script) state d e) es) comes go.1)

pub in_order : ScriptsAreMadeInOrder
in_order schema script entries =
    let count : 0 + length entries ≡ length entries = omega arith in
    let program = of_script script in
    subst (λ n. IsDueOrStop (slice_get script n) (next schema program (state_after schema program (beginning program) entries))) count (in_order_from schema script entries (beginning program))
