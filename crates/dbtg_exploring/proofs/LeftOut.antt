-- Turns that make nothing can be left out.
use Rattle.std.proofs.Common.{◌≡◌, ℕ, false, List, [], ◌∷◌, ◌++◌, length, map, Option, Some, None, ◌⊎◌, inl, inr, refl, sym, ap, ◌∙◌, subst}
use Rattle.std.specs.Prelude.{filter}
use Rattle.std.proofs.lemmas.List.{append-nil, append_assoc}
use Rattle.dbtg_schema.specs.Lists.{Lists}
use Rattle.dbtg_unit.specs.declared.statement.Statement.{Statement}
use Rattle.dbtg_unit.specs.declared.unit.Entry.{Entry}
use Rattle.dbtg_unit.specs.Database.Statements.Effect.{StatementEffect}
use Rattle.dbtg_unit.specs.Database.Laws.Replay.{opening_state, effect_of_unit, replay}
use Rattle.dbtg_program.specs.declared.program.Program.{Program}
use Rattle.dbtg_going.specs.Turns.{after_turn, after_turns, is_heard, made, statement_of, turns_of, with_effect_of}
use Rattle.dbtg_going.proofs.FirstAndLast.{all_heard}

-- the units of the statements, in turn
abbrev pub units : List Entry → List ℕ
units history = map (λ e. e.unit) history

-- nothing is made, or one statement of unit u
abbrev pub MakesOne : List Entry → ℕ → List Entry → Type 0
MakesOne history u new = (new ≡ history) ⊎ ((e : Entry) × (e.unit ≡ u) × (new ≡ history ++ e ∷ []))

with_one : (history : List Entry) (u : ℕ) (s : Statement) (outcome : Option StatementEffect) → MakesOne history u (with_effect_of history u s outcome)
with_one history u s None = inl refl
with_one history u s (Some outcome) = inr (_, refl, refl)

module _ (schema : Lists) (capacity : ℕ) (programs : List Program) where
  made_one : (history : List Entry) (u : ℕ) (s : Option Statement) → MakesOne history u (made schema capacity (length programs) history u s)
  made_one history u None = inl refl
  made_one history u (Some s) = with_one history u s (effect_of_unit schema capacity (replay schema capacity (opening_state schema (length programs)) history) u s)

  abbrev pub after : List Entry → List ℕ → List Entry
  after = after_turns schema capacity programs

  -- the units of what turns make, taken as turns, make the same
  abbrev pub SameMade : List Entry → List ℕ → Type 0
  SameMade history turns = (rest : List Entry) × (after history turns ≡ history ++ rest) × (after history (units rest) ≡ history ++ rest)

  by_turn : (history : List Entry) (u : ℕ) (turns : List ℕ) → MakesOne history u (after_turn schema capacity programs history u)
      → ((new : List Entry) → SameMade new turns) → SameMade history (u ∷ turns)
  unfolding after_turns
  by_turn history u turns (inl none) then =
      let rest = then history in
      (rest.0, ap (λ h. after h turns) none ∙ rest.1, rest.2)
  by_turn history u turns (inr one) then =
      let rest = then (history ++ one.0 ∷ []) in
      let front : after_turn schema capacity programs history one.0.unit ≡ history ++ one.0 ∷ [] = ap (after_turn schema capacity programs history) one.1 ∙ one.2 in (
        one.0 ∷ rest.0,
        ap (λ h. after h turns) one.2 ∙ (rest.1 ∙ append_assoc history (one.0 ∷ []) rest.0),
        ap (λ h. after h (units rest.0)) front ∙ (rest.2 ∙ append_assoc history (one.0 ∷ []) rest.0),
      )

  pub same_made : (history : List Entry) (turns : List ℕ) → SameMade history turns
  unfolding after_turns
  same_made history [] = ([], sym (append-nil history), sym (append-nil history))
  same_made history (u ∷ turns) = by_turn history u turns (made_one history u (statement_of schema programs history u)) (λ new. same_made new turns)

  -- if programs do not wait for others, all turns are taken
  pub all_taken : (turns : List ℕ) → turns_of schema capacity programs (record { first = false; last = false }) (Some turns) ≡ turns
  all_taken turns = append-nil (filter (is_heard (record { first = false; last = false }) (length programs)) turns) ∙ all_heard (length programs) turns

  -- the same for all that turns make from the beginning
  pub begins_alike : (turns : List ℕ) → after [] (units (after [] turns)) ≡ after [] turns
  begins_alike turns =
      let rest = same_made [] turns in
      subst (λ h. after [] (units h) ≡ h) (sym rest.1) rest.2

  pub begins_after : (turns : List ℕ) (history : List Entry) (begun : List ℕ) → history ≡ after [] turns → begun ≡ units history → after [] begun ≡ after [] turns
  begins_after turns history begun made are = ap (after []) (are ∙ ap units made) ∙ begins_alike turns
