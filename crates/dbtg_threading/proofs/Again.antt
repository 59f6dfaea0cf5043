-- A history in which units have followed programs is that of its turns.
-- es are entries, u is a unit.
use Rattle.std.proofs.Common.{◌≡◌, refl, sym, ◌∙◌, ap, subst, ℕ, ◌+◌, ◌-◌, ◌<◌, ◌≤◌, true, List, [], ◌∷◌, ◌++◌, length, map, Option, Some, None, arith, append-nil, append_assoc}
use Rattle.std.specs.Prelude.{◌==◌, if◌then◌else◌, option_and_then, option_map}
use Rattle.std.specs.List.{range_with_len}
use Rattle.std.proofs.lemmas.List.{length-append}
use Rattle.std.proofs.lemmas.List.Elements.{filter-append}
use Rattle.dbtg_schema.specs.Lists.{Lists}
use Rattle.dbtg_unit.specs.declared.statement.Statement.{Statement}
use Rattle.dbtg_unit.specs.declared.unit.Answer.{Answer}
use Rattle.dbtg_unit.specs.declared.unit.Entry.{Entry}
use Rattle.dbtg_unit.specs.Database.Statements.Effect.{StatementEffect}
use Rattle.dbtg_unit.specs.Database.Laws.Replay.{AnswersHold, IsHistoryOf, State, entries_of, opening_state, effect_of_unit, replay}
use Rattle.dbtg_unit.proofs.Public.{opening_length, replay_keeps_count, replays_one_more, unit_is_there}
use Rattle.dbtg_program.specs.declared.program.Program.{Program}
use Rattle.dbtg_going.specs.declared.member.Member.{Member}
use Rattle.dbtg_going.specs.Turns.{after_turn, after_turns, made, statement_of, with_effect_of}
use Rattle.dbtg_going.proofs.Turning.{numbered_one}
use Rattle.dbtg_threading.specs.Inside.Gone.{HaveMade, statement_after}

mine : (e : Entry) (rest : List Entry) → entries_of e.unit (e ∷ rest) ≡ e ∷ entries_of e.unit rest
mine e rest =
    let same : (e.unit == e.unit) ≡ true = grind arith in
    ap (λ b. if b then e ∷ entries_of e.unit rest else entries_of e.unit rest) same

module _ (schema : Lists) (capacity : ℕ) (programs : List Program) where
  -- the sequential database after a history
  abbrev now : List Entry → State
  now es = replay schema capacity (opening_state schema (length programs)) es

  units_are : (es : List Entry) → length (now es).units ≡ length programs
  units_are es = replay_keeps_count schema capacity (opening_state schema (length programs)) es ∙ opening_length schema (length programs)

  -- ONE ENTRY

  -- each entry has the statement of its unit's turn
  in_turn : (members : List Member) (history before behind : List Entry) (e : Entry) → HaveMade schema programs history members → history ≡ before ++ e ∷ behind → 0 < e.unit → e.unit ≤ length programs → statement_of schema programs before e.unit ≡ Some e.statement
  in_turn members history before behind e all is some within =
      let program = numbered_one programs e.unit some within in
      let own : entries_of e.unit history ≡ entries_of e.unit before ++ e ∷ entries_of e.unit behind
      = ap (entries_of e.unit) is ∙ filter-append (λ (f : Entry). f.unit == e.unit) before (e ∷ behind) ∙ ap (λ es. entries_of e.unit before ++ es) (mine e behind) in
      ap (option_and_then (λ (p : Program). statement_after schema p (entries_of e.unit before))) program.1 ∙ (all.each e.unit program.0 program.1).2.in_turn (entries_of e.unit before) e (entries_of e.unit behind) own

  with_answer : (before : List Entry) (e : Entry) (o : Option StatementEffect) → option_map (λ (o : StatementEffect). o.answer) o ≡ Some e.answer → length before ≡ e.ticket → with_effect_of before e.unit e.statement o ≡ before ++ e ∷ []
  with_answer before e None h ticket = absurd cc
  with_answer before e (Some o) h ticket =
      let answer : o.answer ≡ e.answer = cc in
      λ i. before ++ record { ticket = ticket i; unit = e.unit; statement = e.statement; answer = answer i } ∷ []

  -- ALL ENTRIES

  along : (members : List Member) (history before rest : List Entry) → HaveMade schema programs history members → history ≡ before ++ rest → AnswersHold schema capacity (now before) rest → map (λ (e : Entry). e.ticket) rest ≡ range_with_len (length before) (length rest)
      → after_turns schema capacity programs before (map (λ (e : Entry). e.unit) rest) ≡ before ++ rest
  unfolding AnswersHold after_turns
  along members history before [] all is answers tickets = sym (append-nil before)
  along members history before (e ∷ rest) all is answers tickets =
      let there = unit_is_there schema capacity (now before) e answers.0 in
      let number = units_are before in
      let said = in_turn members history before rest e all is there.0 (omega (arith, there.1, number)) in
      let ticket : length before ≡ e.ticket = cc (tickets) in
      let turn : after_turn schema capacity programs before e.unit ≡ before ++ e ∷ []
      = ap (made schema capacity (length programs) before e.unit) said ∙ with_answer before e (effect_of_unit schema capacity (now before) e.unit e.statement) answers.0 ticket in
      let tail : map (λ (f : Entry). f.ticket) rest ≡ range_with_len (length before + 1) (length rest) = cc (tickets) in
      ap (λ es. after_turns schema capacity programs es (map (λ (f : Entry). f.unit) rest)) turn
      ∙ along members history (before ++ e ∷ []) rest all (is ∙ sym (append_assoc before (e ∷ []) rest))
      (subst (λ s. AnswersHold schema capacity s rest) (sym (replays_one_more schema capacity (opening_state schema (length programs)) before e).state_is) answers.1)
      (tail ∙ ap (λ k. range_with_len k (length rest)) (sym (length-append before (e ∷ []))))
      ∙ append_assoc before (e ∷ []) rest

  pub made_again : (members : List Member) (history : List Entry) → HaveMade schema programs history members → IsHistoryOf schema capacity (length programs) history → after_turns schema capacity programs [] (map (λ (e : Entry). e.unit) history) ≡ history
  unfolding replay
  made_again members history all of = along members history [] history all refl of.answers_hold of.tickets
