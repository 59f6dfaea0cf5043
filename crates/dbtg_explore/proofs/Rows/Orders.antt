-- Which order comes first; who can have a turn; how programs end.
use Rattle.std.proofs.Common.{arith, inl, inr}
use Rattle.std.specs.Prelude.{◌≡◌, refl, List, [], ◌∷◌, Some, None, true, false}
use Rattle.std.specs.Fmt.{digits}
use Rattle.dbtg_cells.specs.declared.key.Value.TheVariants.{Num}
use Rattle.dbtg_unit.specs.declared.statement.Statement.TheVariants.{Get}
use Rattle.dbtg_unit.specs.declared.unit.Cause.TheVariants.{NoCurrentOfRunUnit}
use Rattle.dbtg_unit.specs.declared.unit.Entry.{Entry}
use Rattle.dbtg_unit.specs.Database.Laws.Replay.{replay}
use Rattle.dbtg_unit.specs.Database.Statements.Effect.{effect}
use Rattle.dbtg_unit.proofs.Rows.Words.{text}
use Rattle.dbtg_unit.proofs.Rows.Defined.Schemas.{card}
use Rattle.dbtg_script.specs.Tokens.{into, onto}
use Rattle.dbtg_script.specs.Reading.{verdict}
use Rattle.dbtg_program.specs.declared.program.End.TheVariants.{Stop, Assert, Size, Astray}
use Rattle.dbtg_program.specs.declared.program.Program.{Program}
use Rattle.dbtg_program.specs.Going.{ended, within}
use Rattle.dbtg_program.proofs.Rows.Words.{no, of_lines}
use Rattle.dbtg_step.specs.Machine.SequentialDatabase.{unit_at}
use Rattle.dbtg_explore.specs.Orders.{IsBefore, IsLower, Meeting, after_turn, can_go_on, can_turn, due_of, waits}
use Rattle.dbtg_explore.specs.Results.{FailsBefore, is_failure}
use Rattle.dbtg_explore.specs.States.{state_after}

-- WHICH COMES FIRST

shorter_first : IsBefore (2 ∷ []) (1 ∷ 1 ∷ [])
shorter_first = inl (omega arith)

lower_first : IsBefore (1 ∷ 2 ∷ 3 ∷ []) (1 ∷ 3 ∷ 1 ∷ [])
lower_first = inr (refl, inr (refl, inl (omega arith)))

not_itself : IsLower (1 ∷ 2 ∷ []) (1 ∷ 2 ∷ []) → ⊥
not_itself (inl h) = omega (arith, h)
not_itself (inr (e, inl h)) = omega (arith, h)
not_itself (inr (e, inr (f, h))) = h

earlier_unit : FailsBefore (record { unit = 1; how = Size 9 }) (record { unit = 2; how = Assert 3 })
earlier_unit = inl (omega arith)

earlier_line : FailsBefore (record { unit = 2; how = Size 3 }) (record { unit = 2; how = Assert 9 })
earlier_line = inr (refl, inl (omega arith))

-- HOW A PROGRAM ENDS

stopped : is_failure Stop ≡ false
stopped = refl

asserted : is_failure (Assert 12) ≡ true
asserted = refl

too_large : is_failure (Size 9) ≡ true
too_large = refl

gone_astray : is_failure (Astray 3) ≡ true
gone_astray = refl

-- WHO CAN HAVE A TURN

-- a program of one statement
abbrev pub asker : Program
asker = of_lines card ("GET" ∷ [])

-- a program without a statement
abbrev pub sayer : Program
sayer = of_lines card ("ASSERT STATUS = 0405" ∷ "GET" ∷ [])

-- two programs, of which the second has ended before its first statement, and one that waits for them
abbrev pub meeting : Meeting
meeting = record { schema = card; capacity = 5; programs = asker ∷ sayer ∷ asker ∷ []; begun = []; last_waits = true }

first_due : due_of meeting [] 1 ≡ Some (Get None)
unfolding unit_at within verdict onto into digits
first_due = refl

second_ended : can_go_on meeting [] 2 ≡ false
unfolding unit_at within verdict onto into digits
second_ended = refl

second_failed : unit_at (state_after meeting []).programs 2 ≡ Some (ended (record { at = 0; values = Num 0 ∷ text "" ∷ []; status = 0 }) (Assert 1))
unfolding unit_at within verdict onto into digits
second_failed = refl

nobody : can_go_on meeting [] 4 ≡ false
unfolding unit_at
nobody = refl

first_may : can_turn meeting [] 1 ≡ true
unfolding unit_at within verdict onto into digits
first_may = refl

last_waits : waits meeting [] 3 ≡ true
unfolding unit_at within verdict onto into digits
last_waits = refl

last_must_not : can_turn meeting [] 3 ≡ false
unfolding unit_at within verdict onto into digits
last_must_not = refl

abbrev pub one_made : List Entry
one_made = record { ticket = 0; unit = 1; statement = Get None; answer = no NoCurrentOfRunUnit } ∷ []

first_turn : after_turn meeting [] 1 ≡ one_made
unfolding unit_at replay within verdict onto into digits effect
first_turn = refl

last_may : can_turn meeting one_made 3 ≡ true
unfolding unit_at within verdict onto into digits
last_may = refl
