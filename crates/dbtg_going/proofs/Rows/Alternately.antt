-- Two units that take turns: each goes on by the answers that it gets itself.
use Rattle.std.specs.Prelude.{◌≡◌, refl, ℕ, List, [], ◌∷◌, None, true}
use Rattle.std.specs.Fmt.{digits}
use Rattle.dbtg_cells.specs.declared.key.Value.TheVariants.{Num}
use Rattle.dbtg_cells.specs.declared.usage.Mode.TheVariants.{Update}
use Rattle.dbtg_unit.specs.declared.statement.Statement.TheVariants.{OpenArea, Get, Free}
use Rattle.dbtg_unit.specs.declared.unit.Answer.{Answer}
use Rattle.dbtg_unit.specs.declared.unit.Cause.TheVariants.{NoCurrentOfRunUnit}
use Rattle.dbtg_unit.specs.declared.unit.Entry.{Entry}
use Rattle.dbtg_unit.specs.declared.statement.Statement.{Statement}
use Rattle.dbtg_unit.specs.Database.Laws.Replay.{replay}
use Rattle.dbtg_unit.specs.Database.Statements.Effect.{effect}
use Rattle.dbtg_unit.proofs.Rows.Words.{key, store, text}
use Rattle.dbtg_unit.proofs.Rows.Defined.Schemas.{card, customers, main}
use Rattle.dbtg_script.specs.Tokens.{into, onto}
use Rattle.dbtg_script.specs.Reading.{verdict}
use Rattle.dbtg_program.specs.declared.program.End.TheVariants.{Stop, Assert}
use Rattle.dbtg_program.specs.declared.program.Program.{Program}
use Rattle.dbtg_program.specs.Going.{within}
use Rattle.dbtg_program.proofs.Rows.Words.{done, found, no, of_lines}
use Rattle.dbtg_step.specs.Machine.SequentialDatabase.{unit_at}
use Rattle.dbtg_going.specs.declared.member.Standing.TheVariants.{Ended, GoesOn}
use Rattle.dbtg_going.specs.Turns.{after_turns, reached}

-- it looks for a record, and frees everything if there is none
abbrev pub looker : Program
looker = of_lines card ("01 SEEN PIC 9(2)" ∷ "GET" ∷ "IF STATUS = 0413 GO TO NOTHING" ∷ "ADD 1 TO SEEN" ∷ "STOP" ∷ "NOTHING." ∷ "FREE ALL" ∷ "ADD 7 TO SEEN" ∷ [])

-- it stores a record, and asserts that this was refused, which is false
abbrev pub storer : Program
storer = of_lines card ("OPEN AREA MAIN USAGE-MODE IS UPDATE" ∷ "STORE CUSTOMER CNO = 7" ∷ "ASSERT STATUS = 0405" ∷ [])

abbrev pub entry : ℕ → ℕ → Statement → Answer → Entry
entry ticket unit s a = record { ticket = ticket; unit = unit; statement = s; answer = a }

abbrev pub two_made : List Entry
two_made = entry 0 2 (OpenArea main Update) done ∷ entry 1 1 (Get None) (no NoCurrentOfRunUnit) ∷ []

abbrev pub then_made : List Entry
then_made = entry 0 2 (OpenArea main Update) done ∷ entry 1 1 (Get None) (no NoCurrentOfRunUnit) ∷ entry 2 1 (Free true) done ∷ []

-- unit 2, then unit 1
each_once : after_turns card 5 (looker ∷ storer ∷ []) [] (2 ∷ 1 ∷ []) ≡ two_made
unfolding after_turns unit_at replay within verdict onto into digits effect
each_once = refl

-- a unit that does not exist, and 0, which is no unit
nobody : after_turns card 5 (looker ∷ storer ∷ []) two_made (3 ∷ 0 ∷ []) ≡ two_made
unfolding after_turns unit_at
nobody = refl

-- unit 1 twice, after which its program is at its end
once_more : after_turns card 5 (looker ∷ storer ∷ []) two_made (1 ∷ 1 ∷ []) ≡ then_made
unfolding after_turns unit_at replay within verdict onto into digits effect
once_more = refl

-- the first has ended, and its counter was raised after its last statement; the other has a statement to make
looker_ended : reached card looker 1 then_made ≡ record { standing = Ended Stop; state = record { at = 8; values = Num 0 ∷ text "" ∷ Num 7 ∷ []; status = 0 } }
unfolding within verdict onto into digits
looker_ended = refl

storer_goes_on : reached card storer 2 then_made ≡ record { standing = GoesOn; state = record { at = 1; values = Num 0 ∷ text "" ∷ []; status = 0 } }
unfolding within verdict onto into digits
storer_goes_on = refl

-- two more turns of the other: it stores, and its ASSERT does not hold
more_made : after_turns card 5 (looker ∷ storer ∷ []) then_made (2 ∷ 2 ∷ []) ≡ entry 0 2 (OpenArea main Update) done ∷ entry 1 1 (Get None) (no NoCurrentOfRunUnit) ∷ entry 2 1 (Free true) done
    ∷ entry 3 2 (store customers (Num 7 ∷ text "        " ∷ [])) (found (key customers 1)) ∷ []
unfolding after_turns unit_at replay within verdict onto into digits effect
more_made = refl

storer_ended : reached card storer 2 (entry 0 2 (OpenArea main Update) done ∷ entry 3 2 (store customers (Num 7 ∷ text "        " ∷ [])) (found (key customers 1)) ∷ [])
    ≡ record { standing = Ended (Assert 3); state = record { at = 2; values = Num 0 ∷ text "" ∷ []; status = 0 } }
unfolding within verdict onto into digits
storer_ended = refl
