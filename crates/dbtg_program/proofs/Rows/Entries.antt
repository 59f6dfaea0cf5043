-- Which entries belong to a program, and the state after them.
use Rattle.std.proofs.Common.{◌≡◌, refl, ℕ, [], ◌∷◌, None, false}
use Rattle.std.specs.Fmt.{digits}
use Rattle.dbtg_unit.specs.declared.statement.Statement.{Statement}
use Rattle.dbtg_unit.specs.declared.statement.Statement.TheVariants.{Get, Keep, Free}
use Rattle.dbtg_unit.specs.declared.unit.Answer.{Answer}
use Rattle.dbtg_unit.specs.declared.unit.Cause.TheVariants.{NoCurrentOfRunUnit}
use Rattle.dbtg_unit.specs.declared.unit.Entry.{Entry}
use Rattle.dbtg_unit.proofs.Rows.Defined.Schemas.{card}
use Rattle.dbtg_script.specs.Tokens.{into, onto}
use Rattle.dbtg_script.specs.Reading.{verdict}
use Rattle.dbtg_program.specs.declared.program.Program.{Program}
use Rattle.dbtg_program.specs.States.{beginning}
use Rattle.dbtg_program.specs.Going.{AreOf, state_after, within}
use Rattle.dbtg_program.proofs.Rows.Words.{done, no, of_lines}

-- it keeps what it got, and frees everything if there is nothing
abbrev pub keeper : Program
keeper = of_lines card ("GET" ∷ "IF STATUS = 0413 GO TO NOTHING" ∷ "KEEP" ∷ "STOP" ∷ "NOTHING." ∷ "FREE" ∷ [])

abbrev pub entry : ℕ → Statement → Answer → Entry
entry ticket statement answer = record { ticket = ticket; unit = 1; statement = statement; answer = answer }

-- after a refused GET it frees; other units' entries may have come between
freed : AreOf card keeper (entry 0 (Get None) (no NoCurrentOfRunUnit) ∷ entry 4 (Free false) done ∷ [])
unfolding within verdict onto into digits
freed = (refl, (refl, tt))

not_kept : AreOf card keeper (entry 0 (Get None) (no NoCurrentOfRunUnit) ∷ entry 4 Keep done ∷ []) → ⊥
unfolding within verdict onto into digits
not_kept h = let e : Free false ≡ Keep = h.1.0 in absurd cc

-- after a GET that was done it keeps, and makes nothing after STOP
kept : AreOf card keeper (entry 0 (Get None) done ∷ entry 1 Keep done ∷ [])
unfolding within verdict onto into digits
kept = (refl, (refl, tt))

no_more : AreOf card keeper (entry 0 (Get None) done ∷ entry 1 Keep done ∷ entry 2 (Free false) done ∷ []) → ⊥
unfolding within verdict onto into digits
no_more h = h.1.1.0

status_noted : (state_after card keeper (beginning keeper) (entry 0 (Get None) (no NoCurrentOfRunUnit) ∷ [])).status ≡ 413
unfolding within verdict onto into digits
status_noted = refl
