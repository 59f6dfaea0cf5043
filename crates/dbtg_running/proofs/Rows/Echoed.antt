-- The statements that a program made, as its lines have them.
use Prim.Native.String.{String}
use Rattle.std.specs.Prelude.{◌≡◌, refl, List, [], ◌∷◌, ◌++◌, None, codes, map, true}
use Rattle.std.specs.Fmt.{digits}
use Rattle.dbtg_unit.specs.declared.statement.Statement.TheVariants.{Free, Get, Modify}
use Rattle.dbtg_unit.specs.declared.unit.Cause.TheVariants.{NoCurrentOfRunUnit}
use Rattle.dbtg_unit.specs.declared.unit.Entry.{Entry}
use Rattle.dbtg_unit.proofs.Rows.Words.{text}
use Rattle.dbtg_unit.proofs.Rows.Defined.Schemas.{card}
use Rattle.dbtg_script.specs.Tokens.{into, onto}
use Rattle.dbtg_script.specs.Reading.{verdict}
use Rattle.dbtg_program.specs.States.{beginning}
use Rattle.dbtg_program.specs.Going.{within}
use Rattle.dbtg_program.proofs.Rows.Words.{done, no, of_lines}
use Rattle.dbtg_going.proofs.Rows.Alternately.{entry, looker}
use Rattle.dbtg_running.specs.Checking.{program_lines}
use Rattle.dbtg_running.specs.Echoing.{lines_made}

-- GET is refused, so the program goes on at NOTHING, and frees everything
jumped : lines_made card looker (map (λ l. codes l) ("01 SEEN PIC 9(2)" ∷ "GET." ∷ "IF STATUS = 0413 GO TO NOTHING" ∷ "ADD 1 TO SEEN" ∷ "STOP" ∷ "NOTHING." ∷ "FREE ALL" ∷ [])) (beginning looker)
    (entry 1 1 (Get None) (no NoCurrentOfRunUnit) ∷ entry 2 1 (Free true) done ∷ []) ≡ codes "GET." ++ 10 ∷ codes "FREE ALL" ++ 10 ∷ []
unfolding within verdict onto into digits
jumped = refl

-- a program that writes the value of a counter
abbrev written : List String
written = "01 T PIC X(4)" ∷ "MOVE \"A B\" TO T" ∷ "MODIFY CUSTOMER CNAME=T." ∷ []

abbrev writing : List Entry
writing = entry 0 1 (Modify 0 (record { item = 1; value = text "A B     " } ∷ [])) (no NoCurrentOfRunUnit) ∷ []

with_values : lines_made card (of_lines card written) (map (λ l. codes l) written) (beginning (of_lines card written)) writing ≡ codes "MODIFY CUSTOMER CNAME = \"A B\"" ++ 10 ∷ []
unfolding within verdict onto into digits
with_values = refl

-- two programs, one of eight sentences and one of a single sentence
counted : program_lines 1 (looker ∷ of_lines card ("GET" ∷ []) ∷ []) ≡ codes "program 1: 8 sentences" ++ 10 ∷ codes "program 2: 1 sentences" ++ 10 ∷ []
unfolding onto into digits
counted = refl
