-- Worked rows: the line that is typed for a program.
-- Promises: a row computes from the definitions alone.
use Prim.Native.String.{String}
use Rattle.std.proofs.Common.{◌≡◌, None, Some, refl}
use Rattle.std.specs.Prelude.{List, [], ◌∷◌, ◌++◌, codes, map}
use Rattle.std.specs.Fmt.{digits}
use Rattle.dbtg_unit.proofs.Rows.Defined.Schemas.{card}
use Rattle.dbtg_script.specs.Reading.{verdict}
use Rattle.dbtg_script.specs.Tokens.{into, onto}
use Rattle.dbtg_program.specs.Going.{next, within}
use Rattle.dbtg_program.specs.States.{beginning}
use Rattle.dbtg_program.proofs.Rows.Words.{of_lines}
use Rattle.dbtg_shell.specs.Programs.{line_for}
use Rattle.dbtg_shell.specs.Inside.Programs.{shown_line}

abbrev written : List String
written = "01 T PIC X(4)" ∷ "MOVE \"A B\" TO T" ∷ "MODIFY CUSTOMER CNAME=T." ∷ []

-- a statement with fields is typed with their values
with_values : line_for (of_lines card written) (map (λ l. codes l) written) (next card (of_lines card written) (beginning (of_lines card written))) ≡ Some (codes "MODIFY CUSTOMER CNAME = \"A B\"")
unfolding within verdict onto into digits
with_values = refl

-- any other as its line has it
as_written : line_for (of_lines card ("GET." ∷ [])) (codes "GET." ∷ []) (next card (of_lines card ("GET." ∷ [])) (beginning (of_lines card ("GET." ∷ [])))) ≡ Some (codes "GET.")
unfolding within verdict onto into digits
as_written = refl

-- and none at the end
at_the_end : line_for (of_lines card ("STOP" ∷ [])) (codes "STOP" ∷ []) (next card (of_lines card ("STOP" ∷ [])) (beginning (of_lines card ("STOP" ∷ [])))) ≡ None
unfolding within verdict onto into digits
at_the_end = refl

shown : shown_line 2 (codes "GET." ++ 13 ∷ []) ≡ codes "2: GET" ++ 10 ∷ []
unfolding digits
shown = refl
