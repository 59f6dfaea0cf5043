-- A walk through a set "until 0307", with a sum and a count.
use Rattle.std.specs.Prelude.{◌≡◌, refl, [], ◌∷◌, Some, None}
use Rattle.std.specs.Fmt.{digits}
use Rattle.dbtg_cells.specs.declared.key.Value.TheVariants.{Num}
use Rattle.dbtg_unit.specs.declared.statement.Statement.TheVariants.{Get}
use Rattle.dbtg_unit.specs.declared.statement.Which.TheVariants.{First, Next}
use Rattle.dbtg_unit.specs.declared.unit.Cause.TheVariants.{End}
use Rattle.dbtg_unit.proofs.Rows.Words.{find_in_set, item_key, text}
use Rattle.dbtg_unit.proofs.Rows.Defined.Schemas.{shop, lines}
use Rattle.dbtg_script.specs.Tokens.{into, onto}
use Rattle.dbtg_script.specs.Reading.{verdict}
use Rattle.dbtg_program.specs.declared.program.Program.{Program}
use Rattle.dbtg_program.specs.declared.program.End.TheVariants.{Stop}
use Rattle.dbtg_program.specs.declared.program.Sentence.TheVariants.{Heading, Statement, Add, GoTo, If}
use Rattle.dbtg_program.specs.declared.program.Condition.TheVariants.{Status}
use Rattle.dbtg_program.specs.declared.program.Operand.TheVariants.{Literal, Field}
use Rattle.std.specs.Prelude.{false}
use Rattle.dbtg_program.specs.Going.{within}
use Rattle.dbtg_program.proofs.Rows.Words.{of_lines, played, found, got, no}

-- the fields of SHOP are CNO, CNAME, ONO, PART and QTY, numbered from 0; SUM and COUNT come after them
abbrev pub walk : Program
walk = of_lines shop (
    "01 SUM PIC 9(4)."
    ∷ "01 COUNT PICTURE IS 9(2)"
    ∷ "FIND FIRST OF LINES SET"
    ∷ "ROUND."
    ∷ "IF STATUS = 0307 GO TO DONE"
    ∷ "* a line that is no sentence"
    ∷ "GET"
    ∷ "ADD ITEM.QTY TO SUM"
    ∷ "ADD 1 TO COUNT"
    ∷ "FIND NEXT OF LINES SET"
    ∷ "GO TO ROUND"
    ∷ "DONE."
    ∷ [])

walk_reads : walk.lines ≡
    record { number = 1; sentence = Heading }
    ∷ record { number = 2; sentence = Heading }
    ∷ record { number = 3; sentence = Statement (find_in_set First lines) }
    ∷ record { number = 4; sentence = Heading }
    ∷ record { number = 5; sentence = If (Status false 307) 10 }
    ∷ record { number = 7; sentence = Statement (Get None) }
    ∷ record { number = 8; sentence = Add (Field 4) 5 }
    ∷ record { number = 9; sentence = Add (Literal (Num 1)) 6 }
    ∷ record { number = 10; sentence = Statement (find_in_set Next lines) }
    ∷ record { number = 11; sentence = GoTo 3 }
    ∷ record { number = 12; sentence = Heading }
    ∷ []
unfolding onto into
walk_reads = refl

walk_goes : played shop walk (
    found (item_key 1) ∷ got (item_key 1) (text "BOLT" ∷ Num 5 ∷ []) ∷ found (item_key 3) ∷ got (item_key 3) (text "NUT " ∷ Num 2 ∷ []) ∷ no End ∷ [])
    ≡ record {
      statements = find_in_set First lines ∷ Get None ∷ find_in_set Next lines ∷ Get None ∷ find_in_set Next lines ∷ [];
      values = Num 0 ∷ text "" ∷ Num 0 ∷ text "NUT" ∷ Num 2 ∷ Num 7 ∷ Num 2 ∷ [];
      end = Some Stop;
    }
unfolding within verdict onto into digits
walk_goes = refl
