-- Fields in every place where a value may stand.
use Rattle.std.specs.Prelude.{◌≡◌, refl, [], ◌∷◌, Some, codes}
use Rattle.std.specs.Fmt.{digits}
use Rattle.dbtg_cells.specs.declared.key.Value.TheVariants.{Num}
use Rattle.dbtg_unit.specs.declared.statement.Form.TheVariants.{Calc, Sorted}
use Rattle.dbtg_unit.specs.declared.statement.Statement.TheVariants.{Modify}
use Rattle.dbtg_unit.proofs.Rows.Words.{find, store, text}
use Rattle.dbtg_unit.proofs.Rows.Defined.Schemas.{shop, items, lines}
use Rattle.dbtg_script.specs.Tokens.{plain, equals, literal, into, onto}
use Rattle.dbtg_script.specs.Reading.{verdict}
use Rattle.dbtg_program.specs.declared.program.End.TheVariants.{Stop}
use Rattle.dbtg_program.specs.Going.{within}
use Rattle.dbtg_program.specs.Spelling.{words_text}
use Rattle.dbtg_program.proofs.Rows.Words.{of_lines, played, done}

-- after STORE, MODIFY and USING, and after FIND SORTED; a text is padded with the spaces that its item requires
in_every_place : played shop (of_lines shop (
    "01 WORD PIC X(4)"
    ∷ "01 COUNT PIC 9(3)"
    ∷ "MOVE \"NUT\" TO WORD"
    ∷ "MOVE 12 TO COUNT"
    ∷ "STORE ITEM PART = WORD QTY=COUNT"
    ∷ "MOVE COUNT TO ITEM.QTY"
    ∷ "ADD 1 TO ITEM.QTY"
    ∷ "MODIFY ITEM QTY = ITEM.QTY PART = WORD"
    ∷ "FIND CALC ITEM RECORD USING PART = WORD"
    ∷ "FIND SORTED ITEM.QTY OF LINES SET"
    ∷ []))
    (done ∷ done ∷ done ∷ done ∷ [])
    ≡ record {
      statements =
          store items (text "NUT " ∷ Num 12 ∷ [])
          ∷ Modify items (record { item = 1; value = Num 13 } ∷ record { item = 0; value = text "NUT " } ∷ [])
          ∷ find (Calc items (text "NUT " ∷ []))
          ∷ find (Sorted lines (Num 13))
          ∷ [];
      values = Num 0 ∷ text "" ∷ Num 0 ∷ text "" ∷ Num 13 ∷ text "NUT" ∷ Num 12 ∷ [];
      end = Some Stop;
    }
unfolding within verdict onto into digits
in_every_place = refl

-- words as a script has them, with one space between them
as_spelled : words_text (plain (codes "STORE") ∷ plain (codes "ITEM") ∷ plain (codes "PART") ∷ equals ∷ literal (codes "A B") ∷ plain (codes "QTY") ∷ equals ∷ plain (codes "12") ∷ []) ≡ codes "STORE ITEM PART = \"A B\" QTY = 12"
as_spelled = refl

nothing_spelled : words_text [] ≡ []
nothing_spelled = refl
