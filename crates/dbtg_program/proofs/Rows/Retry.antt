-- A clerk who tries again where another has changed the record, until pieces are short.
use Rattle.std.specs.Prelude.{◌≡◌, refl, [], ◌∷◌, Some, None, false}
use Rattle.std.specs.Fmt.{digits}
use Rattle.dbtg_cells.specs.declared.key.Value.TheVariants.{Num}
use Rattle.dbtg_cells.specs.declared.usage.Mode.TheVariants.{Update}
use Rattle.dbtg_unit.specs.declared.statement.Form.TheVariants.{Calc}
use Rattle.dbtg_unit.specs.declared.statement.Statement.{Statement}
use Rattle.dbtg_unit.specs.declared.statement.Statement.TheVariants.{OpenArea, Get, Keep, Free}
use Rattle.dbtg_unit.specs.declared.unit.Cause.TheVariants.{ChangedByAnother, Deleted}
use Rattle.dbtg_unit.proofs.Rows.Words.{find, item_key, modify, text}
use Rattle.dbtg_unit.proofs.Rows.Defined.Schemas.{shop, side, items}
use Rattle.dbtg_script.specs.Tokens.{into, onto}
use Rattle.dbtg_script.specs.Reading.{verdict}
use Rattle.dbtg_program.specs.declared.program.Program.{Program}
use Rattle.dbtg_program.specs.declared.program.End.TheVariants.{Stop, Assert}
use Rattle.dbtg_program.specs.Going.{within}
use Rattle.dbtg_program.proofs.Rows.Words.{of_lines, played, done, found, got, no}

abbrev pub clerk : Program
clerk = of_lines shop (
    "01 WANTED PIC 9(3)."
    ∷ "MOVE 3 TO WANTED"
    ∷ "OPEN AREA SIDE USAGE-MODE IS UPDATE"
    ∷ "AGAIN."
    ∷ "FIND CALC ITEM RECORD USING PART = \"BOLT\""
    ∷ "KEEP."
    ∷ "GET."
    ∷ "IF ITEM.QTY<WANTED GO TO NONE"
    ∷ "SUBTRACT WANTED FROM ITEM.QTY"
    ∷ "MODIFY ITEM QTY = ITEM.QTY"
    ∷ "IF STATUS = 0803 GO TO AGAIN"
    ∷ "ASSERT STATUS = 0000"
    ∷ "STOP."
    ∷ "NONE."
    ∷ "FREE"
    ∷ [])

-- BOLT is found, kept and got with this many pieces
abbrev pub bolt : Statement
bolt = find (Calc items (text "BOLT" ∷ []))

-- another unit takes 4 of 10 in between; the second attempt uses what GET returned
second_attempt : played shop clerk (
    done ∷ found (item_key 1) ∷ done ∷ got (item_key 1) (text "BOLT" ∷ Num 10 ∷ []) ∷ no ChangedByAnother
    ∷ found (item_key 1) ∷ done ∷ got (item_key 1) (text "BOLT" ∷ Num 6 ∷ []) ∷ done ∷ [])
    ≡ record {
      statements =
          OpenArea side Update ∷ bolt ∷ Keep ∷ Get None ∷ modify items 1 (Num 7)
          ∷ bolt ∷ Keep ∷ Get None ∷ modify items 1 (Num 3) ∷ [];
      values = Num 0 ∷ text "" ∷ Num 0 ∷ text "BOLT" ∷ Num 3 ∷ Num 3 ∷ [];
      end = Some Stop;
    }
unfolding within verdict onto into digits
second_attempt = refl

-- too few are left: nothing is changed
too_few : played shop clerk (done ∷ found (item_key 1) ∷ done ∷ got (item_key 1) (text "BOLT" ∷ Num 2 ∷ []) ∷ done ∷ [])
    ≡ record {
      statements = OpenArea side Update ∷ bolt ∷ Keep ∷ Get None ∷ Free false ∷ [];
      values = Num 0 ∷ text "" ∷ Num 0 ∷ text "BOLT" ∷ Num 2 ∷ Num 3 ∷ [];
      end = Some Stop;
    }
unfolding within verdict onto into digits
too_few = refl

-- a refusal for another cause ends it at the ASSERT in line 12; a GET that is refused leaves the work area unchanged
other_refusal : played shop clerk (done ∷ found (item_key 1) ∷ done ∷ got (item_key 1) (text "BOLT" ∷ Num 8 ∷ []) ∷ no Deleted ∷ [])
    ≡ record {
      statements = OpenArea side Update ∷ bolt ∷ Keep ∷ Get None ∷ modify items 1 (Num 5) ∷ [];
      values = Num 0 ∷ text "" ∷ Num 0 ∷ text "BOLT" ∷ Num 5 ∷ Num 3 ∷ [];
      end = Some (Assert 12);
    }
unfolding within verdict onto into digits
other_refusal = refl
