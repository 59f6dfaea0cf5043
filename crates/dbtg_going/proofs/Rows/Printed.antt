-- The lines of programs as they are printed.
use Rattle.std.specs.Prelude.{◌≡◌, refl, [], ◌∷◌, ◌++◌, codes}
use Rattle.std.specs.Fmt.{digits}
use Rattle.dbtg_cells.specs.declared.key.Value.TheVariants.{Num}
use Rattle.dbtg_unit.proofs.Rows.Words.{text}
use Rattle.dbtg_unit.proofs.Rows.Defined.Schemas.{card}
use Rattle.dbtg_script.specs.Tokens.{into, onto}
use Rattle.dbtg_program.specs.declared.program.End.TheVariants.{Stop, Assert, Size, Astray}
use Rattle.dbtg_program.specs.declared.program.Program.{Program}
use Rattle.dbtg_program.proofs.Rows.Words.{of_lines}
use Rattle.dbtg_going.specs.declared.member.Standing.{Standing}
use Rattle.dbtg_going.specs.declared.member.Standing.TheVariants.{Ended, Spent, GoesOn}
use Rattle.dbtg_going.specs.declared.member.Reached.{Reached}
use Rattle.dbtg_going.specs.Texts.{programs_text}

abbrev pub counting : Program
counting = of_lines card ("01 SEEN PIC 9(2)" ∷ "01 WHO PIC X(8)" ∷ "GET" ∷ [])

abbrev pub plain : Program
plain = of_lines card ("GET" ∷ [])

-- items first, then two counters
abbrev pub stands : Standing → Reached
stands how = record { standing = how; state = record { at = 3; values = Num 5 ∷ text "ADA" ∷ Num 12 ∷ text "BO" ∷ []; status = 0 } }

abbrev pub without : Standing → Reached
without how = record { standing = how; state = record { at = 1; values = Num 5 ∷ text "ADA" ∷ []; status = 0 } }

all_lines : programs_text 1 (counting ∷ plain ∷ plain ∷ counting ∷ plain ∷ plain ∷ []) (stands (Ended Stop) ∷ without (Ended (Assert 12)) ∷ without (Ended (Size 9)) ∷ stands (Ended (Astray 3)) ∷ without Spent ∷ without GoesOn ∷ [])
    ≡ codes "PROGRAM 1 STOP SEEN=12 WHO=\"BO\"" ++ 10
    ∷ codes "PROGRAM 2 ASSERT line 12" ++ 10
    ∷ codes "PROGRAM 3 SIZE line 9" ++ 10
    ∷ codes "PROGRAM 4 ASTRAY line 3 SEEN=12 WHO=\"BO\"" ++ 10
    ∷ codes "PROGRAM 5 SPENT" ++ 10
    ∷ codes "PROGRAM 6 GOES ON" ++ 10 ∷ []
unfolding onto into digits
all_lines = refl
