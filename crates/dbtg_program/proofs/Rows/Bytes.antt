-- Texts as bytes: the faults that come before the words.
use Rattle.std.proofs.Common.{◌≡◌, refl, [], ◌∷◌, Some, None}
use Rattle.std.specs.Fmt.{digits}
use Rattle.dbtg_unit.proofs.Rows.Defined.Schemas.{card}
use Rattle.dbtg_script.specs.Lines.{lines}
use Rattle.dbtg_script.specs.Tokens.{into, onto, tokens}
use Rattle.dbtg_script.specs.declared.fault.Cause.TheVariants.{LineNotAllowed, NoStatementWord, UnexpectedWord}
use Rattle.dbtg_program.specs.declared.fault.ProgramCause.TheVariants.{AsInScript}
use Rattle.dbtg_program.specs.Faults.{refusal}

-- an empty text has no fault
nothing : refusal card [] ≡ None
unfolding lines tokens onto into digits
nothing = refl

-- a tab is fault 1, also in a note
tab_in_a_note : refusal card (42 ∷ 9 ∷ []) ≡ Some (record { line = 1; cause = AsInScript LineNotAllowed })
unfolding lines tokens onto into digits
tab_in_a_note = refl

-- a text that is not closed is fault 3, which comes before the 2 of its first word
unclosed : refusal card (34 ∷ []) ≡ Some (record { line = 1; cause = AsInScript UnexpectedWord })
unfolding lines tokens onto into digits
unclosed = refl

-- a note, and after it a line with one word
second_line : refusal card (42 ∷ 10 ∷ 88 ∷ []) ≡ Some (record { line = 2; cause = AsInScript NoStatementWord })
unfolding lines tokens onto into digits
second_line = refl

-- with its period the same word is a paragraph
paragraph : refusal card (42 ∷ 10 ∷ 88 ∷ 46 ∷ []) ≡ None
unfolding lines tokens onto into digits
paragraph = refl

-- the carriage return after a paragraph is dropped first
paragraph_and_return : refusal card (88 ∷ 46 ∷ 13 ∷ 10 ∷ []) ≡ None
unfolding lines tokens onto into digits
paragraph_and_return = refl
