-- The lemmas that other crates cite. All others are this crate's own, free to change.

-- THE READER

-- a line without fault after a script is read, and what it says comes after what the script says
pub use Rattle.dbtg_script.proofs.Reading.LineBehind.{is_read_behind}
-- an empty script says nothing
pub use Rattle.dbtg_script.proofs.Reading.LineBehind.{nothing_read}
-- lines that were read stay known after one statement more
pub use Rattle.dbtg_script.proofs.Reading.CachedLines.{still_cached}
-- a line that was read says its statement, wherever there is room for it
pub use Rattle.dbtg_script.proofs.Reading.CachedLines.{at_index, new_read, says_again}
-- what is read of a known line may take memory
pub use Rattle.dbtg_script.proofs.Reading.AtOnce.{known_may}
-- a line without a fault has none that is found at once
pub use Rattle.dbtg_script.proofs.Reading.AtOnce.{not_at_once}
-- PRINTED TEXTS

-- the line beside an answer says the statement that was answered
pub use Rattle.dbtg_script.proofs.Printing.EchoedLines.{lines_say}
-- digits spell their number; what stands before a byte and after it; the parts of a printed key, which is read back
pub use Rattle.dbtg_script.proofs.Printing.KeyText.{behind_of, front_of, no_digit, number_decimal, number_part, printed_key, there}
-- the text of moves has no fault, and says these moves
pub use Rattle.dbtg_script.proofs.Printing.ReadBack.{moves_read_back}
-- the text of turns has no fault, and says these turns
pub use Rattle.dbtg_script.proofs.Printing.ReadBack.{turns_read_back}
-- FITTING

-- what is read of a line without a fault fits the schema
pub use Rattle.dbtg_script.proofs.Fitting.FittingStatements.{line_read_fits}
-- a fault that is not found has no cause
pub use Rattle.dbtg_script.proofs.Fitting.FittingNames.{not_when}
