-- The lemmas that other crates cite. All others are this crate's own, free to change.

-- BYTES AND WORDS

-- the bytes of two lists pass a test if those of each list do; bytes that pass one test pass another that follows from it
pub use Rattle.dbtg_trace.proofs.ReadBack.Words.{all_append, all_imply}
-- the digits of a number are digits, and letters of a word
pub use Rattle.dbtg_trace.proofs.ReadBack.Words.{all_digits}
pub use Rattle.dbtg_trace.proofs.ReadBack.Spelled.{letters_of_number}
-- a number that fits a picture is below 2^64
pub use Rattle.dbtg_trace.proofs.ReadBack.Spelled.{number_is_low}
-- the first word of bytes: after a space or a sign, letters up to a byte that is not one, or bytes between quotes
pub use Rattle.dbtg_trace.proofs.ReadBack.Words.{apart, behind_equals, behind_space, text_of, word_of}
-- whether bytes end inside a text
pub use Rattle.dbtg_trace.proofs.ReadBack.Words.{ends_as_begun, ends_behind, letter_is_no_quote}
pub use Rattle.dbtg_trace.proofs.ReadBack.Spelled.{text_is_no_quote}
-- bytes that can be printed
pub use Rattle.dbtg_trace.proofs.ReadBack.Said.{digit_shows, shows, text_shows}
-- LINES

-- if two lists together have no first element, neither list has one
pub use Rattle.dbtg_trace.proofs.ReadBack.Scripts.{none_after, none_in_front}
-- bytes with one more before them are not empty
pub use Rattle.dbtg_trace.proofs.ReadBack.Grammar.{some_bytes}
-- a line whose statement has no fault ends neither in a carriage return nor in a period, so nothing is trimmed
pub use Rattle.dbtg_trace.proofs.ReadBack.Lines.{ends_well, trimmed_well}
-- a test that is refused does not pass; one that gives no fault does not hold
pub use Rattle.dbtg_trace.proofs.ReadBack.Lines.{not_so, not_where}
-- a line without a fault; those of accepted scripts have none; the statements of such lines fit, and their trace is read back
pub use Rattle.dbtg_trace.proofs.ReadBack.Scripts.{Clean, clean_scripts, lines_read_back, statements_fit}
-- the items of a record type
pub use Rattle.dbtg_trace.proofs.ReadBack.Spelled.{items_pass}
-- each answer of a history can be said
pub use Rattle.dbtg_trace.proofs.ReadBack.Sayable.{sayable}
