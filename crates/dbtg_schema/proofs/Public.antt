-- The lemmas that other crates cite. All others are this crate's own, free to change.

-- GRAMMARS

-- an element of a list
pub use Rattle.dbtg_schema.proofs.Forms.Derived.{Among}
-- what is in two lists joined is in one of them
pub use Rattle.dbtg_schema.proofs.Forms.Derived.{among_append}
-- what is in a list of images is the image of an element
pub use Rattle.dbtg_schema.proofs.Forms.Derived.{among_map}
-- what is in a list that may be left out: the list is there, and has it
pub use Rattle.dbtg_schema.proofs.Forms.Chosen.{from_cond}
-- the words of labelled words
pub use Rattle.dbtg_schema.proofs.Forms.OneWay.{words_of}
-- a test passes any two kinds of words between which the form has to choose
pub use Rattle.dbtg_schema.proofs.Forms.OneWay.{is_told}
-- so each of these words comes before the other
pub use Rattle.dbtg_schema.proofs.Forms.Chosen.{Ranked, ranked}
-- that is so after each start, too
pub use Rattle.dbtg_schema.proofs.Forms.Chosen.{ranked_rest}
-- the starts are then in order
pub use Rattle.dbtg_schema.proofs.Forms.Chosen.{InOrder, in_order}
-- a start that a word fits is the one that is found for it, or comes after it
pub use Rattle.dbtg_schema.proofs.Forms.Chosen.{chosen}
-- a form that derives the empty list of words may end
pub use Rattle.dbtg_schema.proofs.Forms.Wanted.{ended as may_stop}
-- what is derived begins with a start of the form
pub use Rattle.dbtg_schema.proofs.Forms.Wanted.{starts_all}
-- where no start fits a word, nothing derived begins with it
pub use Rattle.dbtg_schema.proofs.Forms.Wanted.{no_way_on}
-- a form that may end derives the empty list of words
pub use Rattle.dbtg_schema.proofs.Forms.Derived.{derives_nothing}
-- a start that is found for a word is among the starts, and the word fits it
pub use Rattle.dbtg_schema.proofs.Forms.Derived.{start_found}
-- a word that fits a start, with what is derived by its rest after it, is derived by the form
pub use Rattle.dbtg_schema.proofs.Forms.Derived.{starts_derive}
-- a list without a first is empty
pub use Rattle.dbtg_schema.proofs.Forms.Firsts.{none_at_all}
-- a test whose negation passes does not pass
pub use Rattle.dbtg_schema.proofs.Forms.OneReading.{not_true}
-- SOUND SCHEMAS

-- a name compares alike with itself
pub use Rattle.dbtg_schema.proofs.Sound.Distinct.{bytes_same}
-- names that differ still do with one after them that is not among them
pub use Rattle.dbtg_schema.proofs.Sound.Distinct.{distinct_behind}
-- a name is in two lists joined just where it is in one of them
pub use Rattle.dbtg_schema.proofs.Sound.Distinct.{name_among_append}
-- two names that are there have the same number only if they are the same
pub use Rattle.dbtg_schema.proofs.Sound.Distinct.{one_name}
-- two lists are empty where both together are
pub use Rattle.dbtg_schema.proofs.Sound.Limits.{both_nil}
-- WHAT IS COMPUTED FROM A SCHEMA

-- some number passes both or neither of two tests that agree
pub use Rattle.dbtg_schema.proofs.Indexes.Erasings.{any_same}
-- the least closed set is closed, and lies in each closed set
pub use Rattle.dbtg_schema.proofs.Indexes.LeastClosed.{least_closed_is_least}
-- a list is no shorter than what a test keeps of it
pub use Rattle.dbtg_schema.proofs.Indexes.LeastClosed.{length_filter}
-- the first place in a list with one more at its end
pub use Rattle.dbtg_schema.proofs.Indexes.Positions.{position_more}
-- NUMBERS FROM 0 UP

-- past the end, no number is left
pub use Rattle.dbtg_schema.proofs.Indexes.Numbers.{numbers_end}
-- among the numbers from i on, i comes first and the others follow
pub use Rattle.dbtg_schema.proofs.Indexes.Numbers.{numbers_next}
-- OPTIONS

-- it is not something: it is nothing
pub use Rattle.dbtg_schema.proofs.Options.{none_is}
-- or else nothing: it stays as it is
pub use Rattle.dbtg_schema.proofs.Options.{or_none}
-- it is not nothing: it is something
pub use Rattle.dbtg_schema.proofs.Options.{some_from_none}
-- it is something: what it is
pub use Rattle.dbtg_schema.proofs.Options.{some_is}
-- NAMES AND PLACES

-- what is found among entries with one more after them
pub use Rattle.dbtg_schema.proofs.Indexes.NameIndexes.{lookup_more}
