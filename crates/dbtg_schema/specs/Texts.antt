-- How a schema's text is read: its words, the grammar, the faults in their order, and the lists that an accepted text gives.
-- What a schema is, once it is read, stands beside this folder (`Lists`, `Structure`, `Sound`): nothing there cites these files, but
-- for the words that a text is cut into.
-- May use: the words on lists (`Lookups`), and the lists and limits of a schema.
-- Promises: `refusal` says the first fault of any text, and `schema_of` the lists of a text without one; the reader is held to
-- both.
pub mod Causes
pub mod Forms
pub mod Labels
pub mod Reading
pub mod SchemaFaults
pub mod SchemaGrammar
pub mod SchemaLists
pub mod Spelling
pub mod Wanted
pub mod Words
