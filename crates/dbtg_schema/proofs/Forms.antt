-- Lemmas on grammars: what is read to its end without a fault is derived, and in one way only.
-- They use only the definitions of texts, and know nothing of what makes a schema sound.
-- May use: the definitions of texts.
-- Promises: `Accepted` and `OneReading`: an accepted text is derived by the grammar of schemas, and in one way; `NoFault`: a text that it
-- derives has no fault of the grammar.
pub mod Accepted
pub mod Chosen
pub mod Derived
pub mod Firsts
pub mod Grammar
pub mod NoFault
pub mod OneDerivation
pub mod OneReading
pub mod OneWay
pub mod Parts
pub mod Roles
pub mod Runs
pub mod Seen
pub mod Steps
pub mod Walks
pub mod Wanted
pub mod WantedRows
