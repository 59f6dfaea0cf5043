-- The reader's steps, and that lines which were read before are read again.
-- May use: the lemmas on grammars of dbtg_schema.
-- Promises: `Accepted`, `NoFault`: a line without faults is derived, and one that is derived has no fault of the grammar; `CachedLines`: a line that is found is read as before.
pub mod Accepted
pub mod AtOnce
pub mod Derived
pub mod FaultyRows
pub mod FaultySteps
pub mod Firsts
pub mod Kinds
pub mod CachedLines
pub mod LineBehind
pub mod LineSteps
pub mod MoveSteps
pub mod NameSteps
pub mod NoFault
pub mod Numbers
pub mod Roles
pub mod ScriptSteps
pub mod Steps
pub mod Suppressed
pub mod TokenSteps
pub mod UsualLines
pub mod UsualStores
pub mod WantedRows
pub mod WordSteps
