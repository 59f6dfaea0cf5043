-- Each statement keeps a legal database legal, with all its units: statement by statement, then all (`LegalEffect`, `LegalUnits`,
-- `LegalHistory`).
-- May use: `Lists` and `Records`.
-- Promises: `LegalUnits` and `LegalHistory`, on which the laws `effect_keeps_legal` and `replay_keeps_legal` rest.
pub mod LegalConnect
pub mod LegalDelete
pub mod LegalEffect
pub mod LegalHistory
pub mod LegalModify
pub mod LegalMoves
pub mod LegalOpen
pub mod LegalParts
pub mod LegalStore
pub mod LegalUnits
pub mod ListsChanged
pub mod Outcomes
pub mod PassedChecks
pub mod SameFacts
pub mod StoreLegal
