-- Statements that are made whole: serial runs, turns and audits are runs of the machine.
-- May use: `Runs` and `TheCore`.
-- Promises: `Wholes`: a statement on all cells is its effect; `Bares`: so without a history that is kept; `WaysBack`, `Reversals`: the last statement can be taken back; `SerialLaw`,
-- `TurnsTaken`; `TurnsWhole`: turns made whole stand for moves; `Audits`.
pub mod Audits
pub mod Bares
pub mod NamesOnce
pub mod Reversals
pub mod SerialLaw
pub mod SerialShown
pub mod TurnsTaken
pub mod TurnsWhole
pub mod WaysBack
pub mod Wholes
