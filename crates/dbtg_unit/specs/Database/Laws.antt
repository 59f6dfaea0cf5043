-- Histories and their replay, and what holds for every statement and history, as the laws of `src/laws.rt` and `src/legality.rt` say it.
-- May use: the state and the statements.
-- Promises: each law is the contract of a public function without a body, so it holds for whatever the definitions say.
pub mod Answering
pub mod Erased
pub mod Forward
pub mod Placing
pub mod Replay
pub mod Replaying
pub mod StaysLegal
pub mod Telling
