-- What comes after a state does not depend on the versions of records, but for whether a record still has the version that a unit keeps
-- of it.
-- May use: the database and the replay of dbtg_unit, and the law of dbtg_states on the order in which units opened an area.
-- Promises: `Same`: states that differ at most there go on alike; `Images`: a state without versions is known by its image;
-- `Looked`: what a statement looks at determines what it does, but for versions.
pub mod Facts
pub mod Images
pub mod Looked
pub mod Matched
pub mod Noted
pub mod Same
pub mod Steps
pub mod Stored
pub mod Twins
