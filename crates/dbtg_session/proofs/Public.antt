-- The lemmas that other crates cite. All others are this crate's own, free to change.

-- of a history that is known entry by entry, the last entry
pub use Rattle.dbtg_session.proofs.ShellReplies.{last_entry}
-- what holds whatever comes out holds of a refusal of memory
pub use Rattle.dbtg_session.proofs.ShellReplies.{on_err}
-- a list has something at each of its places, and at a place that was set what was put there
pub use Rattle.dbtg_session.proofs.SessionSteps.{found_below}
pub use Rattle.dbtg_session.proofs.TakingBack.{get_set}
