-- The lemmas that other crates cite. All others are this crate's own, free to change.

-- the history of a core is that of the machine that it is
pub use Rattle.dbtg_timeline.proofs.HistoryShown.{history_shown}
