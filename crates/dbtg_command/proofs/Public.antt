-- The lemmas that other crates cite. All others are this crate's own, free to change.

-- BYTES AT HAND

-- if as many scripts are held as there are in memory, in the places of these, they are the same scripts
pub use Rattle.dbtg_command.proofs.BytesAtHand.{all_are}
-- a text in memory can fail to be given only for want of memory
pub use Rattle.dbtg_command.proofs.BytesAtHand.{OnlyMemory}
-- an order that is held in the place of the one in memory, and is of the same kind, is the same order
pub use Rattle.dbtg_command.proofs.BytesAtHand.{order_is}
-- a fault that is reported for texts in memory is their first
pub use Rattle.dbtg_command.proofs.BytesAtHand.{run_told}
-- an order keeps its kind if something else says it
pub use Rattle.dbtg_command.proofs.BytesAtHand.{same_kind}
-- TEXTS THAT WERE READ

-- the texts that were read are accepted by the schema that was read
pub use Rattle.dbtg_command.proofs.TextsRead.{all_accepted}
-- a text that is held after others
pub use Rattle.dbtg_command.proofs.TextsRead.{held_behind}
-- the texts that were read, in this order
pub use Rattle.dbtg_command.proofs.TextsRead.{read_texts}
-- the statements of the scripts that were read, with their texts, and then of one more
pub use Rattle.dbtg_command.proofs.TextsRead.{texts_behind}
