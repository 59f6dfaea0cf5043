-- The texts that are printed, byte for byte, and the spellings that they share with what is read.
-- May use: the image, answers and units of dbtg_unit.
-- Promises: each printed text is one list of bytes, which the printer is held to.
pub mod Appending
pub mod Causes
pub mod Echo
pub mod Spelling
pub mod Texts
pub mod WordTexts
