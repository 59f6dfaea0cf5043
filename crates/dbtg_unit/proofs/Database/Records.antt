-- Lemmas on what a legal database has: keys, values, owners, sort keys, units; and that its cells determine it.
-- May use: `Lists`.
-- Promises: `LiveKeys` and `OwnersFound` find whoever is live and whose list has a record; `Determined` says that the cells
-- tell all.
pub mod Determined
pub mod FoundIsLive
pub mod ItemsAfterModify
pub mod LiveKeys
pub mod NameOrder
pub mod NoCalcKey
pub mod Openings
pub mod OwnersFound
pub mod SameItems
pub mod SetsSeen
pub mod SortKeysCompare
pub mod UnitsOfSchema
pub mod ValueOrder
pub mod ValuesOfPictures
