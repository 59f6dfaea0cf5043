-- Lemmas on what is computed from a schema once it is read: indexes of names, least closed sets, the areas of a DELETE, the sets of a record type.
-- May use: only the definitions of a schema's lists; nothing of texts.
-- Promises: an index leads to the number of each name, `least_closed` is least, and the marked areas are those of a DELETE.
pub mod Chains
pub mod Connectings
pub mod EachAt
pub mod Erasings
pub mod LeastClosed
pub mod NameIndexes
pub mod Numbers
pub mod Places
pub mod Positions
pub mod SetsOfTypes
