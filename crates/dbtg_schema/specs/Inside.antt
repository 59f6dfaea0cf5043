-- What no contract of an exported function reaches: how the code keeps its parts, and words that lemmas use. Nobody has to believe it.
-- May use: the definitions beside this folder, which name nothing of it.
pub mod Automaton
pub mod Connecting
pub mod Erasing
pub mod Labels
pub mod Lookups
pub mod NameIndexes
pub mod Reading
pub mod SetsOfTypes
pub mod Views
pub mod Words
