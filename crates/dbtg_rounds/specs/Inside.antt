-- What no contract of an exported function reaches: how a way round is found. Nobody has to believe it.
-- May use: the definitions beside this folder, which name nothing of it.
pub mod CutOff
pub mod Graphs
pub mod Reaching
pub mod Ruling
