-- What no contract of an exported function reaches: how the code tells changes, part by part. Nobody has to believe it.
-- May use: the definitions beside this folder, which name nothing of it.
pub mod Telling
