-- What no contract of an exported function reaches: how the code keeps its parts. Nobody has to believe it.
-- May use: the definitions beside this folder, which name nothing of it.
pub mod Mixed
pub mod Changed
