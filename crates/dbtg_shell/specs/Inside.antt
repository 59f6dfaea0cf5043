-- What no contract of an exported function reaches: how the code keeps its parts, and words that lemmas use. Nobody has to believe it.
-- May use: the definitions beside this folder, which name nothing of it.
pub mod Programs
pub mod Saved
