-- What no contract of an exported function reaches: what units have done when they come back, and how their turns are laid out. Nobody has
-- to believe it.
-- May use: the definitions beside this folder, which name nothing of it.
pub mod Gone
pub mod Between
