-- What no contract of an exported function reaches: words of the code's parts and of lemmas. Nobody has to believe it.
-- May use: the definitions beside this folder, which name nothing of it.
pub mod Serial
