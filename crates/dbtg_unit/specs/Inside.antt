-- What no contract of an exported function reaches: how the code keeps its parts, and words that lemmas use. Nobody has to believe it.
-- May use: the definitions beside this folder, which name nothing of it.
pub mod Areas
pub mod Belongs
pub mod Cells
pub mod Erasing
pub mod HeldNames
pub mod InHand
pub mod Kept
pub mod PlanOf
pub mod Prepared
pub mod Reserving
pub mod Seen
